use Rattle.escape.specs.Escape.{escaped_text}
use Rattle.escape.proofs.Laws.{to_come}
use mathlib.Core.Path.{◌≡◌}
use Prim.Native.Nat.{◌+◌}
use lib.ListN.{length}
use Rattle.escape.proofs.fits.Given as goal

abbrev pub invariant-loop-i : goal.invariant-loop-i
invariant-loop-i l = length (escaped_text l.text) + l.left ≡ l.size + length (to_come l.text l.i)
