use Rattle.octets.specs.Text.{skip}
use mathlib.Core.Path.{◌≡◌}
use Rattle.octets.proofs.skip.Given as goal

abbrev pub invariant-loop-i : goal.invariant-loop-i
invariant-loop-i l = skip l.s l.at ≡ skip l.s l.i
