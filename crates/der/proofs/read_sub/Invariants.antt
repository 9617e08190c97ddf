use Rattle.der.specs.Contents.{subs_from, subidentifiers}
use mathlib.Core.Bool.{true}
use mathlib.Core.Path.{◌≡◌}
use Prim.Native.Nat.{◌≤◌}
use lib.ListN.{drop}
use Rattle.der.proofs.read_sub.Given as goal

abbrev pub invariant-loop-i : goal.invariant-loop-i
invariant-loop-i l = (l.at ≤ l.i) × (subs_from true l.v (drop l.i l.c) ≡ subidentifiers (drop l.at l.c))
