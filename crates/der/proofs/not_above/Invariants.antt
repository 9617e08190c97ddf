use Rattle.der.specs.Order.{not_above}
use mathlib.Core.Path.{◌≡◌}
use lib.ListN.{drop}
use Rattle.der.proofs.not_above.Given as goal

abbrev pub invariant-loop-i : goal.invariant-loop-i
invariant-loop-i l = not_above (drop l.i l.a) (drop l.i l.b) ≡ not_above l.a l.b
