use Rattle.assertion.specs.Assertion.{comma_from}
use lib.ListN.{drop}
use mathlib.Core.Path.{◌≡◌}
use Rattle.assertion.proofs.comma_at.Given as goal

abbrev pub invariant-loop-i : goal.invariant-loop-i
invariant-loop-i l = comma_from (drop l.i l.s) l.i ≡ comma_from (drop l.at l.s) l.at
