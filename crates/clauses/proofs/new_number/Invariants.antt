use mathlib.Core.Path.{◌≡◌}
use mathlib.Core.Bool.{true}
use Rattle.clauses.specs.Inner.Work.{new_number_at}
use Rattle.clauses.proofs.new_number.Given as goal

abbrev pub invariant-loop-i : goal.invariant-loop-i
invariant-loop-i l = new_number_at l.t l.w l.first l.i l.p ≡ true
