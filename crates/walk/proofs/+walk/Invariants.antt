use Prim.Native.Nat.{◌+◌, ◌-◌, ◌*◌}
use Rattle.walk.proofs.WalkSteps.{AllEach}
use Rattle.walk.proofs.+walk.Given as goal

abbrev pub decreases-walk_each : goal.decreases-walk_each
decreases-walk_each l = 3 * (18 - l.here.step) + 2

abbrev pub decreases-walk_on : goal.decreases-walk_on
decreases-walk_on l = 3 * (18 - l.here.step)

abbrev pub decreases-walk_one : goal.decreases-walk_one
decreases-walk_one l = 3 * (18 - l.here.step) + 1

abbrev pub invariant-walk_each-loop-at : goal.invariant-walk_each-loop-at
invariant-walk_each-loop-at l = AllEach l.t l.q l.operand l.v l.step l.initial.at l.stop l.n l.initial.out l.at l.made l.out

abbrev pub decreases-walk_each-loop-at : goal.decreases-walk_each-loop-at
decreases-walk_each-loop-at l = l.stop - l.at
