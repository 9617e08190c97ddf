use Prim.Native.Nat.{◌-◌}
use Rattle.walk.proofs.Leaves.{AllSeeking}
use Rattle.walk.proofs.nth.Given as goal

abbrev pub invariant-loop-i : goal.invariant-loop-i
invariant-loop-i l = AllSeeking l.v l.start l.stop l.n l.i l.left

abbrev pub decreases-loop-i : goal.decreases-loop-i
decreases-loop-i l = l.stop - l.i
