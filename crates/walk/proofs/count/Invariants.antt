use Prim.Native.Nat.{◌-◌}
use Rattle.walk.proofs.Leaves.{AllCounting}
use Rattle.walk.proofs.count.Given as goal

abbrev pub invariant-loop-i : goal.invariant-loop-i
invariant-loop-i l = AllCounting l.v l.start l.stop l.i l.n

abbrev pub decreases-loop-i : goal.decreases-loop-i
decreases-loop-i l = l.stop - l.i
