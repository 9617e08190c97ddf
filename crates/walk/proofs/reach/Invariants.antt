use Prim.Native.Nat.{◌-◌}
use Rattle.walk.proofs.WalkSteps.{On}
use Rattle.walk.proofs.reach.Given as goal

abbrev pub invariant-loop-k : goal.invariant-loop-k
invariant-loop-k l = On l.t l.q l.v l.initial.k l.initial.at l.k l.at

abbrev pub decreases-loop-k : goal.decreases-loop-k
decreases-loop-k l = 18 - l.k
