use Prim.Native.Nat.{◌-◌}
use lib.ListN.{length}
use Rattle.nameoperand.proofs.WritingSteps.{Writing}
use Rattle.nameoperand.proofs.write_from.Given as goal

abbrev pub invariant-loop-a : goal.invariant-loop-a
invariant-loop-a l = Writing l.p l.first l.from l.initial.memory l.at l.n l.count l.memory

abbrev pub decreases-loop-a : goal.decreases-loop-a
decreases-loop-a l = length l.p - l.at
