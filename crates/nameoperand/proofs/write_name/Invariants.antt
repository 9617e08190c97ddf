use Prim.Native.Nat.{◌-◌}
use lib.ListN.{length}
use Rattle.nameoperand.proofs.WritingSteps.{Naming}
use Rattle.nameoperand.proofs.write_name.Given as goal

abbrev pub invariant-loop-at : goal.invariant-loop-at
invariant-loop-at l = Naming l.p l.at l.n l.memory

abbrev pub decreases-loop-at : goal.decreases-loop-at
decreases-loop-at l = length l.p - l.at
