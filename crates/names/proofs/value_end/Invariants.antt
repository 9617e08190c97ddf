use Rattle.names.proofs.ValueSteps.{Valued}
use Prim.Native.Nat.{◌-◌}
use lib.ListN.{length}
use Rattle.names.proofs.value_end.Given as goal

abbrev pub invariant-loop-b : goal.invariant-loop-b
invariant-loop-b l = Valued l.p l.at l.i l.trailing l.a

abbrev pub decreases-loop-b : goal.decreases-loop-b
decreases-loop-b l = length l.p - l.i
