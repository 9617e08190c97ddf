use Rattle.nameoperand.proofs.Steps.{Copying}
use Rattle.nameoperand.proofs.copy.Given as goal

abbrev pub invariant-loop-i : goal.invariant-loop-i
invariant-loop-i l = Copying l.p l.from l.to l.n l.initial.memory l.i l.memory
