use Rattle.der.proofs.TimeSteps.{Digits}
use Rattle.der.proofs.digits.Given as goal

abbrev pub invariant-loop-b : goal.invariant-loop-b
invariant-loop-b l = Digits l.p l.b-index l.v
