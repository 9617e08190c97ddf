use Rattle.der.proofs.MeaningSteps.{Plain}
use Rattle.der.proofs.plain.Given as goal

abbrev pub invariant-loop-b : goal.invariant-loop-b
invariant-loop-b l = Plain l.c l.b-index l.n
