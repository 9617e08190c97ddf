use Rattle.namematch.proofs.NameSteps.{Reaching}
use Rattle.namematch.proofs.same_last.Given as goal

abbrev pub invariant-loop : goal.invariant-loop
invariant-loop l = Reaching l.c l.x l.n l.place l.reached l.counter
