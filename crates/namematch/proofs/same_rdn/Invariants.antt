use Rattle.namematch.proofs.Steps.{Matching}
use Rattle.namematch.proofs.same_rdn.Given as goal

abbrev pub invariant-loop : goal.invariant-loop
invariant-loop l = Matching l.c l.x l.end l.n l.at l.used l.counter
