use Rattle.namematch.proofs.NameSteps.{Before}
use Rattle.namematch.proofs.same_before.Given as goal

abbrev pub invariant-loop : goal.invariant-loop
invariant-loop l = Before l.c l.x l.k l.at l.end l.counter
