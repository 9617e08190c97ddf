use Rattle.namematch.proofs.Steps.{Using}
use Rattle.der.specs.Names.{pair_of}
use Rattle.names.specs.Compared.{stored}
use Rattle.namematch.proofs.use_attribute.Given as goal

abbrev pub invariant-loop : goal.invariant-loop
invariant-loop l = Using (stored (pair_of l.c)) l.x l.end l.n l.used l.place l.rest l.weight l.counter
