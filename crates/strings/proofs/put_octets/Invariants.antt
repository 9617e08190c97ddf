use Rattle.strings.proofs.Preparing.{Putting}
use Rattle.strings.proofs.put_octets.Given as goal

abbrev pub invariant-loop-at : goal.invariant-loop-at
invariant-loop-at l = Putting l.fn.o.word l.fn.o.count l.n l.initial.memory l.word l.at l.memory
