use Rattle.quote.proofs.Steps.{Quotes}
use Rattle.quote.proofs.write.Given as goal

abbrev pub invariant-loop-octet : goal.invariant-loop-octet
invariant-loop-octet l = Quotes l.text l.initial.room l.n l.octet-index l.room
