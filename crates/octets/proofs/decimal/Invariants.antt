use Rattle.octets.proofs.Steps.{Decimal}
use Rattle.octets.proofs.decimal.Given as goal

abbrev pub invariant-loop-b : goal.invariant-loop-b
invariant-loop-b l = Decimal l.s l.b-index l.size
