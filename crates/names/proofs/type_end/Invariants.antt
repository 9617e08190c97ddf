use Rattle.names.proofs.AttributeSteps.{Typed}
use Rattle.names.proofs.type_end.Given as goal

abbrev pub invariant-loop-i : goal.invariant-loop-i
invariant-loop-i l = Typed l.p l.at l.i
