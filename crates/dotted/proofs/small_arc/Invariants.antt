use Rattle.dotted.proofs.SmallSteps.{Reading}
use Rattle.dotted.proofs.small_arc.Given as goal

abbrev pub invariant-loop-i : goal.invariant-loop-i
invariant-loop-i l = Reading l.t l.at l.i l.number
