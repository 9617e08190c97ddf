use Rattle.gser.proofs.Steps.{Parting}
use Rattle.gser.proofs.part_end.Given as goal

abbrev pub invariant-loop-i : goal.invariant-loop-i
invariant-loop-i l = Parting l.s l.at l.i
