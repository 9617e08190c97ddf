use Rattle.gser.proofs.Steps.{Skipping}
use Rattle.gser.proofs.skip_spaces.Given as goal

abbrev pub invariant-loop-i : goal.invariant-loop-i
invariant-loop-i l = Skipping l.s l.at l.end l.i
