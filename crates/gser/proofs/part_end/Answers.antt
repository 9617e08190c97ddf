use Rattle.gser.proofs.Steps.{parting_ends, parting_found, parting_on}
use Rattle.gser.proofs.part_end.Goals as goal

pub returns-then-s-i-eq44-clause-parts : goal.returns-then-s-i-eq44-clause-parts
returns-then-s-i-eq44-clause-parts c = search parting_found

pub loop-i-preserved : goal.loop-i-preserved
loop-i-preserved c = search parting_on

pub returns-clause-parts : goal.returns-clause-parts
returns-clause-parts c = search parting_ends
