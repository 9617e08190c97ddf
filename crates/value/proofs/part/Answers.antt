use Rattle.value.proofs.PartSteps.{part_limits, part_past, part_long, part_there}
use Rattle.value.proofs.part.Goals as goal

pub returns-then-not-fits : goal.returns-then-not-fits
returns-then-not-fits c = search part_limits

pub returns-then-value-place : goal.returns-then-value-place
returns-then-value-place c = search part_past

pub returns-then-value-place-2 : goal.returns-then-value-place-2
returns-then-value-place-2 c = search part_long

pub returns : goal.returns
returns c = search part_there
