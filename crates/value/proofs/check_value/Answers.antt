use Rattle.value.proofs.EntrySteps.{sizes-table, sizes-value, sizes-fit}
use Rattle.value.proofs.check_value.Goals as goal

pub returns-then-not-fits : goal.returns-then-not-fits
returns-then-not-fits c = search sizes-table

pub returns-then-not-fits-2 : goal.returns-then-not-fits-2
returns-then-not-fits-2 c = search sizes-value

pub returns : goal.returns
returns c = search sizes-fit
