use Rattle.engine.proofs.ListSteps.{asked_so, asked-listed, planned-short, planned-whole}
use borrow.Author.Rules.{rules}
use Rattle.engine.proofs.list_planned.Goals as goal

pub tally-n-requires : goal.tally-n-requires
tally-n-requires c = record { worded = search rules; asks = search asked_so }

pub returns-then-limit-n : goal.returns-then-limit-n
returns-then-limit-n c = search planned-short

pub list-requires : goal.list-requires
list-requires c = record { worded = search rules; asks = search asked-listed }

pub returns : goal.returns
returns c = search planned-whole
