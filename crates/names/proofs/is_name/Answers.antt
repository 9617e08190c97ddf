use Rattle.names.proofs.NameSteps.{name-empty, name-start, name-over, name-none, name_done, name-more}
use borrow.Author.Rules.{rules}
use Rattle.names.proofs.is_name.Goals as goal

pub returns-then-is_empty : goal.returns-then-is_empty
returns-then-is_empty c = search (rules, name-empty)

pub loop-init : goal.loop-init
loop-init c = search (rules, name-start)

pub returns-in_default : goal.returns-in_default
returns-in_default c = search (rules, name-none)

pub returns-then-octet-ne44 : goal.returns-then-octet-ne44
returns-then-octet-ne44 c = search (rules, name_done)

pub loop-preserved : goal.loop-preserved
loop-preserved c = search (rules, name-more)

pub returns : goal.returns
returns c = search (rules, name-over)
