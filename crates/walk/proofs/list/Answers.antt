use Rattle.walk.proofs.WalkSteps.{asks-each, answers_by}
use borrow.Author.Rules.{rules}
use Rattle.walk.proofs.list.Goals as goal

pub walk_each-requires : goal.walk_each-requires
walk_each-requires c = record { worded = search rules; goes = search asks-each }

pub returns : goal.returns
returns c = search answers_by
