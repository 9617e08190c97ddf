use Rattle.table.proofs.Writing.{going-few, going_next, going-bad, going_again, going_done, going-worded, not_worded}
use borrow.Author.Rules.{rules}
use Rattle.table.proofs.write_rows.Goals as goal

pub loop-i-init : goal.loop-i-init
loop-i-init c = (search going-few, search rules)

pub one_row-requires : goal.one_row-requires
one_row-requires c = search going_next

pub returns-in_default : goal.returns-in_default
returns-in_default c = record { told = search going-bad; left = search not_worded }

pub loop-i-preserved : goal.loop-i-preserved
loop-i-preserved c = (search rules, search going_again)

pub returns : goal.returns
returns c = record { told = search going_done; left = λ _. search going-worded }
