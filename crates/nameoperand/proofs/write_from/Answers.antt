use Rattle.nameoperand.proofs.WritingSteps.{type-long, writing_start, writing_none, writing_long, writing_behind, value-behind, value-within}
use Rattle.nameoperand.proofs.WritingSteps.{count_fits, count_room, count_small, writing_done, writing_on, writing_falls, writing_more}
use borrow.Author.Rules.{rules}
use Rattle.nameoperand.proofs.write_from.Goals as goal

pub loop-a-init : goal.loop-a-init
loop-a-init c = search writing_start

pub returns : goal.returns
returns c = search writing_none

pub write_attribute-n-requires : goal.write_attribute-n-requires
write_attribute-n-requires c = record { dotted = search type-long; valued = search value-behind; within = search value-within; short = search rules; behind = search writing_behind }

pub overflow_add-count : goal.overflow_add-count
overflow_add-count c = record { fits = search count_fits }

pub put_count-requires : goal.put_count-requires
put_count-requires c = record { small = search count_small; short = search count_room }

pub returns-then-octet-ne43 : goal.returns-then-octet-ne43
returns-then-octet-ne43 c = search writing_done

pub overflow_add-at : goal.overflow_add-at
overflow_add-at c = record { fits = search writing_on }

pub loop-a-smaller : goal.loop-a-smaller
loop-a-smaller c = search writing_falls

pub loop-a-preserved : goal.loop-a-preserved
loop-a-preserved c = search writing_more
