use Rattle.plan.proofs.Resolving.{steps_start, steps_resolving, steps_long, steps_fits, steps_step, steps_again, steps_less, follow_count, follow_counted, follow_no, follow_task, follow_row, follow_within, follow_done, follow_kept, follow_long, follow_nothing}
use borrow.Author.Rules.{rules}
use Rattle.plan.proofs.follow.Goals as goal

pub loop-place-init : goal.loop-place-init
loop-place-init c = search steps_start

pub plan_next-requires : goal.plan_next-requires
plan_next-requires c = record { worded = search rules; admitted = search rules; resolving = search steps_resolving; inside = search rules }

pub overflow_add-step : goal.overflow_add-step
overflow_add-step c = record { fits = search steps_fits }

pub loop-place-smaller : goal.loop-place-smaller
loop-place-smaller c = search steps_less

pub loop-place-preserved : goal.loop-place-preserved
loop-place-preserved c = search steps_again

pub returns-in-Count : goal.returns-in-Count
returns-in-Count c = record { leads = search follow_count; within = search rules; planned = search follow_counted; task = search follow_task }

pub returns-in-No : goal.returns-in-No
returns-in-No c = record { leads = search follow_no; within = search rules; planned = search follow_nothing; task = search follow_task }

pub write_end-requires : goal.write_end-requires
write_end-requires c = search steps_step

pub returns : goal.returns
returns c = record { leads = search follow_row; within = search follow_within; planned = search follow_done; task = search follow_kept }
