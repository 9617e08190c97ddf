use Rattle.plan.proofs.Resolving.{resolving-here, step-low, written-task, written-long, next_member, next_on, next_count, next_no}
use borrow.Author.Rules.{rules}
use Rattle.plan.proofs.plan_next.Goals as goal

pub plan_id-requires : goal.plan_id-requires
plan_id-requires c = record { worded = search rules; admitted = search rules; here = search resolving-here; inside = search rules }

pub absent_step-absent-requires : goal.absent_step-absent-requires
absent_step-absent-requires c = record { worded = search rules; member = search next_member }

pub write-requires : goal.write-requires
write-requires c = search step-low

pub write-requires-in-Count : goal.write-requires-in-Count
write-requires-in-Count c = search step-low

pub returns-in-To : goal.returns-in-To
returns-in-To c = record { nexts = search next_on; task = search written-task }

pub returns-in-Count : goal.returns-in-Count
returns-in-Count c = record { nexts = search next_count; task = search written-task }

pub returns-in-No : goal.returns-in-No
returns-in-No c = record { nexts = search next_no; task = search rules }
