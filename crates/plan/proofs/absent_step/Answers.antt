use Rattle.plan.proofs.Resolving.{absent_here, absent_kind, absent_fits, absent_row_fits}
use borrow.Author.Rules.{rules}
use Rattle.plan.proofs.absent_step.Goals as goal

pub overflow_add-first : goal.overflow_add-first
overflow_add-first c = record { fits = search absent_row_fits }

pub overflow_add-first-2 : goal.overflow_add-first-2
overflow_add-first-2 c = record { fits = search absent_fits }

pub absent_member-requires : goal.absent_member-requires
absent_member-requires c = record { worded = search rules; here = search absent_here; member = search absent_kind }
