use Rattle.plan.proofs.RowLaws.{member-here, member-fits}
use borrow.Author.Rules.{rules}
use Rattle.plan.proofs.plan_member.Goals as goal

pub overflow_add-row-2 : goal.overflow_add-row-2
overflow_add-row-2 c = record { fits = search member-fits }

pub named-to-requires : goal.named-to-requires
named-to-requires c = record { worded = search rules; here = search member-here }
