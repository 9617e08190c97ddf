use Rattle.value.proofs.NestedSteps.{row_here, row-member, descends_start, inner_none, inner_this, inner_less, inner_again}
use borrow.Author.Rules.{rules}
use Rattle.value.proofs.choose_inner.Goals as goal

pub loop-member-init : goal.loop-member-init
loop-member-init c = search descends_start

pub returns-in_err-member : goal.returns-in_err-member
returns-in_err-member c = rw c.from_residual.ensures (search (inner_none, c.in_err-member.was))

pub is_nested-requires : goal.is_nested-requires
is_nested-requires c = record { worded = search rules; here = search (row_here, c.in_ok-member.was); member = search (row-member, c.in_ok-member.was) }

pub returns-then-not-is_nested : goal.returns-then-not-is_nested
returns-then-not-is_nested c = search (inner_this, c.in_ok-member.was)

pub named-choice-requires : goal.named-choice-requires
named-choice-requires c = record { worded = search rules; here = search (row_here, c.in_ok-member.was) }

pub loop-member-smaller : goal.loop-member-smaller
loop-member-smaller c = search (inner_less, c.in_ok-member.was)

pub loop-member-preserved : goal.loop-member-preserved
loop-member-preserved c = search (inner_again, c.in_ok-member.was)
