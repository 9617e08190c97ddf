use mathlib.Core.Path.{◌∙◌}
use Rattle.value.proofs.LeafSteps.{inside-fits, inside-ends}
use Rattle.value.proofs.MemberSteps.{row_fits_lem, member-fits, field_falls, field_here, field_member, fields_again, fields_bad, fields_absent}
use Rattle.value.proofs.MemberSteps.{fields_done, fields_short, fields-start, member_absent, member-default, member_is}
use Rattle.value.proofs.ModeSteps.{is_plain, is-other}
use Rattle.value.proofs.TagSteps.{own_usable, first_usable}
use Rattle.value.proofs.CheckSteps.{falls_body, falls_tagged, falls_wrapped, falls_value, falls_inner, list-row, answer-choice, answer-misfit}
use Rattle.value.proofs.CheckSteps.{answer-fields, answer_elements, answer_basic, wraps_misfit, wraps_inner, wraps_surplus, wraps_filled, target-here}
use Rattle.value.proofs.CheckSteps.{target-typed, tagged-explicit, tagged-other}
use Rattle.value.proofs.NestedSteps.{missing_is, row_here, row-member, row_falls, row_is}
use Rattle.value.proofs.ElementSteps.{leaves_basic, element-here, element-typed, element_falls, elements_bad, element-after, element-ends}
use Rattle.value.proofs.ElementSteps.{element-less, elements_disorder}
use Rattle.value.proofs.ElementSteps.{elements_again, elements_done, elements_start, listed-low}
use borrow.Author.Rules.{rules}
use Rattle.value.proofs.+check.Goals as goal

pub check-check_choice-requires : goal.check-check_choice-requires
check-check_choice-requires t c = (search falls_body, (search rules, (search rules, search rules)))

pub check-returns-then-kind-eq-CHOICE : goal.check-returns-then-kind-eq-CHOICE
check-returns-then-kind-eq-CHOICE t c = search answer-choice

pub check-returns-in_default : goal.check-returns-in_default
check-returns-in_default t c = search answer-misfit

pub check-overflow_add-stop : goal.check-overflow_add-stop
check-overflow_add-stop t c = record { fits = search inside-fits }

pub check-check_fields-requires : goal.check-check_fields-requires
check-check_fields-requires t c = (search falls_body, (search rules, (search rules, search inside-ends)))

pub check-returns-then-kind-eq-SEQUENCE : goal.check-returns-then-kind-eq-SEQUENCE
check-returns-then-kind-eq-SEQUENCE t c = search answer-fields

pub check-check_elements-requires : goal.check-check_elements-requires
check-check_elements-requires t c = (search falls_body, (search rules, (search rules, (search list-row, (search rules, search inside-ends)))))

pub check-returns-then-is_list : goal.check-returns-then-is_list
check-returns-then-is_list t c = search answer_elements

pub check-check_basic-requires : goal.check-check_basic-requires
check-check_basic-requires t c = record { ordered = search rules; inside = search inside-ends }

pub check-returns : goal.check-returns
check-returns t c = search answer_basic

pub check_choice-returns-in_err-member : goal.check_choice-returns-in_err-member
check_choice-returns-in_err-member t c = c.from_residual.ensures ∙ search (missing_is, c.in_err-member.was)

pub check_choice-check_tagged-requires : goal.check_choice-check_tagged-requires
check_choice-check_tagged-requires t c = (search (row_falls, c.in_ok-member.was), (search rules, (search (row_here, c.in_ok-member.was), (search (row-member, c.in_ok-member.was), search rules))))

pub check_choice-returns : goal.check_choice-returns
check_choice-returns t c = search (row_is, c.in_ok-member.was)

pub check_elements-check_leaves-requires : goal.check_elements-check_leaves-requires
check_elements-check_leaves-requires t c = record { worded = search rules; here = search rules; list = search rules; basic = search leaves_basic; ordered = search rules; inside = search rules }

pub check_elements-own_first-tag-requires : goal.check_elements-own_first-tag-requires
check_elements-own_first-tag-requires t c = record { worded = search rules; here = search element-here; typed = search element-typed }

pub check_elements-loop-i-init : goal.check_elements-loop-i-init
check_elements-loop-i-init t c = search elements_start

pub check_elements-check-requires : goal.check_elements-check-requires
check_elements-check-requires t c = (search element_falls, (search rules, (search element-here, (search rules, search own_usable))))

pub check_elements-returns-in_err-next : goal.check_elements-returns-in_err-next
check_elements-returns-in_err-next t c = c.from_residual.ensures ∙ search (elements_bad, c.in_err-next.was)

pub check_elements-in_order-requires : goal.check_elements-in_order-requires
check_elements-in_order-requires t c = record { low = search listed-low; high = search (element-after, c.in_ok-next.was); inside = search (element-ends, c.in_ok-next.was) }

pub check_elements-returns-then-not-in_order : goal.check_elements-returns-then-not-in_order
check_elements-returns-then-not-in_order t c = search (elements_disorder, c.in_ok-next.was)

pub check_elements-loop-i-smaller : goal.check_elements-loop-i-smaller
check_elements-loop-i-smaller t c = search (element-less, c.in_ok-next.was)

pub check_elements-loop-i-preserved : goal.check_elements-loop-i-preserved
check_elements-loop-i-preserved t c = search (elements_again, c.in_ok-next.was)

pub check_elements-returns : goal.check_elements-returns
check_elements-returns t c = search elements_done

pub check_fields-loop-j-init : goal.check_fields-loop-j-init
check_fields-loop-j-init t c = search fields-start

pub check_fields-overflow_add-row : goal.check_fields-overflow_add-row
check_fields-overflow_add-row t c = record { fits = search row_fits_lem }

pub check_fields-overflow_add-row-in-loop-j : goal.check_fields-overflow_add-row-in-loop-j
check_fields-overflow_add-row-in-loop-j t c = record { fits = search member-fits }

pub check_fields-check_member-requires : goal.check_fields-check_member-requires
check_fields-check_member-requires t c = (search field_falls, (search rules, (search field_here, (search field_member, search rules))))

pub check_fields-returns-in_err-i : goal.check_fields-returns-in_err-i
check_fields-returns-in_err-i t c = c.from_residual.ensures ∙ search (fields_bad, c.in_err-i.was)

pub check_fields-loop-j-preserved : goal.check_fields-loop-j-preserved
check_fields-loop-j-preserved t c = search (fields_again, c.in_ok-i.was)

pub check_fields-returns-then-stop-i : goal.check_fields-returns-then-stop-i
check_fields-returns-then-stop-i t c = search fields_absent

pub check_fields-returns-then-i-stop : goal.check_fields-returns-then-i-stop
check_fields-returns-then-i-stop t c = search fields_short

pub check_fields-returns : goal.check_fields-returns
check_fields-returns t c = search fields_done

pub check_member-check_plain_member-requires : goal.check_member-check_plain_member-requires
check_member-check_plain_member-requires t c = record { worded = search rules; here = search rules; member = search rules; plain = search is_plain; inside = search rules }

pub check_member-returns-then-not-member_starts : goal.check_member-returns-then-not-member_starts
check_member-returns-then-not-member_starts t c = search member_absent

pub check_member-stored_default-requires : goal.check_member-stored_default-requires
check_member-stored_default-requires t c = record { worded = search rules; here = search rules; member = search rules; other = search is-other; inside = search rules }

pub check_member-returns-then-stored_default : goal.check_member-returns-then-stored_default
check_member-returns-then-stored_default t c = search member-default

pub check_member-check_tagged-requires : goal.check_member-check_tagged-requires
check_member-check_tagged-requires t c = (search falls_tagged, (search rules, (search rules, (search rules, search rules))))

pub check_member-returns : goal.check_member-returns
check_member-returns t c = search member_is

pub check_tagged-check_wrapped-requires : goal.check_tagged-check_wrapped-requires
check_tagged-check_wrapped-requires t c = (search falls_wrapped, (search rules, (search target-here, (search target-typed, (search rules, search first_usable)))))

pub check_tagged-returns-then-tagged-eq1 : goal.check_tagged-returns-then-tagged-eq1
check_tagged-returns-then-tagged-eq1 t c = search tagged-explicit

pub check_tagged-check-requires : goal.check_tagged-check-requires
check_tagged-check-requires t c = (search falls_value, (search rules, (search target-here, (search rules, search first_usable))))

pub check_tagged-returns : goal.check_tagged-returns
check_tagged-returns t c = search tagged-other

pub check_wrapped-returns-in_default : goal.check_wrapped-returns-in_default
check_wrapped-returns-in_default t c = search wraps_misfit

pub check_wrapped-overflow_add-stop : goal.check_wrapped-overflow_add-stop
check_wrapped-overflow_add-stop t c = record { fits = search inside-fits }

pub check_wrapped-check-requires : goal.check_wrapped-check-requires
check_wrapped-check-requires t c = (search falls_inner, (search rules, (search rules, (search inside-ends, search own_usable))))

pub check_wrapped-returns-in_err-next : goal.check_wrapped-returns-in_err-next
check_wrapped-returns-in_err-next t c = rw c.from_residual.ensures (search (wraps_inner, c.in_err-next.was))

pub check_wrapped-returns-then-next-stop : goal.check_wrapped-returns-then-next-stop
check_wrapped-returns-then-next-stop t c = search (wraps_surplus, c.in_ok-next.was)

pub check_wrapped-returns : goal.check_wrapped-returns
check_wrapped-returns t c = search (wraps_filled, c.in_ok-next.was)
