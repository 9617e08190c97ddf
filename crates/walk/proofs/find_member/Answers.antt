use Rattle.plan.proofs.RowLaws.{row_fits_lem}
use Rattle.walk.proofs.Members.{pass_start, pass_here, pass_kind, pass_fits, pass_within, pass_there, pass_lacks, find_within, find_absent, find_there}
use borrow.Author.Rules.{rules}
use Rattle.walk.proofs.find_member.Goals as goal
use Rattle.walk.proofs.find_member.Goals.{then-member_starts, else-member_starts}

pub loop-k-init : goal.loop-k-init
loop-k-init c = search pass_start

pub overflow_add-row : goal.overflow_add-row
overflow_add-row c = record { fits = search (row_fits_lem, rules) }

pub overflow_add-row-in-loop-k : goal.overflow_add-row-in-loop-k
overflow_add-row-in-loop-k c = record { fits = search (pass_fits, rules) }

pub member_starts-requires : goal.member_starts-requires
member_starts-requires c = record { worded = search rules; here = search (pass_here, rules); member = search (pass_kind, rules); inside = search (pass_kind, rules) }

pub next_after-i-requires : goal.next_after-i-requires
next_after-i-requires c = search (pass_within, rules)

pub loop-k-preserved : goal.loop-k-preserved
loop-k-preserved c =
    elim c.if-member_starts.branch [
      | then-member_starts w ↦ rw w.i-is (search (rules, pass_there))
      | else-member_starts w ↦ rw w.i-is (search (rules, pass_lacks))
    ]

pub overflow_add-row-2 : goal.overflow_add-row-2
overflow_add-row-2 c = record { fits = search (row_fits_lem, rules) }

pub overflow_add-row-3 : goal.overflow_add-row-3
overflow_add-row-3 c = record { fits = search (pass_fits, rules) }

pub member_starts-requires-2 : goal.member_starts-requires-2
member_starts-requires-2 c = record { worded = search rules; here = search (pass_here, rules); member = search (pass_kind, rules); inside = search (pass_kind, rules) }

pub returns-then-not-member_starts : goal.returns-then-not-member_starts
returns-then-not-member_starts c = search find_absent

pub overflow_add-row-4 : goal.overflow_add-row-4
overflow_add-row-4 c = record { fits = search (row_fits_lem, rules) }

pub overflow_add-row-5 : goal.overflow_add-row-5
overflow_add-row-5 c = record { fits = search (pass_fits, rules) }

pub inside-requires : goal.inside-requires
inside-requires c = record { worded = search rules; here = search (pass_here, rules); member = search (pass_kind, rules); value = search find_within }

pub returns : goal.returns
returns c = search find_there
