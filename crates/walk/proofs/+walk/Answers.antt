use Rattle.walk.proofs.Leaves.{turn-less}
use Rattle.walk.proofs.WalkSteps.{goes-within, goes-low, goes_steps, walk_visit, all-each, all_walked, one-goes, one-stops, one_at, one-low, one-fits, one_absent, one-nothing, each_falls, one_falls, one_less}
use Rattle.walk.proofs.WalkSteps.{each_start, each-length, each_goes, each_within, each_again, each-accepted, each_over, each-done}
use borrow.Author.Rules.{rules}
use Rattle.walk.proofs.+walk.Goals as goal

pub walk_each-loop-at-init : goal.walk_each-loop-at-init
walk_each-loop-at-init t c = search each_start

pub walk_each-walk_one-requires : goal.walk_each-walk_one-requires
walk_each-walk_one-requires t c = (search one_less, (search rules, search each_goes))

pub walk_each-next_after-at-requires : goal.walk_each-next_after-at-requires
walk_each-next_after-at-requires t c = search each_within

pub walk_each-loop-at-smaller : goal.walk_each-loop-at-smaller
walk_each-loop-at-smaller t c = search turn-less

pub walk_each-loop-at-preserved : goal.walk_each-loop-at-preserved
walk_each-loop-at-preserved t c = search each_again

pub walk_each-returns-in-Accepted : goal.walk_each-returns-in-Accepted
walk_each-returns-in-Accepted t c = search each-accepted

pub walk_each-returns-in-Over : goal.walk_each-returns-in-Over
walk_each-returns-in-Over t c = search each_over

pub walk_each-shape_of-out : goal.walk_each-shape_of-out
walk_each-shape_of-out t c = search each-length

pub walk_each-returns : goal.walk_each-returns
walk_each-returns t c = search each-done

pub walk_on-sort_at-sort-requires : goal.walk_on-sort_at-sort-requires
walk_on-sort_at-sort-requires t c = search goes-low

pub walk_on-visit-requires : goal.walk_on-visit-requires
walk_on-visit-requires t c = search goes-within

pub walk_on-returns-then-sort-eq-END : goal.walk_on-returns-then-sort-eq-END
walk_on-returns-then-sort-eq-END t c = search walk_visit

pub walk_on-opened-o-requires : goal.walk_on-opened-o-requires
walk_on-opened-o-requires t c = search goes-within

pub walk_on-walk_each-requires : goal.walk_on-walk_each-requires
walk_on-walk_each-requires t c = (search each_falls, (search rules, search all-each))

pub walk_on-returns : goal.walk_on-returns
walk_on-returns t c = search all_walked

pub walk_one-reach-requires : goal.walk_one-reach-requires
walk_one-reach-requires t c = record { worded = search rules; steps = search goes_steps }

pub walk_one-walk_on-requires : goal.walk_one-walk_on-requires
walk_one-walk_on-requires t c = (search one_falls, (search rules, (search one-goes, search one-stops)))

pub walk_one-visit_absent-requires : goal.walk_one-visit_absent-requires
walk_one-visit_absent-requires t c = record { low = search one-low; fits = search one-fits }

pub walk_one-returns-in-At : goal.walk_one-returns-in-At
walk_one-returns-in-At t c = search one_at

pub walk_one-returns-in-Absent : goal.walk_one-returns-in-Absent
walk_one-returns-in-Absent t c = search one_absent

pub walk_one-returns-in-Nothing : goal.walk_one-returns-in-Nothing
walk_one-returns-in-Nothing t c = search one-nothing
