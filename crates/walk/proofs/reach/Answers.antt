use Rattle.walk.proofs.WalkSteps.{is_move, reach_absent, reach-all, reach-count, reach-end, reach_falls, reach-fits, reach-low, reach-nothing, reach-on, reach-start, reach_steps}
use borrow.Author.Rules.{rules}
use Rattle.walk.proofs.reach.Goals as goal

pub loop-k-init : goal.loop-k-init
loop-k-init c = search reach-start

pub sort_at-sort-requires : goal.sort_at-sort-requires
sort_at-sort-requires c = search reach-low

pub returns-then-sort-eq-END : goal.returns-then-sort-eq-END
returns-then-sort-eq-END c = search reach-end

pub returns-then-sort-eq-COUNT : goal.returns-then-sort-eq-COUNT
returns-then-sort-eq-COUNT c = search reach-count

pub returns-then-sort-eq-ALL : goal.returns-then-sort-eq-ALL
returns-then-sort-eq-ALL c = search reach-all

pub one_move-requires : goal.one_move-requires
one_move-requires c = record { worded = search rules; steps = search reach_steps; sort = search is_move }

pub overflow_add-k : goal.overflow_add-k
overflow_add-k c = search reach-fits

pub loop-k-smaller : goal.loop-k-smaller
loop-k-smaller c = search reach_falls

pub loop-k-preserved : goal.loop-k-preserved
loop-k-preserved c = search reach-on

pub returns-in-Absent : goal.returns-in-Absent
returns-in-Absent c = search reach_absent

pub returns-in-Nothing : goal.returns-in-Nothing
returns-in-Nothing c = search reach-nothing
