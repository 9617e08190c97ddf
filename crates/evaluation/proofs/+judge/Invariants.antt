-- the text that is left falls
use Rattle.evaluation.proofs.FilterSteps.{Listing}
use Prim.Native.Nat.{◌+◌, ◌-◌, ◌*◌}
use lib.ListN.{length}
use Rattle.table.specs.Inner.Rows.{type_at}
use Rattle.filter.specs.Inner.Answers.{report_join}
use Rattle.evaluation.specs.Inner.Work.{stored_outcome}
use Rattle.evaluation.proofs.+judge.Given as goal

abbrev pub decreases-judge_filter : goal.decreases-judge_filter
decreases-judge_filter l = 2 * (length l.f.now - l.at)

abbrev pub decreases-judge_list : goal.decreases-judge_list
decreases-judge_list l = 2 * (length l.f.now - l.at) + 1

abbrev pub invariant-judge_list-loop-first : goal.invariant-judge_list-loop-first
invariant-judge_list-loop-first l =
    Listing (stored_outcome (type_at l.t 0) l.v) l.f (report_join l.join) l.initial.progress l.depth l.initial.items l.budget l.initial.made l.initial.place l.progress l.made l.place l.items

abbrev pub decreases-judge_list-loop-first : goal.decreases-judge_list-loop-first
decreases-judge_list-loop-first l = length l.f - l.place
