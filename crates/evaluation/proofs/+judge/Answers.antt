use Rattle.std.proofs.lemmas.Result.{err_from_is_err_and}
use Rattle.evaluation.proofs.FilterSteps.{filter_shallow, filter_item, filter-empty, filter-list, filter_not, not_read, filter_none, list-less, not-less, list-begins, list-lower, list-within, list-fault, list-ends, list-lost, list_falls, list_again}
use borrow.Author.Rules.{rules}
use Rattle.evaluation.proofs.+judge.Goals as goal

pub judge_filter-returns-then-left-eq0 : goal.judge_filter-returns-then-left-eq0
judge_filter-returns-then-left-eq0 t c = search filter_shallow

pub judge_filter-judge_list-requires : goal.judge_filter-judge_list-requires
judge_filter-judge_list-requires t c = (search list-less, (search rules, search rules))

pub judge_filter-judge_filter-requires : goal.judge_filter-judge_filter-requires
judge_filter-judge_filter-requires t c = (search not-less, (search rules, search rules))

pub judge_filter-returns-in-Some-Assertion : goal.judge_filter-returns-in-Some-Assertion
judge_filter-returns-in-Some-Assertion t c = search filter_item

pub judge_filter-returns-in-Some-EmptyList : goal.judge_filter-returns-in-Some-EmptyList
judge_filter-returns-in-Some-EmptyList t c = search filter-empty

pub judge_filter-returns-in-Some-OpenList : goal.judge_filter-returns-in-Some-OpenList
judge_filter-returns-in-Some-OpenList t c = search filter-list

pub judge_filter-returns-in_err-under-in-Some-Negation : goal.judge_filter-returns-in_err-under-in-Some-Negation
judge_filter-returns-in_err-under-in-Some-Negation t c = let p = err_from_is_err_and c.from_residual.result c.from_residual.ensures.1 in rw (p.1, p.2) (search (not_read, c.in_err-under-in-Some-Negation.was))

pub judge_filter-returns-in_ok-under-in-Some-Negation : goal.judge_filter-returns-in_ok-under-in-Some-Negation
judge_filter-returns-in_ok-under-in-Some-Negation t c = search (filter_not, c.in_ok-under-in-Some-Negation.was)

pub judge_filter-returns-in-None : goal.judge_filter-returns-in-None
judge_filter-returns-in-None t c = search filter_none

pub judge_list-loop-first-init : goal.judge_list-loop-first-init
judge_list-loop-first-init t c = search list-begins

pub judge_list-judge_filter-requires : goal.judge_list-judge_filter-requires
judge_list-judge_filter-requires t c = (search list-lower, (search rules, search list-within))

pub judge_list-returns-in_err-first : goal.judge_list-returns-in_err-first
judge_list-returns-in_err-first t c = let p = err_from_is_err_and c.from_residual.result c.from_residual.ensures.1 in rw (p.1, p.2) (search (list-fault, c.in_err-first.was))

pub judge_list-loop-first-smaller : goal.judge_list-loop-first-smaller
judge_list-loop-first-smaller t c = search (list_falls, c.in_ok-first.was)

pub judge_list-loop-first-preserved : goal.judge_list-loop-first-preserved
judge_list-loop-first-preserved t c = search (list_again, c.in_ok-first.was)

pub judge_list-returns-in-Some-Closed : goal.judge_list-returns-in-Some-Closed
judge_list-returns-in-Some-Closed t c = search (list-ends, c.in_ok-first.was)

pub judge_list-returns-in-None : goal.judge_list-returns-in-None
judge_list-returns-in-None t c = search (list-lost, c.in_ok-first.was)
