use Rattle.filter.proofs.Steps.{filter_shallow, filter_item, filter-empty, filter-list, filter-negation, filter_none, list_stop, list_again, list_falls, list-ends, list_lost}
use mathlib.Core.Path.{refl, ap, ◌∙◌}
use Rattle.std.specs.Prelude.{Some}
use Rattle.filter.proofs.+read.Goals as goal

pub read_filter-returns-then-depth-eq0 : goal.read_filter-returns-then-depth-eq0
read_filter-returns-then-depth-eq0 t c = search filter_shallow

pub read_filter-returns-in-Assertion : goal.read_filter-returns-in-Assertion
read_filter-returns-in-Assertion t c = search (filter_item, c.in_ok-p.was)

pub read_filter-returns-in-EmptyList : goal.read_filter-returns-in-EmptyList
read_filter-returns-in-EmptyList t c = search (filter-empty, c.in_ok-p.was ∙ ap Some c.in-EmptyList.is)

pub read_filter-returns-in-OpenList : goal.read_filter-returns-in-OpenList
read_filter-returns-in-OpenList t c = search (filter-list, c.in_ok-p.was ∙ ap Some c.in-OpenList.is)

pub read_filter-returns-in-Negation : goal.read_filter-returns-in-Negation
read_filter-returns-in-Negation t c = search (filter-negation, c.in_ok-p.was)

pub read_filter-returns-in_err-p : goal.read_filter-returns-in_err-p
read_filter-returns-in_err-p t c = rw c.from_residual.ensures (search (filter_none, c.in_err-p.was))

pub read_list-loop-rest-init : goal.read_list-loop-rest-init
read_list-loop-rest-init t c = refl

pub read_list-returns-in_err-rest : goal.read_list-returns-in_err-rest
read_list-returns-in_err-rest t c = rw c.from_residual.ensures (search (list_stop, c.in_err-rest.was))

pub read_list-loop-rest-smaller : goal.read_list-loop-rest-smaller
read_list-loop-rest-smaller t c = search (list_falls, c.in_ok-rest.was, c.in_ok-p.was)

pub read_list-loop-rest-preserved : goal.read_list-loop-rest-preserved
read_list-loop-rest-preserved t c = search (list_again, c.in_ok-rest.was, c.in_ok-p.was)

pub read_list-returns-in-Closed : goal.read_list-returns-in-Closed
read_list-returns-in-Closed t c = search (list-ends, c.in_ok-rest.was, c.in_ok-p.was)

pub read_list-returns-in_err-p : goal.read_list-returns-in_err-p
read_list-returns-in_err-p t c = rw c.from_residual-in_err-p.ensures (search (list_lost, c.in_ok-rest.was, c.in_err-p.was))
