use Rattle.std.proofs.lemmas.Result.{err_from_is_err_and}
use Rattle.engine.proofs.ListSteps.{list-sizes, list-table, list-led, list-stored, list-asked, list-whole}
use Rattle.engine.proofs.list.Goals as goal

pub returns-in_err-require : goal.returns-in_err-require
returns-in_err-require c = let p = err_from_is_err_and c.from_residual.result c.from_residual.ensures.1 in rw (p.1, p.2) (search (list-sizes, c.in_err-require.ensures))

pub returns-in_err-admit : goal.returns-in_err-admit
returns-in_err-admit c = let p = err_from_is_err_and c.from_residual-in_err-admit.result c.from_residual-in_err-admit.ensures.1 in rw (p.1, p.2) (search (list-table, c.in_ok-require.ensures, c.in_err-admit.ensures.told))

pub returns-in_err-plan_count : goal.returns-in_err-plan_count
returns-in_err-plan_count c = let p = err_from_is_err_and c.from_residual-in_err-plan_count.result c.from_residual-in_err-plan_count.ensures.1 in rw (p.1, p.2) (search (list-led, c.in_ok-require.ensures, c.in_ok-admit.ensures.told, c.in_err-plan_count.ensures.leads))

pub returns-in_err-require-2 : goal.returns-in_err-require-2
returns-in_err-require-2 c = let p = err_from_is_err_and c.from_residual-in_err-require-2.result c.from_residual-in_err-require-2.ensures.1 in rw (p.1, p.2) (search (list-stored, c.in_ok-require.ensures, c.in_ok-admit.ensures.told, c.in_ok-plan_count.ensures.leads, c.in_err-require-2.ensures))

pub list_planned-requires-clause-asks : goal.list_planned-requires-clause-asks
list_planned-requires-clause-asks c = search (list-asked, c.in_ok-require.ensures, c.in_ok-admit.ensures.told, c.in_ok-plan_count.ensures.leads, c.in_ok-require-2.ensures)

pub returns : goal.returns
returns c = search (list-whole, c.in_ok-require.ensures, c.in_ok-admit.ensures.told, c.in_ok-plan_count.ensures.leads, c.in_ok-require-2.ensures)
