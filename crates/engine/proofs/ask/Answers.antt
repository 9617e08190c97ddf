use Rattle.std.proofs.lemmas.Result.{err_from_is_err_and}
use Rattle.engine.proofs.AskSteps.{ask-sizes, ask-table, ask-stored, ask-ready, ask-whole}
use Rattle.engine.proofs.ask.Goals as goal

pub returns-in_err-require : goal.returns-in_err-require
returns-in_err-require c = let p = err_from_is_err_and c.from_residual.result c.from_residual.ensures.1 in rw (p.1, p.2) (search (ask-sizes, c.in_err-require.ensures))

pub returns-in_err-admit : goal.returns-in_err-admit
returns-in_err-admit c = let p = err_from_is_err_and c.from_residual-in_err-admit.result c.from_residual-in_err-admit.ensures.1 in rw (p.1, p.2) (search (ask-table, c.in_ok-require.ensures, c.in_err-admit.ensures.told))

pub returns-then-not-is_stored : goal.returns-then-not-is_stored
returns-then-not-is_stored c = search (ask-stored, c.in_ok-require.ensures, c.in_ok-admit.ensures.told)

pub ask_stored-requires : goal.ask_stored-requires
ask_stored-requires c = search (ask-ready, c.in_ok-require.ensures, c.in_ok-admit.ensures.told, c.in_ok-admit.ensures.words)

pub returns : goal.returns
returns c = search (ask-whole, c.in_ok-require.ensures, c.in_ok-admit.ensures.told)
