use Rattle.engine.proofs.AskSteps.{stored_malformed, stored_of, stored-over}
use Rattle.engine.proofs.ask_stored.Goals as goal

pub returns-in-Ok : goal.returns-in-Ok
returns-in-Ok c = search stored_of

pub returns-in-Err-Over : goal.returns-in-Err-Over
returns-in-Err-Over c = search stored-over

pub returns-in-Err-Malformed : goal.returns-in-Err-Malformed
returns-in-Err-Malformed c = search stored_malformed
