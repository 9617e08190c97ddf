use Rattle.assertion.proofs.Steps.{assertion_open, assertion-is}
use Rattle.assertion.proofs.read_assertion.Goals as goal

pub returns-in_err-p : goal.returns-in_err-p
returns-in_err-p c = rw c.from_residual.ensures (search (assertion_open, c.in_err-p.was))

pub returns : goal.returns
returns c = search (assertion-is, c.in_ok-p.was)
