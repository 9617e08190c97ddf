use Rattle.assertion.proofs.Steps.{value-bare, value_labelled}
use Rattle.assertion.proofs.value_part.Goals as goal

pub returns-in_err-p : goal.returns-in_err-p
returns-in_err-p c = rw c.from_residual.ensures (search (value-bare, c.in_err-p.was))

pub returns : goal.returns
returns c = search (value_labelled, c.in_ok-p.was)
