use Rattle.assertion.proofs.Steps.{label_none, label_close, label_is}
use Rattle.assertion.proofs.label_at.Goals as goal

pub returns-in_err-p : goal.returns-in_err-p
returns-in_err-p c = rw c.from_residual.ensures (search (label_none, c.in_err-p.was))

pub returns-then-octet-ne32 : goal.returns-then-octet-ne32
returns-then-octet-ne32 c = search (label_close, c.in_ok-p.was)

pub returns : goal.returns
returns c = search (label_is, c.in_ok-p.was)
