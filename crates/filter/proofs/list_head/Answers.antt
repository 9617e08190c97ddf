use Rattle.filter.proofs.Steps.{list-none, list-opens, list_closes}
use Rattle.filter.proofs.list_head.Goals as goal

pub returns-in_err-p : goal.returns-in_err-p
returns-in_err-p c = rw c.from_residual.ensures (search (list-none, c.in_err-p.was))

pub returns-then-octet-ne125 : goal.returns-then-octet-ne125
returns-then-octet-ne125 c = search (list-opens, c.in_ok-p.was)

pub returns : goal.returns
returns c = search (list_closes, c.in_ok-p.was)
