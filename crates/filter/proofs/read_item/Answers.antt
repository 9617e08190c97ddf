use Rattle.filter.proofs.Steps.{item_full, item_bad, item_is}
use Rattle.filter.proofs.read_item.Goals as goal

pub returns-then-room-eq0 : goal.returns-then-room-eq0
returns-then-room-eq0 c = search item_full

pub returns-in_err-parts : goal.returns-in_err-parts
returns-in_err-parts c = rw c.from_residual.ensures (search (item_bad, c.in_err-parts.was))

pub returns : goal.returns
returns c = search (item_is, c.in_ok-parts.was)
