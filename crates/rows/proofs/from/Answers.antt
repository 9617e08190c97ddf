use Rattle.rows.proofs.Steps.{from_past, from-inside}
use Rattle.rows.proofs.from.Goals as goal

pub returns-then-t-p : goal.returns-then-t-p
returns-then-t-p c = search from_past

pub returns : goal.returns
returns c = search from-inside
