use Rattle.rows.proofs.Steps.{follows-end, follows-fill, follows-name}
use Rattle.rows.proofs.follows.Goals as goal

pub returns-then-a-eq0 : goal.returns-then-a-eq0
returns-then-a-eq0 c = search follows-fill

pub returns-then-b-eq0 : goal.returns-then-b-eq0
returns-then-b-eq0 c = search follows-end

pub returns : goal.returns
returns c = search follows-name
