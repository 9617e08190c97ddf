use Rattle.reference.proofs.IdSteps.{id_all, id_count, id_other}
use Rattle.reference.proofs.read_id.Goals as goal

pub returns-then-same : goal.returns-then-same
returns-then-same c = search id_all

pub returns-then-same-2 : goal.returns-then-same-2
returns-then-same-2 c = search id_count

pub returns : goal.returns
returns c = search id_other
