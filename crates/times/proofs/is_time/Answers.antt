use Rattle.times.proofs.Laws.{time-is}
use Rattle.times.proofs.is_time.Goals as goal

pub returns : goal.returns
returns c = search time-is
