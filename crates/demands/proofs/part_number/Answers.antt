use Rattle.demands.proofs.Demand1.{refuses_part}
use Rattle.demands.proofs.part_number.Goals as goal

pub returns : goal.returns
returns c = search refuses_part
