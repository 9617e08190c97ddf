use Rattle.demands.proofs.Demand1.{empties_part}
use Rattle.demands.proofs.part_bytes.Goals as goal

pub returns : goal.returns
returns c = search empties_part
