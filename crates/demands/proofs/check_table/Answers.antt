use Rattle.demands.proofs.Demand1.{refuses_table}
use Rattle.demands.proofs.check_table.Goals as goal

pub returns : goal.returns
returns c = search refuses_table
