use Rattle.demands.proofs.Demand1.{refuses_value}
use Rattle.demands.proofs.check_value.Goals as goal

pub returns : goal.returns
returns c = search refuses_value
