use Rattle.demands.proofs.Demand1.{refuses_listing}
use Rattle.demands.proofs.list.Goals as goal

pub returns : goal.returns
returns c = search refuses_listing
