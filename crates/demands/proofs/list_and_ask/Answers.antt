use Rattle.demands.proofs.Demand3.{demanded}
use Rattle.demands.proofs.list_and_ask.Goals as goal

pub returns : goal.returns
returns c = search demanded
