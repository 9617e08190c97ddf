use Rattle.demands.proofs.Demand2.{answered_truly}
use Rattle.demands.proofs.Demand1.{refuses_filter}
use Rattle.demands.proofs.ask.Goals as goal

pub returns : goal.returns
returns c = record { refusals = search refuses_filter; truths = search answered_truly }
