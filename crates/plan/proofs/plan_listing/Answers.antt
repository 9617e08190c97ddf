use Rattle.plan.proofs.TaskLaws.{listing-is, relisted}
use Rattle.plan.proofs.plan_listing.Goals as goal

pub returns : goal.returns
returns c = record { task = search listing-is; planned = search relisted }
