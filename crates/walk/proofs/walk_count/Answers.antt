use Rattle.walk.proofs.WalkSteps.{goes-within, count-list, walk_counted}
use Rattle.walk.proofs.walk_count.Goals as goal

pub opened-o-requires : goal.opened-o-requires
opened-o-requires c = search goes-within

pub count-requires : goal.count-requires
count-requires c = search count-list

pub returns : goal.returns
returns c = search walk_counted
