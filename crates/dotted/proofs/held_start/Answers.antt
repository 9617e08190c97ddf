use Rattle.dotted.proofs.HeldSteps.{start-broken, start-end, start_first}
use Rattle.dotted.proofs.held_start.Goals as goal

pub returns-in-Value : goal.returns-in-Value
returns-in-Value c = search (start_first, start-end, start-broken)

pub returns-in-End : goal.returns-in-End
returns-in-End c = search (start_first, start-end, start-broken)

pub returns-in-Broken : goal.returns-in-Broken
returns-in-Broken c = search (start_first, start-end, start-broken)
