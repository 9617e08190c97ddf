use Rattle.engine.proofs.ListSteps.{counted-leads, counted-task}
use borrow.Author.Rules.{rules}
use Rattle.engine.proofs.plan_count.Goals as goal

pub returns : goal.returns
returns c = record { leads = search (counted-leads, c.ok_or.ensures.value); counts = search counted-task }
