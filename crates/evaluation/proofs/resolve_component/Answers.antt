use Rattle.evaluation.proofs.ItemSteps.{missing_leads, quoted-leads, missing_planned, quoted-planned}
use borrow.Author.Rules.{rules}
use Rattle.evaluation.proofs.resolve_component.Goals as goal

pub returns-in-None : goal.returns-in-None
returns-in-None c = record { leads = search missing_leads; within = search rules; planned = search missing_planned; task = search rules }

pub returns-in-Some : goal.returns-in-Some
returns-in-Some c = record { leads = search quoted-leads; within = search rules; planned = search quoted-planned; task = search rules }
