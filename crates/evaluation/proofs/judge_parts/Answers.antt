use Rattle.evaluation.proofs.ItemSteps.{parts_unknown, parts-known}
use borrow.Author.Rules.{rules}
use Rattle.evaluation.proofs.judge_parts.Goals as goal

pub returns-in_default : goal.returns-in_default
returns-in_default c = rw c.of.ensures (search parts_unknown)

pub judge_ruled-requires : goal.judge_ruled-requires
judge_ruled-requires c = record { ready = search rules; known = search parts-known; within = search rules }
