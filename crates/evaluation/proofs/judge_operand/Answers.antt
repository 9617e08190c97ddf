use Rattle.evaluation.proofs.ItemSteps.{conforming_unsuited, conforming_asks, conforming_tested}
use borrow.Author.Rules.{rules}
use Rattle.evaluation.proofs.judge_operand.Goals as goal

pub returns-then-not-suits_target : goal.returns-then-not-suits_target
returns-then-not-suits_target c = rw c.of.ensures (search conforming_unsuited)

pub test-requires : goal.test-requires
test-requires c = record { worded = search rules; asks = search conforming_asks }

pub returns : goal.returns
returns c = search (conforming_tested, c.requires)
