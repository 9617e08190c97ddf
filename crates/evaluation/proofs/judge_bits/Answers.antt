use Rattle.evaluation.proofs.BitsSteps.{bits-undefined, bits-asks, bits-tested}
use borrow.Author.Rules.{rules}
use Rattle.evaluation.proofs.judge_bits.Goals as goal

pub returns-in_default : goal.returns-in_default
returns-in_default c = rw c.of.ensures (search bits-undefined)

pub test-requires : goal.test-requires
test-requires c = record { worded = search rules; asks = search bits-asks }

pub returns : goal.returns
returns c = search (bits-tested, c.requires)
