use Rattle.nameoperand.proofs.WritingSteps.{count-written, count_long}
use borrow.Author.Rules.{rules}
use Rattle.nameoperand.proofs.put_count.Goals as goal

pub returns : goal.returns
returns c = record { written = search count-written; place = search rules }
