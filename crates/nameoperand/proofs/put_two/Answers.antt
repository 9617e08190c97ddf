use Rattle.nameoperand.proofs.Steps.{two-written, two-long}
use borrow.Author.Rules.{rules}
use Rattle.nameoperand.proofs.put_two.Goals as goal

pub returns : goal.returns
returns c = record { written = search two-written; place = search rules }
