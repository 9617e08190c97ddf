use Rattle.nameoperand.proofs.Steps.{lengths-written}
use borrow.Author.Rules.{rules}
use Rattle.nameoperand.proofs.put_lengths.Goals as goal

pub returns : goal.returns
returns c = record { written = search lengths-written; place = search rules }
