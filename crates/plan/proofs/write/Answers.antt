use Rattle.plan.specs.Inner.Resolve.{written}
use borrow.Author.Rules.{rules}
use Rattle.plan.proofs.write.Goals as goal

pub returns : goal.returns
unfolding written
returns c = search rules
