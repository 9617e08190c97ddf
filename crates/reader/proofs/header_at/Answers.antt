use Rattle.reader.specs.There.{header_there}
use borrow.Author.Rules.{rules}
use Rattle.reader.proofs.header_at.Goals as goal

pub returns : goal.returns
unfolding header_there
returns c = search rules
