use Rattle.integers.proofs.Bounds.{contents-fit}
use borrow.Author.Rules.{rules}
use Rattle.integers.proofs.is_below.Goals as goal

pub returns-clause-fits : goal.returns-clause-fits
returns-clause-fits c = search (contents-fit, rules)
