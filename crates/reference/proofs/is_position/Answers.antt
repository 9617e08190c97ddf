use borrow.Author.Rules.{rules}
use Rattle.reference.proofs.IdSteps.{position-none, position_nought, position-is}
use Rattle.reference.proofs.is_position.Goals as goal

pub returns-then-is_empty : goal.returns-then-is_empty
returns-then-is_empty c = search (rules, position-none)

pub returns-then-p-eq48 : goal.returns-then-p-eq48
returns-then-p-eq48 c = search (rules, position_nought)

pub returns : goal.returns
returns c = search (rules, position-is)
