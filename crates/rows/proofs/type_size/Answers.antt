use Rattle.rows.proofs.Steps.{type-unsized, type-short, type-sized, type_unformed}
use borrow.Author.Rules.{rules}
use Rattle.rows.proofs.type_size.Goals as goal

pub returns-in_default : goal.returns-in_default
returns-in_default c = record { size = search type-unsized; inside = search rules }

pub returns-then-t-p : goal.returns-then-t-p
returns-then-t-p c = record { size = search type-short; inside = search rules }

pub returns-then-not-count_formed : goal.returns-then-not-count_formed
returns-then-not-count_formed c = record { size = search type_unformed; inside = search rules }

pub returns : goal.returns
returns c = record { size = search type-sized; inside = search rules }
