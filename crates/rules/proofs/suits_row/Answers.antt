use Rattle.rules.proofs.Steps.{suits_basic, suits-choice, suits-other}
use Rattle.rules.proofs.suits_row.Goals as goal

pub returns-then-k-ne-CHOICE : goal.returns-then-k-ne-CHOICE
returns-then-k-ne-CHOICE c = search suits_basic

pub returns-then-suits_kind : goal.returns-then-suits_kind
returns-then-suits_kind c = search suits-choice

pub returns-else-suits_kind : goal.returns-else-suits_kind
returns-else-suits_kind c = search suits-other
