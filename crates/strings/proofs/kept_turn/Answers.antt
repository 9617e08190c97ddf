use Rattle.strings.proofs.Comparing.{turn-other, turn-kept, turn_kept_less}
use borrow.Author.Rules.{rules}
use Rattle.strings.proofs.kept_turn.Goals as goal

pub returns-in_default : goal.returns-in_default
returns-in_default c = record { same = search turn-other; on = search rules }

pub returns : goal.returns
returns c = record { same = search turn-kept; on = search turn_kept_less }
