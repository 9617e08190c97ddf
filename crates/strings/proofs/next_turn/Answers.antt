use Rattle.strings.proofs.Comparing.{turn_differs, turn-octet, turn_octet_less, turn_end}
use borrow.Author.Rules.{rules}
use Rattle.strings.proofs.next_turn.Goals as goal

pub returns-in_default : goal.returns-in_default
returns-in_default c = record { same = search turn_differs; on = search rules }

pub returns-then-s-gt0 : goal.returns-then-s-gt0
returns-then-s-gt0 c = record { same = search turn-octet; on = search turn_octet_less }

pub returns-then-c-s : goal.returns-then-c-s
returns-then-c-s c = record { same = search turn_end; on = search rules }
