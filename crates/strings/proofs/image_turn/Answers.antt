use Rattle.strings.proofs.Comparing.{turn_last, turn-image, turn_image_less, turn_no_space, turn-space, turn_space_less}
use borrow.Author.Rules.{rules}
use Rattle.strings.proofs.image_turn.Goals as goal

pub returns-in_default : goal.returns-in_default
returns-in_default c = record { same = search turn_last; on = search rules }

pub returns-then-not-found : goal.returns-then-not-found
returns-then-not-found c = record { same = search turn-image; on = search turn_image_less }

pub returns-in_default-after_octet : goal.returns-in_default-after_octet
returns-in_default-after_octet c = record { same = search turn_no_space; on = search rules }

pub returns : goal.returns
returns c = record { same = search turn-space; on = search turn_space_less }
