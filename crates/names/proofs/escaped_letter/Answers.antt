use Rattle.names.proofs.LetterSteps.{escape_end, escape_special, escape_wrong, escape_hex}
use Rattle.names.proofs.escaped_letter.Goals as goal

pub returns-then-p-at : goal.returns-then-p-at
returns-then-p-at c = search escape_end

pub returns-then-is_special : goal.returns-then-is_special
returns-then-is_special c = search escape_special

pub returns-then-not-is_hex_pair : goal.returns-then-not-is_hex_pair
returns-then-not-is_hex_pair c = search escape_wrong

pub returns : goal.returns
returns c = search escape_hex
