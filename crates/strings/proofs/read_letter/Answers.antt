use Rattle.strings.proofs.Steps.{octet-end, octet-itself}
use Rattle.strings.proofs.read_letter.Goals as goal

pub returns-then-s-at : goal.returns-then-s-at
returns-then-s-at c = search octet-end

pub returns-then-is_itself : goal.returns-then-is_itself
returns-then-is_itself c = search octet-itself
