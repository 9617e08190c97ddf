use Rattle.strings.proofs.Steps.{octet-end}
use Rattle.strings.proofs.read_octet.Goals as goal

pub returns-then-s-at : goal.returns-then-s-at
returns-then-s-at c = search octet-end
