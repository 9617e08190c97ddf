use Rattle.octets.proofs.Laws.{octet-past}
use Rattle.octets.proofs.octet.Goals as goal

pub returns-then-s-i : goal.returns-then-s-i
returns-then-s-i c = search octet-past
