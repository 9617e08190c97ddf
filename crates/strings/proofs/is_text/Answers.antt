use Rattle.strings.proofs.Laws.{text-is}
use Rattle.strings.proofs.is_text.Goals as goal

pub returns : goal.returns
returns c = search text-is
