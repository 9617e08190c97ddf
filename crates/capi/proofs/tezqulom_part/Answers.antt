use Rattle.capi.proofs.Parts.{part-numbers}
use Rattle.capi.proofs.tezqulom_part.Goals as goal

pub returns : goal.returns
returns c = search part-numbers
