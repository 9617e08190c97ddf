use Rattle.table.proofs.PassSteps.{chain-is}
use Rattle.table.proofs.type_chain.Goals as goal

pub returns : goal.returns
returns c = search chain-is
