use Rattle.table.proofs.PassSteps.{own_is}
use Rattle.types.proofs.TagLaws.{universal-fits}
use Rattle.table.proofs.own_set.Goals as goal

pub bit-requires : goal.bit-requires
bit-requires c = search universal-fits

pub returns : goal.returns
returns c = search own_is
