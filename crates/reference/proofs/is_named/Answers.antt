use Rattle.reference.proofs.NameSteps.{named_other, named-is}
use Rattle.reference.proofs.is_named.Goals as goal

pub returns-then-name_start-octet : goal.returns-then-name_start-octet
returns-then-name_start-octet c = search named_other

pub returns : goal.returns
returns c = search named-is
