use Rattle.octets.proofs.Steps.{opening_other, opening_is}
use Rattle.octets.proofs.closing_at.Goals as goal

pub returns-then-octet-ne34 : goal.returns-then-octet-ne34
returns-then-octet-ne34 c = search opening_other

pub returns : goal.returns
returns c = search opening_is
