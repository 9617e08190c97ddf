use Rattle.digits.proofs.Steps.{order_more}
use Rattle.digits.proofs.order_octets.Goals as goal

pub returns-in_default : goal.returns-in_default
returns-in_default c = search order_more
