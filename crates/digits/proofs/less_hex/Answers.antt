use Rattle.digits.proofs.Steps.{less_hex_is}
use Rattle.digits.proofs.less_hex.Goals as goal

pub returns : goal.returns
returns c = search less_hex_is
