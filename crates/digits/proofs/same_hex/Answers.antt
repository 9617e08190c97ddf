use Rattle.digits.proofs.Steps.{same_hex_is}
use Rattle.digits.proofs.same_hex.Goals as goal

pub returns : goal.returns
returns c = search same_hex_is
