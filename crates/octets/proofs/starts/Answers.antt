use native.Mathlib.Omega.{arith}
use Rattle.std.proofs.lemmas.Grind.{common_steps}
use Rattle.octets.proofs.Steps.{starts-is}
use Rattle.octets.proofs.starts.Goals as goal

pub returns : goal.returns
returns c = grind (arith, common_steps, starts-is)
