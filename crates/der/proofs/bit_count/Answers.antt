use native.Mathlib.Omega.{arith}
use Rattle.std.proofs.lemmas.Grind.{common_steps}
use Rattle.der.proofs.MeaningSteps.{count-is, count_none}
use Rattle.der.proofs.bit_count.Goals as goal

pub returns-in_default : goal.returns-in_default
returns-in_default c = grind (arith, common_steps, count_none)

pub returns : goal.returns
returns c = grind (arith, common_steps, count-is)
