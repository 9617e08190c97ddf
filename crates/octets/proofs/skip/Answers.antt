use native.Mathlib.Omega.{arith}
use Rattle.std.proofs.lemmas.Grind.{common_steps}
use Rattle.octets.proofs.Steps.{skip-stops, skip-on, skip-past}
use Rattle.octets.proofs.skip.Goals as goal

pub returns-then-s-i-ne32 : goal.returns-then-s-i-ne32
returns-then-s-i-ne32 c = search skip-stops

pub loop-i-preserved : goal.loop-i-preserved
loop-i-preserved c = search skip-on

pub returns : goal.returns
returns c = grind (arith, common_steps, skip-past)
