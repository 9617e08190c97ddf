use mathlib.Core.Path.{refl}
use Rattle.assertion.proofs.Steps.{comma-found, comma-on, comma-none}
use Rattle.assertion.proofs.comma_at.Goals as goal

pub loop-i-init : goal.loop-i-init
loop-i-init c = refl

pub returns-then-s-i-eq44 : goal.returns-then-s-i-eq44
returns-then-s-i-eq44 c = search comma-found

pub loop-i-preserved : goal.loop-i-preserved
loop-i-preserved c = search comma-on

pub returns : goal.returns
returns c = search comma-none
