use Rattle.strings.proofs.Comparing.{from_start, from_differs, from_more, from_end}
use native.Mathlib.Omega.{arith}
use Rattle.strings.proofs.same_prepared.Goals as goal

pub loop-i-init : goal.loop-i-init
loop-i-init c = search from_start

pub returns-in_default : goal.returns-in_default
returns-in_default c = search from_differs

pub loop-i-preserved : goal.loop-i-preserved
loop-i-preserved c = search from_more

pub returns : goal.returns
returns c = from_end _ _ _ c.loop-i.i _ c.loop-i.invariant (omega arith)
