use Rattle.dotted.proofs.SmallSteps.{small-start, small_dot, small-above, small-more, small-done}
use Rattle.dotted.proofs.small_arc.Goals as goal

pub loop-i-init : goal.loop-i-init
loop-i-init c = search small-start

pub returns-then-b-eq46 : goal.returns-then-b-eq46
returns-then-b-eq46 c = search small_dot

pub returns-then-number-gt4294967295 : goal.returns-then-number-gt4294967295
returns-then-number-gt4294967295 c = search small-above

pub loop-i-preserved : goal.loop-i-preserved
loop-i-preserved c = search small-more

pub returns : goal.returns
returns c = search small-done
