use Rattle.walk.proofs.Leaves.{turn-less, nth_start, nth_within, nth_found, nth_again, nth_done}
use Rattle.walk.proofs.nth.Goals as goal

pub loop-i-init : goal.loop-i-init
loop-i-init c = search nth_start

pub returns-then-left-eq1 : goal.returns-then-left-eq1
returns-then-left-eq1 c = search nth_found

pub next_after-i-requires : goal.next_after-i-requires
next_after-i-requires c = search nth_within

pub loop-i-smaller : goal.loop-i-smaller
loop-i-smaller c = search turn-less

pub loop-i-preserved : goal.loop-i-preserved
loop-i-preserved c = search nth_again

pub returns : goal.returns
returns c = search nth_done
