use Rattle.walk.proofs.Leaves.{turn-less, count-start, count-within, count_fits, count_again, count-done}
use Rattle.walk.proofs.count.Goals as goal

pub loop-i-init : goal.loop-i-init
loop-i-init c = search count-start

pub next_after-i-requires : goal.next_after-i-requires
next_after-i-requires c = search count-within

pub overflow_add-n : goal.overflow_add-n
overflow_add-n c = record { fits = search count_fits }

pub loop-i-smaller : goal.loop-i-smaller
loop-i-smaller c = search turn-less

pub loop-i-preserved : goal.loop-i-preserved
loop-i-preserved c = search count_again

pub returns : goal.returns
returns c = search count-done
