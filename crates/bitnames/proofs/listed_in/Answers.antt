use Rattle.bitnames.proofs.SetSteps.{number-low, gather_start, gather_done, gather_unknown, gather_next}
use Rattle.types.proofs.TagSteps.{one_bit}
use Rattle.bitnames.proofs.listed_in.Goals as goal

pub loop-at-init : goal.loop-at-init
loop-at-init c = search gather_start

pub returns-in_err-n : goal.returns-in_err-n
returns-in_err-n c = rw c.from_residual.ensures (search (gather_unknown, c.in_err-n.ensures))

pub overflow_shl-set : goal.overflow_shl-set
overflow_shl-set c = search (number-low, c.in_ok-n.ensures)

pub loop-at-preserved : goal.loop-at-preserved
loop-at-preserved c = search (gather_next, one_bit, c.in_ok-n.ensures)

pub returns : goal.returns
returns c = search gather_done
