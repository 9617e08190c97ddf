-- the depth that is left falls
use Rattle.filter.proofs.Steps.{Listed}
use Prim.Native.Nat.{◌+◌, ◌-◌, ◌*◌}
use lib.ListN.{length}
use Rattle.filter.proofs.+read.Given as goal

abbrev pub decreases-read_filter : goal.decreases-read_filter
decreases-read_filter l = 2 * l.depth

abbrev pub decreases-read_list : goal.decreases-read_list
decreases-read_list l = 2 * l.depth + 1

abbrev pub invariant-read_list-loop-rest : goal.invariant-read_list-loop-rest
invariant-read_list-loop-rest l = Listed l.s l.at l.depth l.room l.i l.left

abbrev pub decreases-read_list-loop-rest : goal.decreases-read_list-loop-rest
decreases-read_list-loop-rest l = length l.s - l.i
