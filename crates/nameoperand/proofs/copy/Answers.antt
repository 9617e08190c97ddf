use native.Mathlib.Omega.{arith}
use Rattle.nameoperand.proofs.Steps.{copy_start, copy_more, copy_done}
use Rattle.nameoperand.proofs.copy.Goals as goal

pub loop-i-init : goal.loop-i-init
loop-i-init c = search copy_start

pub loop-i-preserved : goal.loop-i-preserved
loop-i-preserved c = search copy_more

pub returns-clause-written : goal.returns-clause-written
returns-clause-written c = copy_done _ _ _ _ _ _ _ c.loop-i.invariant (omega arith)
