use Rattle.strings.proofs.Preparing.{put-end, put-more}
use native.Mathlib.Omega.{arith}
use Rattle.strings.proofs.put_octets.Goals as goal

pub loop-at-preserved : goal.loop-at-preserved
loop-at-preserved c = search put-more

pub returns-clause-written : goal.returns-clause-written
returns-clause-written c = put-end _ _ _ _ _ _ _ c.loop-at.invariant (omega arith)
