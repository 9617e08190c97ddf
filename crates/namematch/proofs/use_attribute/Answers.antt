use Rattle.namematch.proofs.Steps.{use_none, use_near, use_found, use_more}
use Rattle.namematch.proofs.use_attribute.Goals as goal

pub returns-then-same_unused : goal.returns-then-same_unused
returns-then-same_unused c = record { marked = search use_found; near = search use_near }

pub loop-preserved : goal.loop-preserved
loop-preserved c = search use_more

pub returns : goal.returns
returns c = record { marked = search use_none; near = tt }
