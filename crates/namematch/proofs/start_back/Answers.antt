use Rattle.namematch.proofs.Steps.{back_done, back_more}
use Rattle.namematch.proofs.start_back.Goals as goal

pub loop-preserved : goal.loop-preserved
loop-preserved c = search back_more

pub returns : goal.returns
returns c = search back_done
