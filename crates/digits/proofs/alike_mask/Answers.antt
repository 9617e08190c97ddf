use Rattle.digits.proofs.NamedSteps.{mask_differ, mask_done, mask_last, mask_on}
use Rattle.digits.proofs.alike_mask.Goals as goal

pub returns-then-bit_at-ne0 : goal.returns-then-bit_at-ne0
returns-then-bit_at-ne0 c = search mask_last

pub returns-then-from-rest : goal.returns-then-from-rest
returns-then-from-rest c = search mask_differ

pub loop-i-preserved : goal.loop-i-preserved
loop-i-preserved c = search mask_on

pub returns : goal.returns
returns c = search mask_done
