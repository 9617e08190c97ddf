use Rattle.digits.proofs.BitSteps.{bits-differ, bits-done, bits-on, bits-short, bits-start}
use Rattle.digits.proofs.same_bit_list.Goals as goal

pub loop-i-init : goal.loop-i-init
loop-i-init c = search bits-start

pub returns-in_default : goal.returns-in_default
returns-in_default c = search bits-short

pub returns-then-bit_at-drawn : goal.returns-then-bit_at-drawn
returns-then-bit_at-drawn c = search bits-differ

pub loop-i-preserved : goal.loop-i-preserved
loop-i-preserved c = search bits-on

pub returns : goal.returns
returns c = search bits-done
