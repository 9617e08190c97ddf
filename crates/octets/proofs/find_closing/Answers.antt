use Rattle.octets.proofs.Steps.{closing-none, closing-on, closing-last, closing-found, closing-double}
use Rattle.octets.proofs.find_closing.Goals as goal

pub loop-i-preserved-then-s-i-ne34 : goal.loop-i-preserved-then-s-i-ne34
loop-i-preserved-then-s-i-ne34 c = search closing-on

pub returns-then-s-i-lt2 : goal.returns-then-s-i-lt2
returns-then-s-i-lt2 c = search closing-last

pub returns-then-s-i-ne34-2 : goal.returns-then-s-i-ne34-2
returns-then-s-i-ne34-2 c = search closing-found

pub loop-i-preserved : goal.loop-i-preserved
loop-i-preserved c = search closing-double

pub returns : goal.returns
returns c = search closing-none
