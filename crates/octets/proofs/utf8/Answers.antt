use Rattle.octets.proofs.Steps.{utf8_ascii, utf8-start, utf8-more, utf8-broken, utf8-done}
use Rattle.octets.proofs.utf8.Goals as goal

pub returns-then-highest-lt128 : goal.returns-then-highest-lt128
returns-then-highest-lt128 c = search utf8_ascii

pub loop-b-init : goal.loop-b-init
loop-b-init c = search utf8-start

pub returns-then-is_none : goal.returns-then-is_none
returns-then-is_none c = search utf8-broken

pub loop-b-preserved : goal.loop-b-preserved
loop-b-preserved c = search utf8-more

pub returns : goal.returns
returns c = search utf8-done
