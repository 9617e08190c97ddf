use Rattle.der.proofs.Steps.{two_is, two_past}
use Rattle.der.proofs.read_two.Goals as goal

pub returns-then-end-at-lt3 : goal.returns-then-end-at-lt3
returns-then-end-at-lt3 c = search two_past

pub returns : goal.returns
returns c = search two_is
