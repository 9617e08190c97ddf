use Rattle.strings.proofs.Steps.{escaped-other, escaped-last, escaped-one}
use Rattle.strings.proofs.escaped_octet.Goals as goal

pub returns-then-s-at-ne92 : goal.returns-then-s-at-ne92
returns-then-s-at-ne92 c = search escaped-other

pub returns-then-s-at-eq1 : goal.returns-then-s-at-eq1
returns-then-s-at-eq1 c = search escaped-last

pub returns-then-s-at-eq2 : goal.returns-then-s-at-eq2
returns-then-s-at-eq2 c = search escaped-one
