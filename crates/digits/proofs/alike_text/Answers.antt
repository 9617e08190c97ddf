use Rattle.digits.proofs.NamedSteps.{alike-differ, alike-on, alike-start}
use Rattle.digits.proofs.SignificantLaws.{digits-differ}
use Rattle.digits.proofs.alike_text.Goals as goal

pub returns-then-bit_at-ne0 : goal.returns-then-bit_at-ne0
returns-then-bit_at-ne0 c = search digits-differ

pub loop-i-init : goal.loop-i-init
loop-i-init c = search alike-start

pub returns-then-bit_at-drawn : goal.returns-then-bit_at-drawn
returns-then-bit_at-drawn c = search alike-differ

pub loop-i-preserved : goal.loop-i-preserved
loop-i-preserved c = search alike-on
