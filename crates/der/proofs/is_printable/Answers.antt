use Rattle.der.proofs.ContentsSteps.{printable_low, printable_high, printable_none}
use Rattle.der.proofs.is_printable.Goals as goal

pub returns-then-b-lt64 : goal.returns-then-b-lt64
returns-then-b-lt64 c = search printable_low

pub returns-then-b-lt128 : goal.returns-then-b-lt128
returns-then-b-lt128 c = search printable_high

pub returns : goal.returns
returns c = search printable_none
