use Rattle.der.proofs.Steps.{length-no, length_none, length-one, length-short, length_two}
use Rattle.der.proofs.read_length.Goals as goal

pub returns-then-end-at : goal.returns-then-end-at
returns-then-end-at c = search length_none

pub returns-then-first-lt128 : goal.returns-then-first-lt128
returns-then-first-lt128 c = search length-short

pub returns-then-first : goal.returns-then-first
returns-then-first c = search length-one

pub returns-then-first-2 : goal.returns-then-first-2
returns-then-first-2 c = search length_two

pub returns : goal.returns
returns c = search length-no
