use Rattle.digits.proofs.Steps.{pair_is, pair-none, pair_one}
use Rattle.digits.proofs.read_pair.Goals as goal

pub returns-then-h-j : goal.returns-then-h-j
returns-then-h-j c = search pair-none

pub returns-then-h-j-lt2 : goal.returns-then-h-j-lt2
returns-then-h-j-lt2 c = search pair_one

pub returns : goal.returns
returns c = search pair_is
