use Rattle.der.proofs.Steps.{one-is, one-past}
use Rattle.der.proofs.read_one.Goals as goal

pub returns-then-end-at-lt2 : goal.returns-then-end-at-lt2
returns-then-end-at-lt2 c = search one-past

pub returns : goal.returns
returns c = search one-is
