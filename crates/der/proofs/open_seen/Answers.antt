use Rattle.der.proofs.Steps.{seen-is, seen-long, seen-past, seen-short}
use Rattle.der.proofs.open_seen.Goals as goal

pub returns-then-end-at-lt2 : goal.returns-then-end-at-lt2
returns-then-end-at-lt2 c = search seen-short

pub returns-then-n-ge128 : goal.returns-then-n-ge128
returns-then-n-ge128 c = search seen-long

pub returns-then-end-at : goal.returns-then-end-at
returns-then-end-at c = search seen-past

pub returns : goal.returns
returns c = search seen-is
