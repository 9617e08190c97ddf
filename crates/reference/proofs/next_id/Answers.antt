use mathlib.Core.Path.{refl}
use Rattle.reference.proofs.IdSteps.{next-end, next_is, next_advances}
use Rattle.reference.proofs.next_id.Goals as goal

pub returns-then-r-k : goal.returns-then-r-k
returns-then-r-k c = record { step = search next-end; rises = refl }

pub returns : goal.returns
returns c = record { step = search next_is; rises = search next_advances }
