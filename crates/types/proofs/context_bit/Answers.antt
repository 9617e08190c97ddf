use Rattle.types.proofs.TagSteps.{context-high, context-low}
use Rattle.types.proofs.context_bit.Goals as goal

pub returns-then-n-lt32 : goal.returns-then-n-lt32
returns-then-n-lt32 c = search context-low

pub returns : goal.returns
returns c = search context-high
