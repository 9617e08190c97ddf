use Rattle.table.proofs.PassSteps.{set_own, set_context}
use Rattle.table.proofs.set_at.Goals as goal

pub returns-then-first-lt128 : goal.returns-then-first-lt128
returns-then-first-lt128 c = search set_own

pub returns : goal.returns
returns c = search set_context
