use Rattle.table.proofs.PassSteps.{first_past}
use Rattle.table.proofs.first_at.Goals as goal

pub returns-else-j-lt-MAX_ROWS : goal.returns-else-j-lt-MAX_ROWS
returns-else-j-lt-MAX_ROWS c = search first_past
