use Rattle.table.proofs.PassSteps.{second_past}
use Rattle.table.proofs.second_at.Goals as goal

pub returns-else-j-lt-MAX_ROWS : goal.returns-else-j-lt-MAX_ROWS
returns-else-j-lt-MAX_ROWS c = search second_past
