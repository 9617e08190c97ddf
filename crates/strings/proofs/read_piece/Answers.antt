use Rattle.strings.proofs.ImageSteps.{piece-low, high-stays}
use Rattle.strings.proofs.read_piece.Goals as goal

pub returns-then-a-lt128 : goal.returns-then-a-lt128
returns-then-a-lt128 c = record { image = search piece-low; on = search high-stays }
