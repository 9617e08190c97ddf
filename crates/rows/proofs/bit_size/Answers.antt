use Rattle.rows.proofs.FollowerSteps.{bit_hyphen, bit_high, bit_sized}
use Rattle.rows.proofs.bit_size.Goals as goal

pub returns-then-t-p-eq45 : goal.returns-then-t-p-eq45
returns-then-t-p-eq45 c = search bit_hyphen

pub returns-then-t-p-gt-MAX_BIT : goal.returns-then-t-p-gt-MAX_BIT
returns-then-t-p-gt-MAX_BIT c = search bit_high

pub returns : goal.returns
returns c = search bit_sized
