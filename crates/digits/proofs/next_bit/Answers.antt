use Rattle.digits.proofs.BitSteps.{bit_end, bit_hex, bit_text}
use Rattle.digits.proofs.next_bit.Goals as goal

pub returns-then-h-at : goal.returns-then-h-at
returns-then-h-at c = search bit_end

pub returns-then-hexed : goal.returns-then-hexed
returns-then-hexed c = search bit_hex

pub returns : goal.returns
returns c = search bit_text
