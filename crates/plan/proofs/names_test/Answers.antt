use Rattle.plan.proofs.BitsSteps.{names_binary, names_hexadecimal, names-listed, names-none}
use Rattle.plan.proofs.names_test.Goals as goal

pub returns-then-is_bit_text : goal.returns-then-is_bit_text
returns-then-is_bit_text c = search names_binary

pub returns-then-is_hex_string : goal.returns-then-is_hex_string
returns-then-is_hex_string c = search names_hexadecimal

pub returns-in_err-set : goal.returns-in_err-set
returns-in_err-set c = rw c.from_residual.ensures (search (names-none, c.in_err-set.ensures))

pub returns : goal.returns
returns c = search (names-listed, c.in_ok-set.ensures)
