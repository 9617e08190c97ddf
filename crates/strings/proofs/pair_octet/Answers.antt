use Rattle.strings.proofs.Steps.{pair_quotes, pair_quote, pair-hex, pair-other}
use Rattle.strings.proofs.pair_octet.Goals as goal

pub returns-then-d-eq34 : goal.returns-then-d-eq34
returns-then-d-eq34 c = search pair_quotes

pub returns-then-c-eq34 : goal.returns-then-c-eq34
returns-then-c-eq34 c = search pair_quote

pub returns-then-is_hex_pair : goal.returns-then-is_hex_pair
returns-then-is_hex_pair c = search pair-hex

pub returns : goal.returns
returns c = search pair-other
