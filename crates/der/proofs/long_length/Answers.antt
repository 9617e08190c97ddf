use Rattle.octets.proofs.Tests.{tests}
use Rattle.der.specs.Header.{long_length}
use Rattle.der.proofs.long_length.Goals as goal

pub returns-then-end-next : goal.returns-then-end-next
unfolding long_length
returns-then-end-next c = search tests

pub returns-then-n-least : goal.returns-then-n-least
unfolding long_length
returns-then-n-least c = search tests

pub returns : goal.returns
unfolding long_length
returns c = search tests
