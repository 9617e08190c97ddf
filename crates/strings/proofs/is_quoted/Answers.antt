use Rattle.strings.proofs.Steps.{is_unclosed, is-past, is_whole}
use Rattle.octets.proofs.Tests.{tests}
use Rattle.strings.proofs.is_quoted.Goals as goal

pub returns-in_default : goal.returns-in_default
returns-in_default c = search is_unclosed

pub returns-else-close-t : goal.returns-else-close-t
returns-else-close-t c = search (tests, is-past)

pub returns-then-close-t : goal.returns-then-close-t
returns-then-close-t c = search is_whole
