use Rattle.octets.proofs.Tests.{tests}
use Rattle.rows.specs.Body.{tagging_formed}
use Rattle.rows.proofs.tag_formed.Goals as goal

pub returns-then-mode-gt2 : goal.returns-then-mode-gt2
unfolding tagging_formed
returns-then-mode-gt2 c = search tests

pub returns-then-number-gt30 : goal.returns-then-number-gt30
unfolding tagging_formed
returns-then-number-gt30 c = search tests

pub returns-then-mode-eq0 : goal.returns-then-mode-eq0
unfolding tagging_formed
returns-then-mode-eq0 c = search tests

pub returns : goal.returns
unfolding tagging_formed
returns c = search tests
