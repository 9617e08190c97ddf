use Rattle.walk.proofs.Members.{alternative-none, alternative-to}
use Rattle.walk.proofs.find_alternative.Goals as goal

pub returns-then-not-member_starts : goal.returns-then-not-member_starts
returns-then-not-member_starts c = search alternative-none

pub returns : goal.returns
returns c = search alternative-to
