use Rattle.der.proofs.Steps.{within_none, within-other, within-seen, within_usable}
use borrow.Author.Rules.{rules}
use Rattle.der.proofs.open_within.Goals as goal

pub returns-then-end-at : goal.returns-then-end-at
returns-then-end-at c = search within_none

pub returns-then-wide-tag : goal.returns-then-wide-tag
returns-then-wide-tag c = search within-other

pub open_seen-requires : goal.open_seen-requires
open_seen-requires c = record { within = search rules; here = search rules; usable = search within_usable }

pub returns : goal.returns
returns c = search within-seen
