use Rattle.rows.proofs.NameSteps.{long-inside, name-first, name-short, name_longer, name-rest}
use Rattle.rows.proofs.same_name.Goals as goal

pub returns-then-not-same_24 : goal.returns-then-not-same_24
returns-then-not-same_24 c = search name-first

pub returns-then-t-p-ne-LONG_MEMBER : goal.returns-then-t-p-ne-LONG_MEMBER
returns-then-t-p-ne-LONG_MEMBER c = search name-short

pub returns-then-t-q-ne-LONG_MEMBER : goal.returns-then-t-q-ne-LONG_MEMBER
returns-then-t-q-ne-LONG_MEMBER c = search name_longer

pub same_24-requires-2 : goal.same_24-requires-2
same_24-requires-2 c = search long-inside

pub returns : goal.returns
returns c = search name-rest
