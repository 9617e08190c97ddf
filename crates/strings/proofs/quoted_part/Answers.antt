use Rattle.strings.proofs.Steps.{part-empty, part-is, part_longer, part-past, part_unclosed}
use Rattle.strings.proofs.quoted_part.Goals as goal

pub returns-in_default-clause-characters : goal.returns-in_default-clause-characters
returns-in_default-clause-characters c = search part_unclosed

pub returns-then-t-close-clause-characters : goal.returns-then-t-close-clause-characters
returns-then-t-close-clause-characters c = search part-past

pub returns-then-t-close-ne1-clause-characters : goal.returns-then-t-close-ne1-clause-characters
returns-then-t-close-ne1-clause-characters c = search part_longer

pub returns-then-close-eq0-clause-characters : goal.returns-then-close-eq0-clause-characters
returns-then-close-eq0-clause-characters c = search part-empty

pub returns-clause-characters : goal.returns-clause-characters
returns-clause-characters c = search part-is
