use Rattle.strings.proofs.Comparing.{kept_graphic, kept-other, kept-first, kept-last, kept-space}
use Rattle.strings.proofs.is_kept.Goals as goal

pub returns-then-within : goal.returns-then-within
returns-then-within c = search kept_graphic

pub returns-then-c-i-ne32 : goal.returns-then-c-i-ne32
returns-then-c-i-ne32 c = search kept-other

pub returns-then-i-eq0 : goal.returns-then-i-eq0
returns-then-i-eq0 c = search kept-first

pub returns-then-c-i-lt2 : goal.returns-then-c-i-lt2
returns-then-c-i-lt2 c = search kept-last

pub returns : goal.returns
returns c = search kept-space
