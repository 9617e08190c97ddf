use Rattle.names.proofs.Laws.{next_other, next_last, next_single, next_double}
use mathlib.Core.Path.{sym}
use Rattle.names.proofs.next_place.Goals as goal

pub returns-then-p-at-ne34 : goal.returns-then-p-at-ne34
returns-then-p-at-ne34 c = sym (search next_other)

pub returns-then-p-at-lt2 : goal.returns-then-p-at-lt2
returns-then-p-at-lt2 c = sym (search next_last)

pub returns-then-p-at-ne34-2 : goal.returns-then-p-at-ne34-2
returns-then-p-at-ne34-2 c = sym (search next_single)

pub returns : goal.returns
returns c = sym (search next_double)
