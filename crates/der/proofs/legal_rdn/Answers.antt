use Rattle.der.proofs.NameLaws.{pair_usable}
use Rattle.der.proofs.NameSteps.{pairs_start, pairs_full, pairs-misfit, contents-fit}
use Rattle.der.proofs.NameSteps.{pairs-bad, pairs-room, pairs_falls, pairs-more, pairs-done}
use borrow.Author.Rules.{rules}
use Rattle.der.proofs.legal_rdn.Goals as goal

pub loop-at-init : goal.loop-at-init
loop-at-init c = search pairs_start

pub returns-then-n-eq-MAX_PAIRS : goal.returns-then-n-eq-MAX_PAIRS
returns-then-n-eq-MAX_PAIRS c = search pairs_full

pub open_within-requires : goal.open_within-requires
open_within-requires c = record { within = search rules; usable = search pair_usable }

pub returns-in_default : goal.returns-in_default
returns-in_default c = search pairs-misfit

pub overflow_add-end : goal.overflow_add-end
overflow_add-end c = record { fits = search contents-fit }

pub returns-then-not-legal_after : goal.returns-then-not-legal_after
returns-then-not-legal_after c = search pairs-bad

pub overflow_add-n : goal.overflow_add-n
overflow_add-n c = record { fits = search pairs-room }

pub loop-at-smaller : goal.loop-at-smaller
loop-at-smaller c = search pairs_falls

pub loop-at-preserved : goal.loop-at-preserved
loop-at-preserved c = search pairs-more

pub returns : goal.returns
returns c = search pairs-done
