use Rattle.der.proofs.NameLaws.{rdn_usable}
use Rattle.der.proofs.NameSteps.{rdns-start, rdns_full, rdns-misfit, contents-fit}
use Rattle.der.proofs.NameSteps.{rdns-bad, rdns-room, rdns_falls, rdns-more, rdns-done}
use borrow.Author.Rules.{rules}
use Rattle.der.proofs.legal_rdn_sequence.Goals as goal

pub loop-at-init : goal.loop-at-init
loop-at-init c = search rdns-start

pub returns-then-n-eq-MAX_RDNS : goal.returns-then-n-eq-MAX_RDNS
returns-then-n-eq-MAX_RDNS c = search rdns_full

pub open_within-requires : goal.open_within-requires
open_within-requires c = record { within = search rules; usable = search rdn_usable }

pub returns-in_default : goal.returns-in_default
returns-in_default c = search rdns-misfit

pub returns-then-not-legal_rdn : goal.returns-then-not-legal_rdn
returns-then-not-legal_rdn c = search rdns-bad

pub overflow_add-n : goal.overflow_add-n
overflow_add-n c = record { fits = search rdns-room }

pub overflow_add-at : goal.overflow_add-at
overflow_add-at c = record { fits = search contents-fit }

pub loop-at-smaller : goal.loop-at-smaller
loop-at-smaller c = search rdns_falls

pub loop-at-preserved : goal.loop-at-preserved
loop-at-preserved c = search rdns-more

pub returns : goal.returns
returns c = search rdns-done
