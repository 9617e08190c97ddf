use Rattle.table.proofs.Steps.{number_fits, target_fits, how-fits, presence-fits, size_fits, pack_is}
use borrow.Author.Rules.{rules}
use Rattle.table.proofs.member_word.Goals as goal

pub pack_member-requires : goal.pack_member-requires
pack_member-requires c = record { first = search number_fits; target = search target_fits; how = search how-fits; presence = search presence-fits; size = search size_fits; place = search rules }

pub returns : goal.returns
returns c = search pack_is
