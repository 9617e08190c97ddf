use Rattle.nameoperand.proofs.Steps.{type-room, type-within, type-small, value_room, lengths-small, lengths-room, attribute-written, attribute-most}
use borrow.Author.Rules.{rules}
use Rattle.nameoperand.proofs.write_attribute.Goals as goal

pub copy-text-requires : goal.copy-text-requires
copy-text-requires c = record { ordered = search rules; within = search type-within; short = search type-room }

pub prepare_behind-lengths-requires : goal.prepare_behind-lengths-requires
prepare_behind-lengths-requires c = search value_room

pub put_lengths-requires : goal.put_lengths-requires
put_lengths-requires c = record { first = search type-small; second = search lengths-small; short = search lengths-room }

pub returns : goal.returns
returns c = record { written = search attribute-written; most = search attribute-most }
