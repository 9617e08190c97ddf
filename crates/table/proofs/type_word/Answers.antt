use Rattle.table.proofs.Steps.{type-first, type_packed}
use borrow.Author.Rules.{rules}
use Rattle.table.proofs.type_word.Goals as goal

pub pack_type-requires : goal.pack_type-requires
pack_type-requires c = record { first = search type-first; count = search rules; target = search rules; chain = search rules; place = search rules }

pub returns : goal.returns
returns c = search type_packed
