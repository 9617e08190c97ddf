use Rattle.table.proofs.PassSteps.{next_count, basic_unnamed, next_place_lem, basic_made}
use borrow.Author.Rules.{rules}
use Rattle.table.proofs.basic_row.Goals as goal

pub type_word-requires : goal.type_word-requires
type_word-requires c = record { count = search next_count; named = search basic_unnamed; target = search rules; chain = search rules; place = search next_place_lem }

pub returns : goal.returns
returns c = search basic_made
