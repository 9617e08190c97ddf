use Rattle.table.proofs.PassSteps.{list_unnamed, list-long, next_count, list-element, next_place_lem, list-made}
use borrow.Author.Rules.{rules}
use Rattle.table.proofs.list_row.Goals as goal

pub returns-then-not-later_type : goal.returns-then-not-later_type
returns-then-not-later_type c = search list_unnamed

pub returns-then-below-ge-MAX_CHAIN : goal.returns-then-below-ge-MAX_CHAIN
returns-then-below-ge-MAX_CHAIN c = search list-long

pub type_word-requires : goal.type_word-requires
type_word-requires c = record { count = search next_count; named = search rules; target = search list-element; chain = search rules; place = search next_place_lem }

pub returns : goal.returns
returns c = search list-made
