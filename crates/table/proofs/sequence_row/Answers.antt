use Rattle.table.proofs.PassSteps.{next_size, next_group, sequence-long, sequence_common, next_count, sequence_unnamed, next_place_lem, sequence-made}
use borrow.Author.Rules.{rules}
use Rattle.table.proofs.sequence_row.Goals as goal

pub longest-below-requires : goal.longest-below-requires
longest-below-requires c = search next_group

pub returns-then-below-ge-MAX_CHAIN : goal.returns-then-below-ge-MAX_CHAIN
returns-then-below-ge-MAX_CHAIN c = search sequence-long

pub runs_differ-requires : goal.runs_differ-requires
runs_differ-requires c = search next_group

pub returns-then-not-runs_differ : goal.returns-then-not-runs_differ
returns-then-not-runs_differ c = search sequence_common

pub type_word-requires : goal.type_word-requires
type_word-requires c = record { count = search next_count; named = search sequence_unnamed; target = search rules; chain = search rules; place = search next_place_lem }

pub returns : goal.returns
returns c = search sequence-made
