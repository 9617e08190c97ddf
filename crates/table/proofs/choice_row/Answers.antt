use Rattle.table.proofs.PassSteps.{next_size, next_group, choice-long, choice-optional, choice_common, next_count, choice_unnamed, next_place_lem, choice-made}
use borrow.Author.Rules.{rules}
use Rattle.table.proofs.choice_row.Goals as goal

pub longest-below-requires : goal.longest-below-requires
longest-below-requires c = search next_group

pub returns-then-below-ge-MAX_CHAIN : goal.returns-then-below-ge-MAX_CHAIN
returns-then-below-ge-MAX_CHAIN c = search choice-long

pub all_mandatory-requires : goal.all_mandatory-requires
all_mandatory-requires c = search next_group

pub returns-then-not-all_mandatory : goal.returns-then-not-all_mandatory
returns-then-not-all_mandatory c = search choice-optional

pub choice_tags-requires : goal.choice_tags-requires
choice_tags-requires c = search next_group

pub returns-in_default : goal.returns-in_default
returns-in_default c = search choice_common

pub type_word-requires : goal.type_word-requires
type_word-requires c = record { count = search next_count; named = search choice_unnamed; target = search rules; chain = search rules; place = search next_place_lem }

pub returns : goal.returns
returns c = search choice-made
