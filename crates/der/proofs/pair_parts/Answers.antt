use Rattle.der.proofs.NameLaws.{type_usable}
use Rattle.der.proofs.NameSteps.{none-type, none-value, none-placed, contents-fit, parts-type}
use Rattle.der.proofs.NameSteps.{parts-no_value, type-placed, value-fits, parts-value, parts-placed}
use borrow.Author.Rules.{rules}
use Rattle.der.proofs.pair_parts.Goals as goal

pub open_within-requires : goal.open_within-requires
open_within-requires c = record { within = search rules; usable = search type_usable }

pub returns-in_default : goal.returns-in_default
returns-in_default c = record { type_is = search none-type; value_is = search none-value; placed = search none-placed }

pub overflow_add-type_end : goal.overflow_add-type_end
overflow_add-type_end c = record { fits = search contents-fit }

pub returns-in_default-read_header : goal.returns-in_default-read_header
returns-in_default-read_header c = record { type_is = search parts-type; value_is = search parts-no_value; placed = search type-placed }

pub overflow_add-result : goal.overflow_add-result
overflow_add-result c = record { fits = search value-fits }

pub returns : goal.returns
returns c = record { type_is = search parts-type; value_is = search parts-value; placed = search parts-placed }
