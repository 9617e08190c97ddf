use Rattle.rows.proofs.Steps.{begun-high, begun_spelt, lower-begins}
use borrow.Author.Rules.{rules}
use Rattle.rows.proofs.name_begun.Goals as goal

pub returns-else-is_lower : goal.returns-else-is_lower
returns-else-is_lower c = search begun-high

pub name_spelt-requires : goal.name_spelt-requires
name_spelt-requires c = record { whole = search rules; begins = search lower-begins }

pub returns-then-is_lower : goal.returns-then-is_lower
returns-then-is_lower c = search begun_spelt
