-- The limits of a question: those of its table, value and filter, the most octets of a listing's reference, and the largest budget.
use Rattle.std.specs.Prelude.{ℕ}
use Rattle.rows.specs.Limits as table
use Rattle.value.specs.Limits as value
use Rattle.filter.specs.Limits as filter

pub record Limits : Type 0 where
  pub table : table.Limits
  pub value : value.Limits
  pub filter : filter.Limits
  pub reference : ℕ
  pub budget : ℕ
