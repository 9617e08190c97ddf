-- The table check, standing alone: refusals 1 and 2, else the number of rows.
use Rattle.std.specs.Prelude.{ℕ, Bool, true, false, List, length}
use Rattle.octets.specs.Pick.{pick}
use Rattle.rows.specs.Limits.{Limits, table_fits}
use Rattle.rows.specs.Row.{rows}
use Rattle.types.specs.Admitted.{admitted}

-- whether it is done and not refused; the refusal's number, 0 for none; the number of rows, 0 with a refusal
pub record TableReport : Type 0 where
  pub done : Bool
  pub refusal : ℕ
  pub rows : ℕ

abbrev pub refused : ℕ → TableReport
refused n = record { done = false; refusal = n; rows = 0 }

abbrev pub admits : ℕ → TableReport
admits n = record { done = true; refusal = 0; rows = n }

-- refusal 1, then 2, else the number of rows
unfoldable pub table_report : Limits → List ℕ → TableReport
table_report l t = pick (table_fits l t) (pick (admitted l t) (admits (length (rows l.rows t))) (refused 2)) (refused 1)
