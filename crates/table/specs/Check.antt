-- What the answer of the table check says.
use Rattle.std.specs.Prelude.{ℕ, Result, Ok, Err}
use Rattle.types.specs.Check.{TableReport, refused, admits}
use Rattle.rows.specs.declared.Table.{Table}
use Rattle.table.specs.declared.Refusal.{Refusal}

-- the number of each refusal
abbrev pub refusal_number : Refusal → ℕ
refusal_number Refusal.Size = 1
refusal_number Refusal.Table = 2
refusal_number Refusal.Form = 3
refusal_number Refusal.Value = 4
refusal_number Refusal.Tests = 5
refusal_number Refusal.Room = 6

abbrev pub report : Result Table Refusal → TableReport
report (Ok t) = admits t.rows
report (Err r) = refused (refusal_number r)
