-- The value check, standing alone: refusals 1, 2 and 4.
use Rattle.std.specs.Prelude.{ℕ, ⊤, Result, Ok, Err, Bool, true, false, List, length}
use Rattle.octets.specs.Pick.{pick, both, is_some}
use Rattle.octets.specs.Text.{within}
use Rattle.rows.specs.Limits as table
use Rattle.rows.specs.Limits.{table_fits}
use Rattle.types.specs.Types.{type_at}
use Rattle.types.specs.Admitted.{admitted}
use Rattle.value.specs.Limits.{Limits}
use Rattle.value.specs.Decode.{stored_value}
use Rattle.table.specs.declared.Refusal.{Refusal}
use Rattle.table.specs.Check.{refusal_number}

-- whether it is done and not refused; the refusal's number, 0 for none
pub record ValueReport : Type 0 where
  pub done : Bool
  pub refusal : ℕ

abbrev pub refused : ℕ → ValueReport
refused n = record { done = false; refusal = n }

abbrev pub good : ValueReport
good = record { done = true; refusal = 0 }

-- what the code's answer says
abbrev pub report : Result ⊤ Refusal → ValueReport
report (Ok x) = good
report (Err r) = refused (refusal_number r)

-- refusal 1: the value's size
unfoldable pub value_fits : Limits → List ℕ → Bool
value_fits l v = within l.least l.most (length v)

-- refusal 4: "value not as above"
unfoldable pub is_stored : table.Limits → List ℕ → List ℕ → Bool
is_stored l t v = is_some (stored_value (type_at l t 0) v)

-- refusal 2, then 4
unfoldable pub storage : table.Limits → List ℕ → List ℕ → ValueReport
storage tl t v = pick (admitted tl t) (pick (is_stored tl t v) good (refused 4)) (refused 2)

-- refusal 1, then the others
unfoldable pub value_report : table.Limits → Limits → List ℕ → List ℕ → ValueReport
value_report tl vl t v = pick (both (table_fits tl t) (value_fits vl v)) (storage tl t v) (refused 1)
