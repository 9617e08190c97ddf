-- What a check says: nothing where it holds, and else its refusal.
use Rattle.std.specs.Prelude.{◌≡◌, ⊤, Bool, true, false, Result, Ok, Err}
use Rattle.table.specs.declared.Refusal.{Refusal}

abbrev pub PassedIf : Bool → Refusal → Result ⊤ Refusal → Type 0
PassedIf holds r (Ok x) = holds ≡ true
PassedIf holds r (Err e) = (holds ≡ false) × (e ≡ r)
