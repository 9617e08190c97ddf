-- The fifth entry: the octets of a stored value, from place and length.
use denote.Ref.{Bor}
use Rattle.std.specs.Prelude.{ℕ, Result, Ok, Err, ◌+◌, List, [], length, leb}
use Rattle.octets.specs.Pick.{pick}
use Rattle.octets.specs.Octets.{part}
use Rattle.value.specs.Limits.{Limits}
use Rattle.value.specs.Check.{value_fits}
use Rattle.table.specs.declared.Refusal.{Refusal}
use Rattle.table.specs.Check.{refusal_number}

-- a refusal number, 0 for none, and the part
pub record PartReport : Type 0 where
  pub refusal : ℕ
  pub octets : List ℕ

abbrev pub refused_part : ℕ → PartReport
refused_part n = record { refusal = n; octets = [] }

-- "refused 1 for the value's size, then 4 if place plus length passes that size, each with an empty part"
unfoldable pub part_report : Limits → List ℕ → ℕ → ℕ → PartReport
part_report l v place size =
    pick (value_fits l v)
    (pick (leb (place + size) (length v)) (record { refusal = 0; octets = part v place size }) (refused_part 4))
    (refused_part 1)

-- what the code's answer says
abbrev pub report : Result (Bor (List ℕ)) Refusal → PartReport
report (Ok p) = record { refusal = 0; octets = p.now }
report (Err r) = refused_part (refusal_number r)
