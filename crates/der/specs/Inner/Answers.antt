-- What the code's answers say.
use Rattle.std.specs.Prelude.{ℕ, ◌≤◌, ◌<◌, ◌+◌, ◌-◌, Bool, List, [], length, drop, ltb}
use Rattle.std.specs.Prelude.{Option, None, Some}
use Rattle.octets.specs.Pick.{pick, both, consed}
use Rattle.octets.specs.Octets.{octet}
use Rattle.octets.specs.Inner.Answers.{between}
use Rattle.der.specs.Contents.{subidentifiers, is_printable}
use Rattle.der.specs.Meaning.{Whole}
use Rattle.der.specs.declared.Sub.{Sub}
use Rattle.der.specs.declared.Integer.{Integer}
use Rattle.der.specs.declared.PairParts.{PairParts}
use Rattle.der.specs.Order.{not_above}
use Rattle.der.specs.Names.{legal_pair}

-- an integer
abbrev pub report_integer : Integer → Whole
report_integer i = record { minus = i.minus; size = i.size }

-- the subidentifiers from a place on, by the first of them and the place after it
abbrev pub report_sub : List ℕ → Sub → Option (List ℕ)
report_sub c Sub.Broken = None
report_sub c Sub.End = Some []
report_sub c (Sub.Value n next) = consed n (subidentifiers (drop next c))

-- that place lies further on, within the contents
abbrev pub Forward : List ℕ → ℕ → Sub → Type 0
Forward c at Sub.Broken = Unit
Forward c at Sub.End = Unit
Forward c at (Sub.Value n next) = (at < next) × (next ≤ length c)

-- the contents after a length, which have to lie before end
abbrev pub behind : ℕ → Option (ℕ × ℕ) → Option (ℕ × ℕ)
behind end None = None
behind end (Some (n, next)) = pick (ltb (end - next) n) None (Some (next, n))

-- the four octets from a place on are characters of a PrintableString
abbrev pub four_printable : List ℕ → ℕ → Bool
four_printable c i = both (both (is_printable (octet c i)) (is_printable (octet c (i + 1)))) (both (is_printable (octet c (i + 2))) (is_printable (octet c (i + 3))))

-- a pair of an RDN, from place at up to end with its contents from start on, is legal and not below the one from place `before` up to it
abbrev pub legal_after : List ℕ → ℕ → ℕ → ℕ → ℕ → Bool
legal_after c before at start end = both (not_above (between c before at) (between c at end)) (legal_pair (between c start end))

-- the parts of a pair lie within its contents
pub record Placed (c : List ℕ) (p : PairParts) : Type 0 where
  pub type-ordered : p.type_start ≤ p.type_end
  pub type-within : p.type_end ≤ length c
  pub value-ordered : p.value_start ≤ p.value_end
  pub value-within : p.value_end ≤ length c
