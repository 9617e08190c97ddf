-- What the code's answers say.
use Rattle.std.specs.Prelude.{ℕ, ◌/◌, ◌%◌, Bool, List, [], ◌∷◌, drop}
use Rattle.std.specs.Prelude.{Option, None, Some}
use Rattle.octets.specs.Pick.{pick}
use Rattle.octets.specs.Octets.{nibble, paired}
use Rattle.digits.specs.Asserted.{hex_bits, text_bits}
use Rattle.digits.specs.declared.Pair.{Pair}
use Rattle.digits.specs.declared.Quarter.{Quarter}
use Rattle.digits.specs.declared.Bits.{Bits}
use Rattle.digits.specs.declared.Drawn.{Drawn}

-- the octets of a pair of digits and of those after it; none at the end
abbrev pub report_pair : List ℕ → Option Pair → List ℕ
report_pair h None = []
report_pair h (Some p) = p.octet ∷ paired (drop p.after h)

-- ---- bits: those left of a text of hexadecimal digits, within its first digit
unfoldable pub hex_from : Quarter → List ℕ → List ℕ
hex_from q [] = []
hex_from Quarter.First (b ∷ s) = (nibble b / 8 % 2) ∷ (nibble b / 4 % 2) ∷ (nibble b / 2 % 2) ∷ (nibble b % 2) ∷ hex_bits s
hex_from Quarter.Second (b ∷ s) = (nibble b / 4 % 2) ∷ (nibble b / 2 % 2) ∷ (nibble b % 2) ∷ hex_bits s
hex_from Quarter.Third (b ∷ s) = (nibble b / 2 % 2) ∷ (nibble b % 2) ∷ hex_bits s
hex_from Quarter.Fourth (b ∷ s) = (nibble b % 2) ∷ hex_bits s

-- those left at a cursor
abbrev pub rest_bits : Bool → List ℕ → Bits → List ℕ
rest_bits hexed h c = pick hexed (hex_from c.quarter (drop c.at h)) (text_bits (drop c.at h))

abbrev pub report_drawn : Bool → List ℕ → Drawn → List ℕ
report_drawn hexed h r = r.bit ∷ rest_bits hexed h r.after

abbrev pub report_bit : Bool → List ℕ → Option Drawn → List ℕ
report_bit hexed h None = []
report_bit hexed h (Some r) = report_drawn hexed h r

-- one bit of a digit, and the cursor after it
abbrev pub bit_in : ℕ → ℕ → ℕ → Quarter → Drawn
bit_in n at after Quarter.First = record { bit = n / 8 % 2; after = record { at = at; quarter = Quarter.Second } }
bit_in n at after Quarter.Second = record { bit = n / 4 % 2; after = record { at = at; quarter = Quarter.Third } }
bit_in n at after Quarter.Third = record { bit = n / 2 % 2; after = record { at = at; quarter = Quarter.Fourth } }
bit_in n at after Quarter.Fourth = record { bit = n % 2; after = record { at = after; quarter = Quarter.First } }

-- the bits of a text of digits
abbrev pub bits_in : Bool → List ℕ → List ℕ
bits_in hexed h = pick hexed (hex_bits h) (text_bits h)
