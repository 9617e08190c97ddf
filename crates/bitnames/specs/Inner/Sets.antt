-- What the code's answers say: the number of a bit, and the bits that a list names as a set.
use Rattle.std.specs.Prelude.{ℕ, ◌<◌, List, [], map, length, drop, leb}
use Rattle.std.specs.Prelude.{Option, None, Some}
use Rattle.octets.specs.Pick.{pick, bind}
use Rattle.digits.specs.Inner.Masks.{mask_bits}
use Rattle.gser.specs.Listed.{after_spaces, parted}
use Rattle.types.specs.Types.{NamedBit, bits_after}
use Rattle.table.specs.Inner.Rows.{table_rows}
use Rattle.bitnames.specs.Names.{numbers_of, bits_listed}

-- the names that stand after a row
abbrev pub names_after : List ℕ → ℕ → List NamedBit
names_after t row = bits_after t (table_rows t) row

abbrev pub report_number : Option ℕ → Option ℕ
report_number None = None
report_number (Some n) = Some n

-- the number of a bit with a name is low
abbrev pub Low : Option ℕ → Type 0
Low None = Unit {0}
Low (Some n) = n < 64

abbrev pub report_set : Option ℕ → Option (List ℕ)
report_set None = None
report_set (Some m) = Some (mask_bits m)

-- the texts of a list from place `at` of what stands inside its braces on
unfoldable pub texts_from : List ℕ → ℕ → List (List ℕ)
texts_from s at = pick (leb at (length s)) (map after_spaces (parted (drop at s))) []

-- the bits of texts that are names
unfoldable pub bits_of_texts : List NamedBit → List (List ℕ) → Option (List ℕ)
bits_of_texts names xs = bind (numbers_of names xs) (λ ns. Some (bits_listed 64 0 ns))
