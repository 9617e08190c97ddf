-- Rules: "Integers asserted are of any size, compared exactly; `-0` and leading zeros don't conform."
use Rattle.std.specs.Prelude.{ℕ, Bool, true, List, drop, eqb}
use Rattle.octets.specs.Pick.{pick, both, no}
use Rattle.octets.specs.Octets.{octet, same, bytes}
use Rattle.octets.specs.Text.{is_number, decimal}
use Rattle.der.specs.Meaning.{Whole, plus}

abbrev pub is_minus : List ℕ → Bool
is_minus t = eqb (octet t 0) 45

unfoldable pub is_integer : List ℕ → Bool
is_integer t = pick (is_minus t) (both (is_number (drop 1 t)) (no (same t (bytes "-0")))) (is_number t)

unfoldable pub asserted_integer : List ℕ → Whole
asserted_integer t = pick (is_minus t) (record { minus = true; size = decimal (drop 1 t) }) (plus (decimal t))
