-- Integers as numbers that keep their order, and an asserted one among those that can be stored.
use Rattle.std.specs.Prelude.{Option, Some, None}
use Rattle.std.specs.Prelude.{ℕ, ◌+◌, ◌-◌, Bool, true, false, List, length, ltb, leb, eqb}
use Rattle.octets.specs.Pick.{pick, either, no}
use Rattle.octets.specs.Text.{within}
use Rattle.der.specs.Meaning.{Whole, integer_of}
use Rattle.integers.specs.declared.Bound.{Bound}

-- zero has no sign
unfoldable pub signed : Whole → Bool
signed w = pick w.minus (leb 1 w.size) true

-- from -2^63 up to 2^63 - 1, as an INTEGER of up to eight octets is
unfoldable pub fits : Whole → Bool
fits w = pick w.minus (within 1 9223372036854775808 w.size) (ltb w.size 9223372036854775808)

-- such an integer plus 2^63
unfoldable pub lifted : Whole → ℕ
lifted w = pick w.minus (9223372036854775808 - w.size) (9223372036854775808 + w.size)

-- an integer of any size: that number, or below or above all of them; by its sign, from its size
abbrev pub minus_bound : ℕ → Bound
minus_bound n = pick (ltb 9223372036854775808 n) Bound.Under (Bound.At (9223372036854775808 - n))

abbrev pub plus_bound : ℕ → Bound
plus_bound n = pick (ltb n 9223372036854775808) (Bound.At (9223372036854775808 + n)) Bound.Over

unfoldable pub bound_of : Whole → Bound
bound_of w = pick w.minus (minus_bound w.size) (plus_bound w.size)

-- the same from a size as the code holds it
abbrev pub minus_bound_of : Option ℕ → Bound
minus_bound_of None = Bound.Under
minus_bound_of (Some n) = minus_bound n

abbrev pub plus_bound_of : Option ℕ → Bound
plus_bound_of None = Bound.Over
plus_bound_of (Some n) = plus_bound n

-- a number is the bound's, or less
abbrev pub same_bound : ℕ → Bound → Bool
same_bound n (Bound.At m) = eqb n m
same_bound n Bound.Under = false
same_bound n Bound.Over = false

abbrev pub less_bound : ℕ → Bound → Bool
less_bound n (Bound.At m) = ltb n m
less_bound n Bound.Under = false
less_bound n Bound.Over = true

-- contents of one to eight octets; as octets they fit
abbrev pub is_short : List ℕ → Bool
is_short c = within 1 8 (length c)

unfoldable pub short_fits : List ℕ → Bool
short_fits c = either (no (is_short c)) (fits (integer_of c))
