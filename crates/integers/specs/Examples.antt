-- Computed examples.
use Rattle.std.specs.Prelude.{◌≡◌, refl, true, false, [], ◌∷◌, map}
use Rattle.octets.specs.Octets.{bytes, hex}
use Rattle.octets.specs.Computing.{octets_compute}
use Rattle.der.specs.Meaning.{integer_of}
use Rattle.der.specs.Computing.{der_computes}
use Rattle.integers.specs.Asserted.{is_integer, asserted_integer}
use Rattle.integers.specs.Inner.Bounds.{lifted, bound_of}
use Rattle.integers.specs.declared.Bound.{Bound}

conforming : map is_integer (bytes "0" ∷ bytes "-1" ∷ bytes "18446744073709551616" ∷ bytes "-0" ∷ bytes "01" ∷ bytes "-01" ∷ bytes "+1" ∷ bytes "-" ∷ bytes ""
    ∷ bytes "1 " ∷ [])
    ≡ true ∷ true ∷ true ∷ false ∷ false ∷ false ∷ false ∷ false ∷ false ∷ false ∷ []
unfolding octets_compute is_integer
conforming = refl

-- of any size
sizes : asserted_integer (bytes "-18446744073709551616") ≡ record { minus = true; size = 18446744073709551616 }
unfolding octets_compute asserted_integer
sizes = refl

-- the integers -1, 0, 127, -128, -2^63 and 2^63 - 1 keep their order
lifts : map lifted (map integer_of (hex "FF" ∷ hex "00" ∷ hex "7F" ∷ hex "80" ∷ hex "8000000000000000" ∷ hex "7FFFFFFFFFFFFFFF" ∷ []))
    ≡ 9223372036854775807 ∷ 9223372036854775808 ∷ 9223372036854775935 ∷ 9223372036854775680 ∷ 0 ∷ 18446744073709551615 ∷ []
unfolding der_computes lifted
lifts = refl

-- the least and the greatest integer that can be stored, and those beyond them
bounds : map bound_of (map asserted_integer (bytes "-9223372036854775808" ∷ bytes "9223372036854775807" ∷ bytes "-9223372036854775809" ∷ bytes "9223372036854775808"
    ∷ bytes "18446744073709551617" ∷ []))
    ≡ Bound.At 0 ∷ Bound.At 18446744073709551615 ∷ Bound.Under ∷ Bound.Over ∷ Bound.Over ∷ []
unfolding der_computes asserted_integer bound_of
bounds = refl
