-- Computed examples.
use Rattle.std.specs.Prelude.{◌≡◌, refl, true, false, [], ◌∷◌, map}
use Rattle.octets.specs.Octets.{bytes, hex}
use Rattle.der.specs.Computing.{der_computes}
use Rattle.der.specs.Meaning.{arcs_of}
use Rattle.der.specs.Dotted.{dotted_arcs}
use Rattle.dotted.specs.Inner.Stored.{fitting}

-- arcs up to 2^32 - 1, and up to as many as asked
fit : map (fitting 4) (map dotted_arcs (bytes "2.5.4.3" ∷ bytes "1.2.4294967295" ∷ bytes "1.2.4294967296" ∷ bytes "2.18446744073709551616" ∷ bytes "2.5.4.3.1" ∷ []))
    ≡ true ∷ true ∷ false ∷ false ∷ false ∷ []
unfolding der_computes fitting
fit = refl

-- the greatest first subidentifier is 2.4294967215
greatest : arcs_of (hex "8FFFFFFF7F") ≡ 2 ∷ 4294967215 ∷ []
unfolding der_computes
greatest = refl
