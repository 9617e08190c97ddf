-- Computed examples.
use Rattle.std.specs.Prelude.{◌≡◌, refl, true, false, [], ◌∷◌, map}
use Rattle.std.specs.Prelude.{None, Some}
use Rattle.octets.specs.Octets.{bytes}
use Rattle.der.specs.Computing.{der_computes}
use Rattle.strings.specs.Asserted.{is_text, asserted_text}
use Rattle.times.specs.Asserted.{is_time, asserted_time}

conforming : map is_time (bytes "\"20240229120000.5Z\"" ∷ bytes "\"20240229120000Z\"" ∷ bytes "\"20240229120000.50Z\"" ∷ bytes "\"20230229120000Z\""
    ∷ bytes "20240229120000Z" ∷ bytes "\"202402291200Z\"" ∷ [])
    ≡ true ∷ true ∷ false ∷ false ∷ false ∷ false ∷ []
unfolding der_computes is_text asserted_text is_time
conforming = refl

read : map asserted_time (bytes "\"20240229120000.5Z\"" ∷ bytes "\"20230229120000Z\"" ∷ [])
    ≡ Some (record { stamp = 20240229120000; fraction = 500000000 }) ∷ None ∷ []
unfolding der_computes is_text asserted_text is_time asserted_time
read = refl
