-- Computed examples.
use Rattle.std.specs.Prelude.{◌≡◌, refl, ℕ, true, false, List, [], ◌∷◌, map}
use Rattle.octets.specs.Octets.{bytes, hex}
use Rattle.octets.specs.Computing.{octets_compute}
use Rattle.strings.specs.Images.{table, image_in, encoded, all_encoded, marks, image}
use Rattle.strings.specs.Prepared.{images, joined, prepared}
use Rattle.strings.specs.Twice.{is_even}
use Rattle.strings.specs.Asserted.{is_text, asserted_text}
use Rattle.strings.specs.declared.Before.{Before}

-- the texts " ", "", a, "a""b", "a"b"
conforming : map is_text (bytes "\" \"" ∷ bytes "\"\"" ∷ bytes "a" ∷ bytes "\"a\"\"b\"" ∷ bytes "\"a\"b\"" ∷ []) ≡ true ∷ false ∷ false ∷ true ∷ false ∷ []
unfolding octets_compute is_text
conforming = refl

characters : asserted_text (bytes "\"a\"\"b\"") ≡ bytes "a\"b"
unfolding octets_compute asserted_text
characters = refl

preparing : prepared true (bytes "  Foo   BAR ") ∷ prepared false (bytes "  Foo   BAR ") ∷ prepared true (bytes "   ") ∷ prepared true (hex "41C389") ∷ []
    ≡ bytes "foo bar" ∷ bytes "Foo BAR" ∷ [] ∷ hex "61C3A9" ∷ []
unfolding octets_compute table image_in encoded all_encoded marks image images joined prepared
preparing = refl

-- Élan; élan; straße; STRASSE; U+0130; U+0131, which isn't i; U+0132; U+0149; U+017F
abbrev letters : List (List ℕ)
letters =
    hex "C3896C616E" ∷ hex "C3A96C616E" ∷ hex "73747261C39F65" ∷ bytes "STRASSE" ∷ hex "C4B0" ∷ hex "C4B1" ∷ hex "C4B2" ∷ hex "C589" ∷ hex "C5BF" ∷ []

-- for caseIgnoreMatch, and for caseExactMatch
letters-folded : map (prepared true) letters
    ≡ hex "C3A96C616E" ∷ hex "C3A96C616E" ∷ bytes "strasse" ∷ bytes "strasse" ∷ hex "69CC87" ∷ hex "C4B1" ∷ bytes "ij" ∷ hex "CABC6E" ∷ bytes "s" ∷ []
unfolding octets_compute table image_in encoded all_encoded marks image images joined prepared
letters-folded = refl

letters-exact : map (prepared false) letters
    ≡ hex "C3896C616E" ∷ hex "C3A96C616E" ∷ hex "73747261C39F65" ∷ bytes "STRASSE" ∷ hex "C4B0" ∷ hex "C4B1" ∷ bytes "IJ" ∷ hex "CABC6E" ∷ bytes "s" ∷ []
unfolding octets_compute table image_in encoded all_encoded marks image images joined prepared
letters-exact = refl

-- a no-break space and a soft hyphen; U+00A8, U+00AF, U+00B4 and U+00B8 between spaces; a space before U+00B4; a tabulation; U+0085; NUL; U+0080; a soft hyphen
-- alone; U+00BC
abbrev signs : List (List ℕ)
signs =
    hex "61C2A062C2AD" ∷ hex "20C2A820" ∷ hex "20C2AF20" ∷ hex "20C2B420" ∷ hex "20C2B820" ∷ hex "6120C2B4"
    ∷ hex "610962" ∷ hex "61C28562" ∷ hex "610062" ∷ hex "61C28062" ∷ hex "C2AD" ∷ hex "C2BC" ∷ []

abbrev prepared_signs : List (List ℕ)
prepared_signs =
    bytes "a b" ∷ hex "20CC88" ∷ hex "20CC84" ∷ hex "20CC81" ∷ hex "20CCA7" ∷ hex "612020CC81"
    ∷ bytes "a b" ∷ bytes "a b" ∷ bytes "ab" ∷ bytes "ab" ∷ [] ∷ hex "31E2818434" ∷ []

signs-folded : map (prepared true) signs ≡ prepared_signs
unfolding octets_compute table image_in encoded all_encoded marks image images joined prepared
signs-folded = refl

signs-exact : map (prepared false) signs ≡ prepared_signs
unfolding octets_compute table image_in encoded all_encoded marks image images joined prepared
signs-exact = refl

-- above U+017F each octet stands for itself: U+0180, U+2003, U+1F600; and so do octets that are no UTF-8
itself : map (prepared true) (hex "C680" ∷ hex "61E2808362" ∷ hex "F09F9880" ∷ hex "C3" ∷ hex "C341" ∷ hex "80" ∷ [])
    ≡ hex "C680" ∷ hex "61E2808362" ∷ hex "F09F9880" ∷ hex "C3" ∷ hex "C361" ∷ hex "80" ∷ []
unfolding octets_compute table image_in encoded all_encoded marks image images joined prepared
itself = refl

-- a prepared string prepared again: changed where NFKC's space stands first or behind a space, and alone there
abbrev accents : List (List ℕ)
accents = hex "61C2B4" ∷ hex "6120C2B4" ∷ hex "C2B4" ∷ []

once : map (prepared true) accents ≡ hex "6120CC81" ∷ hex "612020CC81" ∷ hex "20CC81" ∷ []
unfolding octets_compute table image_in encoded all_encoded marks image images joined prepared
once = refl

again : map (λ s. prepared true (prepared true s)) accents ≡ hex "6120CC81" ∷ hex "6120CC81" ∷ hex "CC81" ∷ []
unfolding octets_compute table image_in encoded all_encoded marks image images joined prepared
again = refl

even : map (λ s. is_even Before.Nothing (prepared true s)) accents ≡ true ∷ false ∷ false ∷ []
unfolding octets_compute table image_in encoded all_encoded marks image images joined prepared is_even
even = refl
