-- Computed examples.
use Rattle.std.specs.Prelude.{◌≡◌, refl, true, false, [], ◌∷◌, map}
use Rattle.std.specs.Prelude.{None, Some}
use Rattle.octets.specs.Octets.{bytes, hex, below}
use Rattle.octets.specs.Text.{is_name, is_number, trimmed, decimal, skip, pieces, lower, starts}
use Rattle.octets.specs.Utf8.{utf8}
use Rattle.octets.specs.Quoted.{unquoted}
use Rattle.octets.specs.Computing.{octets_compute}

-- the edges of RFC 3629's ranges: 7F, 80, C1 BF, C2 80, DF BF, E0 9F BF, E0 A0 80, ED 9F BF, ED A0 80 (a surrogate), EE 80 80,
-- F0 8F BF BF, F0 90 80 80, F4 8F BF BF, F4 90 80 80, F5 80 80 80, a tail too few, a tail too many
utf8_edges : map utf8 (hex "7F" ∷ hex "80" ∷ hex "C1BF" ∷ hex "C280" ∷ hex "DFBF" ∷ hex "E09FBF" ∷ hex "E0A080" ∷ hex "ED9FBF" ∷ hex "EDA080" ∷ hex "EE8080"
    ∷ hex "F08FBFBF" ∷ hex "F0908080" ∷ hex "F48FBFBF" ∷ hex "F4908080" ∷ hex "F5808080" ∷ hex "E282" ∷ hex "C28080" ∷ [])
    ≡ true ∷ false ∷ false ∷ true ∷ true ∷ false ∷ true ∷ true ∷ false ∷ true ∷ false ∷ true ∷ true ∷ false ∷ false ∷ false ∷ false ∷ []
unfolding octets_compute
utf8_edges = refl

-- the text "", NUL, a noncharacter (U+FFFF), and four characters of one to four octets
utf8_texts : map utf8 ([] ∷ hex "00" ∷ hex "EFBFBF" ∷ hex "41C3A9E282ACF09F8EB5" ∷ []) ≡ true ∷ true ∷ true ∷ true ∷ []
unfolding octets_compute
utf8_texts = refl

-- names: nothing; a capital, a digit and a hyphen first; a hyphen last, two of them; another character
names : map is_name (bytes "a" ∷ bytes "aB9-c-d" ∷ bytes "" ∷ bytes "Ab" ∷ bytes "1a" ∷ bytes "-a" ∷ bytes "a-" ∷ bytes "a--b" ∷ bytes "a_b" ∷ [])
    ≡ true ∷ true ∷ false ∷ false ∷ false ∷ false ∷ false ∷ false ∷ false ∷ []
unfolding octets_compute
names = refl

numbers : map is_number (bytes "0" ∷ bytes "7" ∷ bytes "10" ∷ bytes "07" ∷ bytes "00" ∷ bytes "" ∷ bytes "1a" ∷ bytes "18446744073709551616" ∷ [])
    ≡ true ∷ true ∷ true ∷ false ∷ false ∷ false ∷ false ∷ true ∷ []
unfolding octets_compute
numbers = refl

-- of any size
large : decimal (bytes "18446744073709551616") ≡ 18446744073709551616
unfolding octets_compute
large = refl

spaces : skip (bytes "a   b") 1 ∷ skip (bytes "a   b") 4 ∷ skip (bytes "a  ") 1 ∷ [] ≡ 4 ∷ 4 ∷ 3 ∷ []
unfolding octets_compute
spaces = refl

ends : trimmed (bytes " a b  ") ∷ trimmed (bytes "   ") ∷ [] ≡ bytes " a b" ∷ [] ∷ []
unfolding octets_compute
ends = refl

dots : pieces (bytes "a.b.") ∷ pieces (bytes "") ∷ [] ≡ (bytes "a" ∷ bytes "b" ∷ [] ∷ []) ∷ ([] ∷ []) ∷ []
unfolding octets_compute
dots = refl

-- the texts "a", "", "a""b", """", "a, a"b", "a"x
quoted : map unquoted (bytes "\"a\"" ∷ bytes "\"\"" ∷ bytes "\"a\"\"b\"" ∷ bytes "\"\"\"\"" ∷ bytes "\"a" ∷ bytes "a\"b\"" ∷ bytes "\"a\"x" ∷ [])
    ≡ Some (bytes "a") ∷ Some [] ∷ Some (bytes "a\"b") ∷ Some (bytes "\"") ∷ None ∷ None ∷ None ∷ []
unfolding octets_compute
quoted = refl

-- A to Z alone; @ and [ stand beside them
folding : map lower (bytes "AZaz@[09") ≡ bytes "azaz@[09"
unfolding octets_compute
folding = refl

words : starts (bytes "and:") (bytes "and:{") ∷ starts (bytes "and:") (bytes "and") ∷ starts (bytes "and:") (bytes "And:{") ∷ [] ≡ true ∷ false ∷ false ∷ []
unfolding octets_compute
words = refl

-- a proper prefix is less
order : below (hex "01") (hex "0100") ∷ below (hex "0100") (hex "01") ∷ below (hex "02") (hex "0100") ∷ below (hex "01") (hex "01") ∷ []
    ≡ true ∷ false ∷ false ∷ false ∷ []
unfolding octets_compute
order = refl
