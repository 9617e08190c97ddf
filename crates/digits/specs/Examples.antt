-- Computed examples.
use Rattle.std.specs.Prelude.{◌≡◌, refl, Bool, true, false, List, [], ◌∷◌, map, ℕ, length, leb}
use Rattle.octets.specs.Pick.{both}
use Rattle.octets.specs.Octets.{bytes, hex, same}
use Rattle.octets.specs.Computing.{octets_compute}
use Rattle.der.specs.Meaning.{octet_bits, all_bits, bits_of}
use Rattle.digits.specs.Asserted.{in_quotes, is_hex_string, is_bit_text, is_octets, asserted_octets, is_bits, hex_bits, text_bits, asserted_bits}
use Rattle.digits.specs.Named.{trimmed}
use Rattle.digits.specs.Inner.Answers.{bits_in}
use Rattle.digits.specs.Inner.Masks.{low_bits, mask_bits}

octets : map is_octets (bytes "'0AFF'H" ∷ bytes "''H" ∷ bytes "'0aff'H" ∷ bytes "'0AF'H" ∷ bytes "'01'B" ∷ bytes "0AFF" ∷ bytes "'H" ∷ [])
    ≡ true ∷ true ∷ false ∷ false ∷ false ∷ false ∷ false ∷ []
unfolding octets_compute in_quotes is_hex_string is_octets
octets = refl

bits : map is_bits (bytes "'1010'B" ∷ bytes "'A'H" ∷ bytes "''B" ∷ bytes "'12'B" ∷ bytes "'a'H" ∷ []) ≡ true ∷ true ∷ true ∷ false ∷ false ∷ []
unfolding octets_compute in_quotes is_hex_string is_bit_text is_bits
bits = refl

asserted : asserted_octets (bytes "'0AFF'H") ∷ asserted_bits (bytes "'A5'H") ∷ asserted_bits (bytes "'101'B") ∷ []
    ≡ hex "0AFF" ∷ (1 ∷ 0 ∷ 1 ∷ 0 ∷ 0 ∷ 1 ∷ 0 ∷ 1 ∷ []) ∷ (1 ∷ 0 ∷ 1 ∷ []) ∷ []
unfolding octets_compute in_quotes is_hex_string is_bit_text asserted_octets hex_bits text_bits asserted_bits
asserted = refl

-- ---- bits with names
-- no bits, zeros alone, zeros before a 1, zeros after
zeros : trimmed [] ∷ trimmed (0 ∷ 0 ∷ []) ∷ trimmed (0 ∷ 0 ∷ 1 ∷ []) ∷ trimmed (1 ∷ 0 ∷ 1 ∷ 0 ∷ 0 ∷ []) ∷ []
    ≡ [] ∷ [] ∷ (0 ∷ 0 ∷ 1 ∷ []) ∷ (1 ∷ 0 ∷ 1 ∷ []) ∷ []
unfolding octets_compute trimmed
zeros = refl

-- stored bits against hexadecimal or binary digits, and against a set
abbrev as_digits : Bool → List ℕ → List ℕ → Bool
as_digits hexed c h = both (leb (length c) 65536) (same (trimmed (bits_of c)) (trimmed (bits_in hexed h)))

abbrev as_set : List ℕ → ℕ → Bool
as_set c mask = both (leb (length c) 65536) (same (trimmed (bits_of c)) (trimmed (mask_bits mask)))

-- the bit 1 stored alone
one : map (as_digits false (hex "0780")) (bytes "1" ∷ bytes "1000" ∷ bytes "" ∷ bytes "0" ∷ bytes "01" ∷ bytes "11" ∷ bytes "10001" ∷ [])
    ≡ true ∷ true ∷ false ∷ false ∷ false ∷ false ∷ false ∷ []
unfolding octets_compute text_bits octet_bits all_bits bits_of trimmed
one = refl

-- zeros stored after it
more : map (as_digits false (hex "0080")) (bytes "1" ∷ bytes "10000000000" ∷ bytes "101" ∷ []) ≡ true ∷ true ∷ false ∷ []
unfolding octets_compute text_bits octet_bits all_bits bits_of trimmed
more = refl

-- no bits stored
nothing : map (as_digits false (hex "00")) (bytes "" ∷ bytes "000" ∷ bytes "0001" ∷ []) ≡ true ∷ true ∷ false ∷ []
unfolding octets_compute text_bits octet_bits all_bits bits_of trimmed
nothing = refl

hexadecimal : map (as_digits true (hex "05A0")) (bytes "A" ∷ bytes "A0" ∷ bytes "A1" ∷ bytes "8" ∷ bytes "" ∷ []) ≡ true ∷ true ∷ false ∷ false ∷ false ∷ []
unfolding octets_compute hex_bits octet_bits all_bits bits_of trimmed
hexadecimal = refl

-- bits 0 and 2, no bits, bit 63 and bit 64
sets : as_set (hex "05A0") 5 ∷ as_set (hex "05A0") 1 ∷ as_set (hex "05A0") 13 ∷ as_set (hex "00") 0 ∷ as_set (hex "00") 1 ∷ as_set (hex "0000") 0
    ∷ as_set (hex "000000000000000001") 9223372036854775808 ∷ as_set (hex "00000000000000000080") 0 ∷ as_set (hex "00000000000000000080") 1 ∷ []
    ≡ true ∷ false ∷ false ∷ true ∷ false ∷ true ∷ true ∷ false ∷ false ∷ []
unfolding octets_compute octet_bits all_bits bits_of trimmed low_bits
sets = refl
