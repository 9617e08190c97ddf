-- Rules: "Octets: `'..'H`, uppercase, even digits. Bits: `'..'B` or `'..'H`; equal in number and bit by bit."
use Rattle.std.specs.Prelude.{ℕ, ◌-◌, ◌/◌, ◌%◌, Bool, List, [], ◌∷◌, ◌++◌, length, leb, eqb}
use Rattle.octets.specs.Pick.{pick, both, either}
use Rattle.octets.specs.Octets.{octet, part, every, nibble, paired}
use Rattle.octets.specs.Text.{within, is_digit}

-- ---- what stands between the single quotes, before the letter
unfoldable pub in_quotes : ℕ → List ℕ → Bool
in_quotes letter t =
    both (leb 3 (length t))
    (both (eqb (octet t 0) 39)
    (both (eqb (octet t (length t - 2)) 39)
    (eqb (octet t (length t - 1)) letter)))

abbrev pub digits : List ℕ → List ℕ
digits t = part t 1 (length t - 3)

-- uppercase
abbrev pub is_hex_digit : ℕ → Bool
is_hex_digit b = either (is_digit b) (within 65 70 b)

abbrev pub is_bit : ℕ → Bool
is_bit b = within 48 49 b

unfoldable pub is_hex_string : List ℕ → Bool
is_hex_string t = both (in_quotes 72 t) (every is_hex_digit (digits t))

unfoldable pub is_bit_text : List ℕ → Bool
is_bit_text t = both (in_quotes 66 t) (every is_bit (digits t))

-- ---- octets
unfoldable pub is_octets : List ℕ → Bool
is_octets t = both (is_hex_string t) (eqb (length (digits t) % 2) 0)

unfoldable pub asserted_octets : List ℕ → List ℕ
asserted_octets t = paired (digits t)

-- ---- bits
unfoldable pub is_bits : List ℕ → Bool
is_bits t = either (is_bit_text t) (is_hex_string t)

abbrev pub nibble_bits : ℕ → List ℕ
nibble_bits n = (n / 8 % 2) ∷ (n / 4 % 2) ∷ (n / 2 % 2) ∷ (n % 2) ∷ []

unfoldable pub hex_bits : List ℕ → List ℕ
hex_bits [] = []
hex_bits (b ∷ bs) = nibble_bits (nibble b) ++ hex_bits bs

unfoldable pub text_bits : List ℕ → List ℕ
text_bits [] = []
text_bits (b ∷ bs) = (b - 48) ∷ text_bits bs

unfoldable pub asserted_bits : List ℕ → List ℕ
asserted_bits t = pick (is_bit_text t) (text_bits (digits t)) (hex_bits (digits t))
