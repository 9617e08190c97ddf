-- Text: characters by their kind, words, spaces, decimal numbers.
use Rattle.std.specs.Prelude.{ℕ, suc, ◌+◌, ◌-◌, ◌*◌, Bool, true, false, List, [], ◌∷◌, length, drop, ltb, leb, eqb}
use Rattle.octets.specs.Pick.{pick, both, either, no}
use Rattle.octets.specs.Octets.{every}

-- from a to b, both included
abbrev pub within : ℕ → ℕ → ℕ → Bool
within a b o = both (leb a o) (leb o b)

unfoldable pub is_digit : ℕ → Bool
is_digit b = within 48 57 b

unfoldable pub is_lower : ℕ → Bool
is_lower b = within 97 122 b

unfoldable pub is_upper : ℕ → Bool
is_upper b = within 65 90 b

unfoldable pub is_letter : ℕ → Bool
is_letter b = either (is_lower b) (is_upper b)

unfoldable pub is_alnum : ℕ → Bool
is_alnum b = either (is_letter b) (is_digit b)

-- a hexadecimal digit in either case, and its value
unfoldable pub is_hex : ℕ → Bool
is_hex b = either (is_digit b) (either (within 65 70 b) (within 97 102 b))

unfoldable pub hex_value : ℕ → ℕ
hex_value b = pick (ltb b 65) (b - 48) (pick (ltb b 97) (b - 55) (b - 87))

-- "A name is a lowercase letter, then letters, digits and single hyphens, no hyphen last": octet b may stand after octet a in one
unfoldable pub may_follow : ℕ → ℕ → Bool
may_follow a b = either (is_alnum b) (both (eqb b 45) (no (eqb a 45)))

-- octet a may be its last
abbrev pub may_be_last : ℕ → Bool
may_be_last a = no (eqb a 45)

-- the rest of one after octet a
unfoldable pub name_from : ℕ → List ℕ → Bool
name_from a [] = may_be_last a
name_from a (b ∷ s) = let r = name_from b s in both (may_follow a b) r

unfoldable pub is_name : List ℕ → Bool
is_name [] = false
is_name (b ∷ s) = both (is_lower b) (name_from b s)

-- A to Z turned into a to z; any other octet as it is
unfoldable pub lower : ℕ → ℕ
lower b = pick (is_upper b) (b + 32) b

-- a text begins with a word
unfoldable pub starts : List ℕ → List ℕ → Bool
starts [] s = true
starts (w ∷ ws) [] = false
starts (w ∷ ws) (b ∷ s) = let r = starts ws s in both (eqb b w) r

-- the number of spaces (U+0020) that a text begins with
unfoldable pub lead : List ℕ → ℕ
lead [] = 0
lead (b ∷ s) = let r = suc (lead s) in pick (eqb b 32) r 0

-- the first place at or after this one that has no space
unfoldable pub skip : List ℕ → ℕ → ℕ
skip s at = at + lead (drop at s)

-- the number that decimal digits stand for, after digits that stand for n
unfoldable pub decimal_from : ℕ → List ℕ → ℕ
decimal_from n [] = n
decimal_from n (b ∷ bs) = decimal_from (n * 10 + (b - 48)) bs

abbrev pub decimal : List ℕ → ℕ
decimal s = decimal_from 0 s

-- decimal digits, at least one, without leading zeros: a 0 stands alone
unfoldable pub is_number : List ℕ → Bool
is_number [] = false
is_number (b ∷ bs) = pick (eqb b 48) (eqb (length bs) 0) (every is_digit (b ∷ bs))

-- without its spaces at the end
unfoldable pub trimmed : List ℕ → List ℕ
trimmed [] = []
trimmed (b ∷ s) = let r = trimmed s in pick (eqb (length r) 0) (pick (eqb b 32) [] (b ∷ r)) (b ∷ r)

-- ---- texts divided by dots
abbrev pub onto_first : ℕ → List (List ℕ) → List (List ℕ)
onto_first b [] = (b ∷ []) ∷ []
onto_first b (p ∷ ps) = (b ∷ p) ∷ ps

-- the pieces before, between and after the dots
unfoldable pub pieces : List ℕ → List (List ℕ)
pieces [] = [] ∷ []
pieces (b ∷ s) = let r = pieces s in pick (eqb b 46) ([] ∷ r) (onto_first b r)
