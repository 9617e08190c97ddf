-- Two lists of bits, and a list and a set, as the code compares them: a missing bit counts as 0.
use Rattle.std.specs.Prelude.{ℕ, ◌/◌, ◌%◌, Bool, List, [], ◌∷◌, eqb}
use Rattle.octets.specs.Pick.{both}
use Rattle.octets.specs.Octets.{every}

abbrev pub is_zero : ℕ → Bool
is_zero b = eqb 0 b

unfoldable pub alike : List ℕ → List ℕ → Bool
alike [] t = every is_zero t
alike (a ∷ s) [] = let r = alike s [] in both (eqb a 0) r
alike (a ∷ s) (b ∷ t) = let r = alike s t in both (eqb a b) r

-- a list and a number whose lowest bit comes first
unfoldable pub alike_number : List ℕ → ℕ → Bool
alike_number [] m = eqb m 0
alike_number (a ∷ s) m = let r = alike_number s (m / 2) in both (eqb a (m % 2)) r

-- with a bit at least
abbrev pub padded : List ℕ → List ℕ
padded [] = 0 ∷ []
padded (b ∷ t) = b ∷ t
