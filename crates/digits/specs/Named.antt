-- Document 02, Q-2: of a BIT STRING with names "trailing zero bits then don't count".
use Rattle.std.specs.Prelude.{ℕ, List, [], ◌∷◌, length, eqb}
use Rattle.octets.specs.Pick.{pick, both}

-- bits without the zeros after the last 1
unfoldable pub trimmed : List ℕ → List ℕ
trimmed [] = []
trimmed (b ∷ bs) = let r = trimmed bs in pick (both (eqb b 0) (eqb (length r) 0)) [] (b ∷ r)
