-- X.690 order of encodings (11.6), for SET OF.
use Rattle.std.specs.Prelude.{ℕ, Bool, true, false, List, [], ◌∷◌, ltb, eqb}
use Rattle.octets.specs.Pick.{pick, both}

-- one encoding is not above another octet by octet, as if the shorter were padded with zero octets
unfoldable pub not_above : List ℕ → List ℕ → Bool
not_above [] bs = true
not_above (a ∷ l) [] = let r = not_above l [] in both (eqb a 0) r
not_above (a ∷ l) (b ∷ bs) = let r = not_above l bs in pick (ltb a b) true (pick (ltb b a) false r)
