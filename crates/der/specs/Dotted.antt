-- OBJECT IDENTIFIERs in dotted form (Rules): "two arcs or more, first 0..2, second below 40 under 0 and 1, of any size, no leading zeros".
use Rattle.std.specs.Prelude.{ℕ, Bool, true, false, List, [], ◌∷◌, map, ltb, leb, eqb}
use Rattle.octets.specs.Pick.{both, either}
use Rattle.octets.specs.Text.{is_number, decimal_from, pieces}

unfoldable pub every_number : List (List ℕ) → Bool
every_number [] = true
every_number (p ∷ ps) = let r = every_number ps in both (is_number p) r

-- the arcs of a dotted text
unfoldable pub dotted_arcs : List ℕ → List ℕ
dotted_arcs t = map (decimal_from 0) (pieces t)

-- the first two arcs are there and within their bounds
abbrev pub rooted : List ℕ → Bool
rooted [] = false
rooted (a ∷ []) = false
rooted (a ∷ b ∷ arcs) = both (leb a 2) (either (eqb a 2) (ltb b 40))

unfoldable pub is_dotted : List ℕ → Bool
is_dotted t = both (every_number (pieces t)) (rooted (dotted_arcs t))
