-- Document 02, Q-2: "a GSER list of the names in braces". RFC 3641, 3.5: "{" [ sp identifier *( "," sp identifier ) ] sp "}", sp any number of spaces.
-- Here the texts where identifiers are to stand, whatever they are.
use Rattle.std.specs.Prelude.{ℕ, ◌-◌, Bool, List, [], ◌∷◌, map, length, leb, eqb}
use Rattle.std.specs.Prelude.{Option, None, Some}
use Rattle.octets.specs.Pick.{pick, both}
use Rattle.octets.specs.Octets.{octet, part}

-- ---- spaces
-- a text without the spaces before it, and without those after it
unfoldable pub after_spaces : List ℕ → List ℕ
after_spaces [] = []
after_spaces (b ∷ bs) = let r = after_spaces bs in pick (eqb b 32) r (b ∷ bs)

unfoldable pub before_spaces : List ℕ → List ℕ
before_spaces [] = []
before_spaces (b ∷ bs) = let r = before_spaces bs in pick (both (eqb b 32) (eqb (length r) 0)) [] (b ∷ r)

-- ---- braces
unfoldable pub in_braces : List ℕ → Bool
in_braces t = both (leb 2 (length t)) (both (eqb (octet t 0) 123) (eqb (octet t (length t - 1)) 125))

-- what stands between them, without the spaces before "}"
unfoldable pub inside : List ℕ → List ℕ
inside t = before_spaces (part t 1 (length t - 2))

-- ---- commas
abbrev pub on_first : ℕ → List (List ℕ) → List (List ℕ)
on_first b [] = (b ∷ []) ∷ []
on_first b (p ∷ ps) = (b ∷ p) ∷ ps

-- the texts between the commas of a text: one more than it has commas
unfoldable pub parted : List ℕ → List (List ℕ)
parted [] = [] ∷ []
parted (b ∷ bs) = let r = parted bs in pick (eqb b 44) ([] ∷ r) (on_first b r)

-- ---- the list
-- the texts of a list, each without the spaces before it; nothing where a text isn't in braces
unfoldable pub listed : List ℕ → Option (List (List ℕ))
listed t =
    let parts = pick (eqb (length (inside t)) 0) [] (map after_spaces (parted (inside t))) in
    pick (in_braces t) (Some parts) None
