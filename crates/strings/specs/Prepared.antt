-- Rules: "Preparation here drops spaces at both ends, makes inner runs of space one, and for caseIgnoreMatch turns A..Z into a..z"; with document 02's Q-1
-- each character up to U+017F has an image, of blanks and octets (`Images`); "Spaces are trimmed and joined afterwards, save one that NFKC puts before a
-- combining mark. Characters above U+017F stand for themselves".
use Rattle.std.specs.Prelude.{ℕ, ◌+◌, ◌-◌, ◌*◌, Bool, List, [], ◌∷◌, ◌++◌, ltb}
use Rattle.octets.specs.Pick.{pick, both}
use Rattle.octets.specs.Text.{within}
use Rattle.strings.specs.Images.{Mark, blank, shown, image}
use Rattle.strings.specs.declared.Before.{Before}
use Rattle.strings.specs.declared.Before.TheVariants.{Nothing, Character, Space}

-- ---- images, in UTF-8: a character up to U+017F is an octet below 80, or two octets, C2 to C5 and then 80 to BF; the octets of any other stand for themselves
abbrev pub is_pair : ℕ → ℕ → Bool
is_pair a b = both (within 0xC2 0xC5 a) (within 0x80 0xBF b)

abbrev pub pair_number : ℕ → ℕ → ℕ
pair_number a b = (a - 0xC0) * 64 + (b - 0x80)

abbrev pub octet_image : Bool → ℕ → List Mark
octet_image fold a = pick (ltb a 0x80) (image fold a) (shown a ∷ [])

unfoldable pub images : Bool → List ℕ → List Mark
images fold [] = []
images fold (a ∷ []) = octet_image fold a
images fold (a ∷ b ∷ s) =
    let pair = image fold (pair_number a b) ++ images fold s in
    let single = octet_image fold a ++ images fold (b ∷ s) in
    pick (is_pair a b) pair single

-- ---- joining: what stands before (`Before`) is no character yet, a character, or a space after one
abbrev pub after_space : Before → Before
after_space Nothing = Nothing
after_space Character = Space
after_space Space = Space

-- a run of spaces becomes one when a character follows it
abbrev pub spaced : Before → List ℕ → List ℕ
spaced Nothing l = l
spaced Character l = l
spaced Space l = 32 ∷ l

unfoldable pub joined : Before → List Mark → List ℕ
joined p [] = []
joined p (blank ∷ ms) = joined (after_space p) ms
joined p (shown b ∷ ms) = let rest = joined Character ms in spaced p (b ∷ rest)

-- a string as prepared
unfoldable pub prepared : Bool → List ℕ → List ℕ
prepared fold s = joined Nothing (images fold s)
