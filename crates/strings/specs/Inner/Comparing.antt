-- What the next image of a string, and two sides that are compared, say of a prepared string.
use Rattle.std.specs.Prelude.{ℕ, ◌<◌, ◌+◌, Bool, true, false, List, [], ◌∷◌, ◌++◌, map, eqb, length, drop}
use Rattle.std.specs.Prelude.{Option, None, Some}
use Rattle.std.specs.declared.ops.ControlFlow.{ControlFlow}
use Rattle.std.specs.declared.ops.ControlFlow.TheVariants.{Continue, Break}
use Rattle.octets.specs.Pick.{pick, no}
use Rattle.octets.specs.Octets.{same}
use Rattle.octets.specs.Text.{within, lower}
use Rattle.octets.specs.Quoted.{undoubled}
use Rattle.strings.specs.Images.{Mark}
use Rattle.strings.specs.Prepared.{images, joined}
use Rattle.strings.specs.Inner.Shapes.{unpacked, shape_marks, fold_octet as shape-fold}
use Rattle.strings.specs.Inner.Escaped.{unescaped}
use Rattle.strings.specs.declared.Form.{Form}
use Rattle.strings.specs.declared.Before.{Before}
use Rattle.strings.specs.declared.Before.TheVariants as before
use Rattle.strings.specs.declared.Piece.{Piece}
use Rattle.strings.specs.declared.Found.{Found}
use Rattle.strings.specs.declared.Sides.{Sides}

-- ---- octets: of a stored string as they are, of a quoted one with one quote for two, of an escaped one without its escapes
abbrev pub octets_of : Form → List ℕ → List ℕ
octets_of Form.Stored s = s
octets_of Form.Quoted s = undoubled s
octets_of Form.Escaped s = unescaped s

-- an octet that stands for itself whatever comes after it
abbrev pub is_itself : Form → ℕ → Bool
is_itself Form.Stored b = true
is_itself Form.Quoted b = no (eqb b 34)
is_itself Form.Escaped b = no (eqb b 92)

-- the octet at a place, with the place after it
abbrev pub report_octet : Form → List ℕ → Option (ℕ × ℕ) → List ℕ
report_octet form s None = []
report_octet form s (Some l) = l.0 ∷ octets_of form (drop l.1 s)

-- ---- octets with A to Z folded alone, or as they are
unfoldable pub folded : Bool → List ℕ → List ℕ
folded true s = map lower s
folded false s = s

abbrev pub fold_octet : Bool → ℕ → ℕ
fold_octet fold b = shape-fold fold b

unfoldable pub letters_at : Bool → Form → List ℕ → ℕ → List ℕ
letters_at fold form s at = folded fold (octets_of form (drop at s))

-- ---- the images from a place on
unfoldable pub images_at : Bool → Form → List ℕ → ℕ → List Mark
images_at fold form s at = images fold (octets_of form (drop at s))

abbrev pub report_piece : Bool → Form → List ℕ → Piece → List Mark
report_piece fold form s p = shape_marks p.shape ++ images_at fold form s p.after

-- how many octets are left at a place
abbrev pub left : Form → List ℕ → ℕ → ℕ
left form s at = length (octets_of form (drop at s))

-- ---- what is left of the prepared string at a place, and what the next image says of it
unfoldable pub rest_at : Bool → Form → List ℕ → ℕ → Before → List ℕ
rest_at fold form s at p = joined p (images_at fold form s at)

abbrev pub is_space : Before → Bool
is_space before.Nothing = false
is_space before.Character = false
is_space before.Space = true

abbrev pub gap : Bool → List ℕ → List ℕ
gap true l = 32 ∷ l
gap false l = l

abbrev pub report_found : Bool → Form → List ℕ → Option Found → List ℕ
report_found fold form s None = []
report_found fold form s (Some f) = gap f.space (unpacked f.octets.word f.octets.count ++ rest_at fold form s f.after before.Character)

-- less is left after it
abbrev pub Further : Form → List ℕ → ℕ → Option Found → Type 0
Further form s at None = Unit {0}
Further form s at (Some f) = left form s f.after < left form s at

-- ---- octets of a stored string that are as prepared, but for folding: 21 to 7E, or a space before one of these that isn't the first of the string
abbrev pub is_graphic_next : List ℕ → Bool
is_graphic_next [] = false
is_graphic_next (b ∷ s) = within 33 126 b

unfoldable pub is_kept : ℕ → List ℕ → Bool
is_kept i [] = false
is_kept i (b ∷ s) = pick (within 33 126 b) true (pick (eqb b 32) (pick (eqb i 0) false (is_graphic_next s)) false)

-- what stands before a place behind such octets alone
abbrev pub before_at : ℕ → Before
before_at i = pick (eqb i 0) before.Nothing before.Character

-- the place after an octet that is the first of others, folded
abbrev pub after_first : Bool → ℕ → ℕ → List ℕ → Option ℕ
after_first fold b i [] = None
after_first fold b i (y ∷ s) = pick (eqb b (fold_octet fold y)) (Some (i + 1)) None

-- what is left of a stored string there, beside the octets from the same place on
unfoldable pub same_from : Bool → List ℕ → List ℕ → ℕ → Bool
same_from fold c x i = same (rest_at fold Form.Stored c i (before_at i)) (letters_at fold Form.Stored x i)

-- two sides, and what a turn says of them: others to go on with, or whether they are the same
abbrev pub ahead : Bool → List ℕ → Sides → List ℕ
ahead fold c s = unpacked s.word s.count ++ rest_at fold Form.Stored c s.at (before_at s.at)

unfoldable pub beside : Bool → List ℕ → List ℕ → Sides → Bool
beside fold c x s = same (ahead fold c s) (letters_at fold Form.Stored x s.i)

abbrev pub report_turn : Bool → List ℕ → List ℕ → ControlFlow Bool Sides → Bool
report_turn fold c x (Continue s) = beside fold c x s
report_turn fold c x (Break r) = r

-- a turn leaves less of the prepared string, or the same with less of the stored one
unfoldable pub weight : Bool → List ℕ → Sides → ℕ
weight fold c s = length (ahead fold c s) + left Form.Stored c s.at

abbrev pub Less : Bool → List ℕ → Sides → ControlFlow Bool Sides → Type 0
Less fold c s (Continue t) = weight fold c t < weight fold c s
Less fold c s (Break r) = Unit {0}

-- ---- octets that are as prepared, but for folding
-- an octet that can't stand in them, behind a space or at the start (`space`), or behind a character
abbrev pub is_loose : Bool → ℕ → Bool
is_loose space b = pick (eqb b 34) true (pick (eqb b 32) space (no (within 33 126 b)))

unfoldable pub is_plain : Bool → List ℕ → Bool
is_plain space [] = no space
is_plain space (b ∷ bs) = let r = is_plain (eqb b 32) bs in pick (is_loose space b) false r
