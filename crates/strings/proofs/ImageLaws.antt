-- "it is shown once over all of it that what it gives folds to itself": each character of an image is its own image. The test goes over all characters up to
-- U+017F, and is computed.
use mathlib.Core.Path.{◌≡◌, refl, sym, ap, ap₂, ◌∙◌}
use mathlib.Core.Bool.{Bool, true, false, false≢true}
use mathlib.Core.List.{List, [], ◌∷◌}
use Prim.Native.Nat.{ℕ, ◌≤◌, ◌<◌}
use native.Mathlib.Omega.{arith}
use borrow.Author.Tests.{eqb-true, lt-ltb, le-ltb, leb-true}
use lib.Dec.{ltb, leb, eqb}
use lib.ListN.{length}
use Rattle.octets.specs.Pick.{pick, both, no, all}
use Rattle.octets.specs.Octets.{octet, same, every}
use Rattle.octets.specs.Text.{is_upper, lower}
use Rattle.octets.proofs.Laws.{all-at, both_true}
use Rattle.octets.proofs.TextLaws.{every-at, same-is}
use Rattle.strings.specs.Images.{table, image_in, characters_of, characters_in, encoded, all_encoded, Mark, blank, shown, marks, image}
use Rattle.strings.specs.Inner.Shapes.{unpacked, shape_marks, low_shape, mark_shape, sign_shape, middle_shape, exact_shape, is_capital, extended_shape}
use Rattle.strings.specs.Inner.Shapes.{latin_shape, folded_shape, high_shape, shape_of}

abbrev own : Bool → ℕ → Bool
own fold d = same (characters_of d (image_in table fold d)) (d ∷ [])

abbrev stays : Bool → ℕ → Bool
stays fold c = every (own fold) (characters_of c (image_in table fold c))

all_stay : (fold : Bool) → all (stays fold) 0x0180 ≡ true
unfolding table image_in all every same
all_stay true = refl
all_stay false = refl

-- each character of an image is its own image
pub image-stays : (fold : Bool) (c i : ℕ) → c < 0x0180 → i < length (characters_in fold c)
    → characters_in fold (octet (characters_in fold c) i) ≡ octet (characters_in fold c) i ∷ []
image-stays fold c i h l =
    let d = octet (characters_in fold c) i in
    same-is (characters_in fold d) (d ∷ []) (every-at (own fold) (characters_in fold c) i (all-at (stays fold) 0x0180 c (all_stay fold) h) l)

-- ---- the code's images are those of the table, at each character
unfoldable pub same_mark : Mark → Mark → Bool
same_mark blank blank = true
same_mark blank (shown b) = false
same_mark (shown a) blank = false
same_mark (shown a) (shown b) = eqb a b

unfoldable pub same_marks : List Mark → List Mark → Bool
same_marks [] [] = true
same_marks [] (b ∷ bs) = false
same_marks (a ∷ l) [] = false
same_marks (a ∷ l) (b ∷ bs) = both (same_mark a b) (same_marks l bs)

same-mark : (a b : Mark) → same_mark a b ≡ true → a ≡ b
unfolding same_mark
same-mark blank blank e = refl
same-mark blank (shown b) e = absurd (false≢true e)
same-mark (shown a) blank e = absurd (false≢true e)
same-mark (shown a) (shown b) e = ap shown (eqb-true a b e)

pub same-marks : (a b : List Mark) → same_marks a b ≡ true → a ≡ b
unfolding same_marks
same-marks [] [] e = refl
same-marks [] (b ∷ bs) e = absurd (false≢true e)
same-marks (a ∷ l) [] e = absurd (false≢true e)
same-marks (a ∷ l) (b ∷ bs) e = let w = both_true (same_mark a b) (same_marks l bs) e in
    ap₂ (λ (x : Mark) (y : List Mark). x ∷ y) (same-mark a b w.0) (same-marks l bs w.1)

abbrev coded : Bool → ℕ → Bool
coded fold c = same_marks (shape_marks (shape_of fold c)) (image fold c)

all_coded : (fold : Bool) → all (coded fold) 0x0180 ≡ true
unfolding all same_mark same_marks unpacked is_upper lower low_shape mark_shape sign_shape middle_shape exact_shape is_capital extended_shape latin_shape folded_shape
    high_shape shape_of table image_in encoded all_encoded marks image
all_coded true = refl
all_coded false = refl

pub shape_is : (fold : Bool) (c : ℕ) → c < 0x0180 → shape_marks (shape_of fold c) ≡ image fold c
shape_is fold c h = same-marks (shape_marks (shape_of fold c)) (image fold c) (all-at (coded fold) 0x0180 c (all_coded fold) h)

pub low-is : (fold : Bool) (c : ℕ) → c < 128 → shape_marks (low_shape fold c) ≡ image fold c
unfolding shape_of
low-is fold c h = sym (rw (lt-ltb c 0x80 h)) ∙ shape_is fold c (omega arith)

pub high_is : (fold : Bool) (c : ℕ) → 128 ≤ c → c < 0x0180 → shape_marks (high_shape fold c) ≡ image fold c
unfolding shape_of
high_is fold c h l = sym (rw (le-ltb c 0x80 h)) ∙ shape_is fold c l

-- ---- images are short: at most one mark for an octet, five for two
abbrev short : Bool → ℕ → Bool
short fold c = leb (length (image fold c)) (pick (ltb c 0x80) 1 5)

all_short : (fold : Bool) → all (short fold) 0x0180 ≡ true
unfolding all table image_in encoded all_encoded marks image
all_short true = refl
all_short false = refl

pub low-short : (fold : Bool) (c : ℕ) → c < 128 → length (image fold c) ≤ 1
low-short fold c h = leb-true _ _ (rw (lt-ltb c 0x80 h) at (all-at (short fold) 0x0180 c (all_short fold) (omega arith)))

pub high-short : (fold : Bool) (c : ℕ) → 128 ≤ c → c < 0x0180 → length (image fold c) ≤ 5
high-short fold c h l = leb-true _ _ (rw (le-ltb c 0x80 h) at (all-at (short fold) 0x0180 c (all_short fold) l))

-- ---- folded images have no letter A to Z
abbrev pub is_small : Mark → Bool
is_small blank = true
is_small (shown b) = no (is_upper b)

unfoldable pub all_small : List Mark → Bool
all_small [] = true
all_small (m ∷ ms) = both (is_small m) (all_small ms)

abbrev small_image : ℕ → Bool
small_image c = all_small (image true c)

all_small_lem : all small_image 0x0180 ≡ true
unfolding all all_small is_upper table image_in encoded all_encoded marks image
all_small_lem = refl

pub image-small : (c : ℕ) → c < 0x0180 → all_small (image true c) ≡ true
image-small c h = all-at small_image 0x0180 c all_small_lem h
