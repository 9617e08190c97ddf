-- The images of a string, one after another, and the next one that has octets.
use mathlib.Core.Path.{◌≡◌, refl, sym, ap, ap₂, ◌∙◌}
use mathlib.Core.Bool.{Bool, true, false, not}
use mathlib.Core.List.{List, [], ◌∷◌, ◌++◌, map}
use Prim.Native.Nat.{ℕ, zero, suc, ◌≤◌, ◌<◌, ◌+◌, ◌-◌, ◌*◌, ◌/◌, ◌%◌}
use native.Mathlib.Omega.{arith}
use borrow.Author.Tests.{lt-ltb, le-ltb, lt-leb, leb-true, not-true, not-false}
use lib.Dec.{leb}
use Rattle.std.specs.Prelude.{Some}
use lib.ListN.{length, drop}
use Rattle.octets.specs.Text.{within}
use Rattle.octets.proofs.Laws.{both_true}
use Rattle.strings.specs.Images.{Mark, shown, image}
use Rattle.strings.specs.Prepared.{is_pair, pair_number, images, after_space, spaced, joined}
use Rattle.strings.specs.Inner.Shapes.{unpacked, shape_marks, single, low_shape, high_shape}
use Rattle.strings.specs.Inner.Comparing.{octets_of, images_at, report_piece, left, rest_at, is_space, gap, report_found}
use Rattle.strings.specs.declared.Form.{Form}
use Rattle.strings.specs.declared.Before.{Before}
use Rattle.strings.specs.declared.Octets.{Octets}
use Rattle.strings.specs.declared.Shape.{Shape}
use Rattle.strings.specs.declared.Piece.{Piece}
use Rattle.strings.proofs.ImageLaws.{low-is, high_is}

-- ---- images, octet by octet
not_pair : (a b : ℕ) → a < 128 → is_pair a b ≡ false
not_pair a b h = rw (lt-leb 0xC2 a (omega arith))

-- an octet below 80
pub images-low : (fold : Bool) (a : ℕ) (s : List ℕ) → a < 128 → images fold (a ∷ s) ≡ image fold a ++ images fold s
unfolding images
images-low fold a [] h = rw (lt-ltb a 0x80 h) (sym (append-none (image fold a)))
  where
    append-none : (l : List Mark) → l ++ [] ≡ l
    append-none [] = refl
    append-none (m ∷ l) = ap (λ (y : List Mark). m ∷ y) (append-none l)
images-low fold a (b ∷ s) h = rw (not_pair a b h, lt-ltb a 0x80 h)

-- an octet from 80 on that is none of a pair
pub images-alone : (fold : Bool) (a : ℕ) → 128 ≤ a → images fold (a ∷ []) ≡ shown a ∷ []
unfolding images
images-alone fold a h = rw (le-ltb a 0x80 h)

pub images-single : (fold : Bool) (a b : ℕ) (s : List ℕ) → 128 ≤ a → is_pair a b ≡ false → images fold (a ∷ b ∷ s) ≡ shown a ∷ images fold (b ∷ s)
unfolding images
images-single fold a b s h e = rw (e, le-ltb a 0x80 h)

pub images-pair : (fold : Bool) (a b : ℕ) (s : List ℕ) → is_pair a b ≡ true → images fold (a ∷ b ∷ s) ≡ image fold (pair_number a b) ++ images fold s
unfolding images
images-pair fold a b s e = rw e

-- the number of a pair
pub record Paired (a b : ℕ) : Type 0 where
  pub first-least : 0xC2 ≤ a
  pub first-most : a ≤ 0xC5
  pub second-least : 0x80 ≤ b
  pub second-most : b ≤ 0xBF

pub paired : (a b : ℕ) → is_pair a b ≡ true → Paired a b
paired a b e =
    let w = both_true (within 0xC2 0xC5 a) (within 0x80 0xBF b) e in
    let x = both_true (leb 0xC2 a) (leb a 0xC5) w.0 in
    let y = both_true (leb 0x80 b) (leb b 0xBF) w.1 in
    record {
      first-least = leb-true 0xC2 a x.0;
      first-most = leb-true a 0xC5 x.1;
      second-least = leb-true 0x80 b y.0;
      second-most = leb-true b 0xBF y.1;
    }

pub single-marks : (a : ℕ) → a ≤ 255 → shape_marks (single a) ≡ shown a ∷ []
unfolding unpacked
single-marks a h = let e : a % 256 ≡ a = omega arith in ap (λ (y : ℕ). shown y ∷ []) e

-- ---- read_high
abbrev piece_of : Shape → ℕ → Piece
piece_of sh after = record { shape = sh; after = after }

module _ (a b : ℕ) (u : Bool) (pair : u ≡ is_pair a b) (h : not u ≡ false) where
  is-paired : Paired a b
  is-paired = paired a b (sym pair ∙ not-false u h)

module _ (s : List ℕ) (form : Form) (fold : Bool) (a after : ℕ) (high : 128 ≤ a) (sh : Shape) where
  pub high-last : a ≤ 255 → [] ≡ octets_of form (drop after s) → sh ≡ single a
      → report_piece fold form s (piece_of sh after) ≡ images fold (a ∷ octets_of form (drop after s))
  unfolding images_at images
  high-last octet none q =
      ap₂ (λ (x : Shape) (y : List ℕ). shape_marks x ++ images fold y) q (sym none) ∙ ap (λ (l : List Mark). l ++ []) (single-marks a octet)
      ∙ sym (images-alone fold a high) ∙ ap (λ (y : List ℕ). images fold (a ∷ y)) none

  module _ (b next : ℕ) (there : b ∷ octets_of form (drop next s) ≡ octets_of form (drop after s)) where
    pub high-single : (u : Bool) → a ≤ 255 → u ≡ is_pair a b → not u ≡ true → sh ≡ single a
        → report_piece fold form s (piece_of sh after) ≡ images fold (a ∷ octets_of form (drop after s))
    unfolding images_at
    high-single u octet pair h q =
        ap₂ (λ (x : Shape) (y : List ℕ). shape_marks x ++ images fold y) q (sym there)
        ∙ ap (λ (l : List Mark). l ++ images fold (b ∷ octets_of form (drop next s))) (single-marks a octet)
        ∙ sym (images-single fold a b (octets_of form (drop next s)) high (sym pair ∙ not-true u h)) ∙ ap (λ (y : List ℕ). images fold (a ∷ y)) there

module _ (s : List ℕ) (form : Form) (fold : Bool) (a after b next : ℕ) (there : b ∷ octets_of form (drop next s) ≡ octets_of form (drop after s)) where
  pub high-pair : (sh : Shape) (u : Bool) (x y c : ℕ) → u ≡ is_pair a b → not u ≡ false → x ≡ a → y ≡ b → c ≡ (x - 192) * 64 + (y - 128) → sh ≡ high_shape fold c
      → report_piece fold form s (piece_of sh next) ≡ images fold (a ∷ octets_of form (drop after s))
  unfolding images_at
  high-pair sh u x y c pair h ex ey q z =
      let w = is-paired a b u pair h in
      let w0 = w.first-least in
      let w1 = w.first-most in
      let w2 = w.second-least in
      let w3 = w.second-most in
      let number : c ≡ pair_number a b = omega arith in
      ap (λ (p : Shape). shape_marks p ++ images fold (octets_of form (drop next s))) z
      ∙ ap (λ (l : List Mark). l ++ images fold (octets_of form (drop next s))) (high_is fold c (omega arith) (omega arith) ∙ ap (image fold) number)
      ∙ sym (images-pair fold a b (octets_of form (drop next s)) (sym pair ∙ not-false u h)) ∙ ap (λ (y : List ℕ). images fold (a ∷ y)) there

  pub high-on : left form s next ≤ left form s after
  high-on = omega (arith, ap length there)

pub high-stays : (form : Form) (s : List ℕ) (after : ℕ) → left form s after ≤ left form s after
high-stays form s after = omega arith

-- ---- read_piece
pub piece-low : (s : List ℕ) (form : Form) (fold : Bool) (a after : ℕ) (sh : Shape) → a < 128 → sh ≡ low_shape fold a
    → report_piece fold form s (piece_of sh after) ≡ images fold (a ∷ octets_of form (drop after s))
unfolding images_at
piece-low s form fold a after sh h q =
    ap (λ (p : Shape). shape_marks p ++ images fold (octets_of form (drop after s))) q
    ∙ ap (λ (l : List Mark). l ++ images fold (octets_of form (drop after s))) (low-is fold a h)
    ∙ sym (images-low fold a (octets_of form (drop after s)) h)

-- ---- the next image
pub unpacked-more : (w n : ℕ) → 0 < n → unpacked w n ≡ w % 256 ∷ unpacked (w / 256) (n - 1)
unfolding unpacked
unpacked-more w zero h = absurd (omega arith)
unpacked-more w (suc n) h = let e : suc n - 1 ≡ n = omega arith in ap (λ (k : ℕ). w % 256 ∷ unpacked (w / 256) k) (sym e)

pub unpacked-length : (w n : ℕ) → length (unpacked w n) ≡ n
unfolding unpacked
unpacked-length w zero = refl
unpacked-length w (suc n) = ap suc (unpacked-length (w / 256) n)

-- marks that are all shown
joined-shown : (p : Before) (b : ℕ) (l : List ℕ) (ms : List Mark) → joined p (map shown (b ∷ l) ++ ms) ≡ spaced p (b ∷ l ++ joined Before.Character ms)
unfolding joined
joined-shown p b [] ms = refl
joined-shown p b (c ∷ l) ms = ap (λ (y : List ℕ). spaced p (b ∷ y)) (joined-shown Before.Character c l ms)

gap-spaced : (p : Before) (l : List ℕ) → gap (is_space p) l ≡ spaced p l
gap-spaced Before.Nothing l = refl
gap-spaced Before.Character l = refl
gap-spaced Before.Space l = refl

-- an image at a place, and the place after its character
module _ (fold : Bool) (form : Form) (s : List ℕ) (at end : ℕ) (p : Before) (l : List ℕ) (inv : rest_at fold form s at p ≡ l) (sh : Shape)
    (marks : images_at fold form s at ≡ shape_marks sh ++ images_at fold form s end) where
  blank-on : (x : Before) → sh ≡ Shape.Blank → x ≡ after_space p → rest_at fold form s end x ≡ l
  unfolding rest_at joined
  blank-on x q h = ap (λ (y : Before). joined y (images_at fold form s end)) h
      ∙ sym (ap (joined p) (marks ∙ ap (λ (y : Shape). shape_marks y ++ images_at fold form s end) q)) ∙ inv

  module _ (o : Octets) (q : sh ≡ Shape.Shown o) where
    octets-here : images_at fold form s at ≡ map shown (unpacked o.word o.count) ++ images_at fold form s end
    octets-here = marks ∙ ap (λ (y : Shape). shape_marks y ++ images_at fold form s end) q

    nothing-on : o.count ≤ 0 → rest_at fold form s end p ≡ l
    unfolding rest_at unpacked
    nothing-on h = let z : o.count ≡ 0 = omega arith in
        sym (ap (joined p) (octets-here ∙ ap (λ (n : ℕ). map shown (unpacked o.word n) ++ images_at fold form s end) z)) ∙ inv

    shown-on : 0 < o.count → (u : Bool) → u ≡ is_space p → gap u (unpacked o.word o.count ++ rest_at fold form s end Before.Character) ≡ l
    unfolding rest_at
    shown-on h u e =
        let more = unpacked-more o.word o.count h in
        ap (λ (y : Bool). gap y (unpacked o.word o.count ++ joined Before.Character (images_at fold form s end))) e
        ∙ gap-spaced p (unpacked o.word o.count ++ joined Before.Character (images_at fold form s end))
        ∙ ap (λ (k : List ℕ). spaced p (k ++ joined Before.Character (images_at fold form s end))) more
        ∙ sym (joined-shown p (o.word % 256) (unpacked (o.word / 256) (o.count - 1)) (images_at fold form s end))
        ∙ sym (ap (joined p) (octets-here ∙ ap (λ (k : List ℕ). map shown k ++ images_at fold form s end) more)) ∙ inv

-- ---- next_image: what is left at a place is what was left at the first
pub record Seeking (fold : Bool) (form : Form) (s : List ℕ) (first : ℕ) (behind : Before) (at : ℕ) (p : Before) : Type 0 where
  pub left_there : rest_at fold form s at p ≡ rest_at fold form s first behind
  pub not_more : left form s at ≤ left form s first

module _ (fold : Bool) (form : Form) (s : List ℕ) (first : ℕ) (behind : Before) (at : ℕ) (p : Before) (inv : Seeking fold form s first behind at p) where
  pub seek_end : [] ≡ octets_of form (drop at s) → [] ≡ rest_at fold form s first behind
  unfolding rest_at images_at images joined
  seek_end none = ap (λ (y : List ℕ). joined p (images fold y)) none ∙ inv.left_there

  module _ (b after : ℕ) (there : b ∷ octets_of form (drop after s) ≡ octets_of form (drop at s)) (piece : Piece)
      (on : left form s piece.after ≤ left form s after) where
    pub seek_falls : left form s piece.after < left form s at
    seek_falls = omega (arith, on, ap length there)

    pub seek_further : left form s piece.after < left form s first
    seek_further = omega (arith, seek_falls, inv.not_more)

    module _ (told : report_piece fold form s piece ≡ images fold (b ∷ octets_of form (drop after s))) where
      marks-here : images_at fold form s at ≡ shape_marks piece.shape ++ images_at fold form s piece.after
      unfolding images_at
      marks-here = ap (images fold) (sym there) ∙ sym told

      pub seek_blank : (x : Before) → piece.shape ≡ Shape.Blank → x ≡ after_space p → Seeking fold form s first behind piece.after x
      seek_blank x q h = record {
        left_there = blank-on fold form s at piece.after p (rest_at fold form s first behind) inv.left_there piece.shape marks-here x q h;
        not_more = omega (arith, seek_further);
      }

      pub seek_nothing : (o : Octets) → piece.shape ≡ Shape.Shown o → o.count ≤ 0 → Seeking fold form s first behind piece.after p
      seek_nothing o q h = record {
        left_there = nothing-on fold form s at piece.after p (rest_at fold form s first behind) inv.left_there piece.shape marks-here o q h;
        not_more = omega (arith, seek_further);
      }

      pub seek_shown : (o : Octets) (u : Bool) → piece.shape ≡ Shape.Shown o → 0 < o.count → u ≡ is_space p
          → report_found fold form s (Some (record { space = u; octets = o; after = piece.after })) ≡ rest_at fold form s first behind
      seek_shown o u q h k = shown-on fold form s at piece.after p (rest_at fold form s first behind) inv.left_there
          piece.shape marks-here o q h u k
