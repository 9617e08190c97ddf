-- Octets that are as prepared, and a prepared string in memory: laws, and one lemma for each need of the code.
use mathlib.Core.Path.{◌≡◌, refl, sym, ap, subst, ◌∙◌}
use mathlib.Core.Bool.{Bool, true, false, not, false≢true}
use mathlib.Core.List.{List, [], ◌∷◌, ◌++◌, append_assoc, append-nil, map}
use Prim.Native.Nat.{ℕ, ◌≤◌, ◌<◌, ◌+◌, ◌-◌, ◌*◌, ◌/◌, ◌%◌}
use native.Mathlib.Omega.{arith}
use native.Mathlib.Numerals.{add-one}
use borrow.Author.Tests.{eq-eqb, ne_eqb, eqb-true, leb-true, le-ltb, ltb-true, ltb-false}
use lib.Dec.{ltb, leb, eqb}
use Rattle.std.specs.Prelude.{Option, None, Some}
use lib.ListN.{length, length-append, take, drop, set, length-set}
use lib.Seq.{take-suc-set}
use Rattle.octets.specs.Pick.{pick, both, no}
use Rattle.octets.specs.Octets.{octet, every}
use Rattle.octets.specs.Text.{within, is_upper, is_hex, hex_value, lower}
use Rattle.octets.specs.Quoted.{undoubled}
use Rattle.octets.proofs.Laws.{rest-cons, rest-none, both_true}
use Rattle.octets.proofs.TextLaws.{every-nil, every-cons}
use Rattle.octets.proofs.QuotedLaws.{no_quote, undoubled-plain}
use Rattle.strings.specs.Images.{Mark, blank, shown, image}
use Rattle.strings.specs.Prepared.{is_pair, pair_number, octet_image, images, after_space, spaced, joined, prepared}
use Rattle.strings.specs.Inner.Shapes.{unpacked, fold_octet, low_shape}
use Rattle.strings.specs.Inner.Comparing.{octets_of, folded, left, images_at, rest_at, gap, report_found, Further, is_loose, is_plain}
use Rattle.strings.specs.Inner.Escaped.{unescaped}
use Rattle.strings.specs.declared.Form.{Form}
use Rattle.strings.specs.declared.Before.{Before}
use Rattle.strings.specs.declared.Found.{Found}
use Rattle.strings.proofs.ImageLaws.{low-is, low-short, high-short, is_small, all_small, image-small}
use Rattle.strings.proofs.ImageSteps.{images-low, paired, single-marks, unpacked-more, unpacked-length}

-- ---- the images of plain octets
lower-small : (b : ℕ) → b ≤ 126 → lower b ≤ 255
unfolding lower
lower-small b h = go (is_upper b)
  where
    go : (u : Bool) → pick u (b + 32) b ≤ 255
    go true = omega arith
    go false = omega arith

fold_small : (fold : Bool) (b : ℕ) → b ≤ 126 → fold_octet fold b ≤ 255
fold_small true b h = lower-small b h
fold_small false b h = omega arith

pub image-letter : (fold : Bool) (b : ℕ) → 33 ≤ b → b ≤ 126 → image fold b ≡ shown (fold_octet fold b) ∷ []
unfolding low_shape
image-letter fold b h l =
    sym (low-is fold b (omega arith))
    ∙ rw (le-ltb b 32 (omega arith), ne_eqb b 32 (λ e. omega arith), ne_eqb b 127 (λ e. omega arith)) (single-marks (fold_octet fold b) (fold_small fold b l))

pub image-space : (fold : Bool) → image fold 32 ≡ blank ∷ []
unfolding low_shape
image-space fold = sym (low-is fold 32 (omega arith))

pub fold_space : (fold : Bool) → fold_octet fold 32 ≡ 32
unfolding lower is_upper
fold_space true = refl
fold_space false = refl

pub folded-cons : (fold : Bool) (b : ℕ) (s : List ℕ) → folded fold (b ∷ s) ≡ fold_octet fold b ∷ folded fold s
unfolding folded
folded-cons true b s = refl
folded-cons false b s = refl

pub folded-nil : (fold : Bool) → folded fold [] ≡ []
unfolding folded
folded-nil true = refl
folded-nil false = refl

-- ---- octets that are as prepared but for folding
abbrev at_space : Before → Bool
at_space Before.Nothing = true
at_space Before.Character = false
at_space Before.Space = true

-- an octet that is not loose: a space behind a character, or another
pub data Fast (space : Bool) (b : ℕ) : Type 0 where
  one : b ≡ 32 → space ≡ false → Fast space b
  letter : 33 ≤ b → b ≤ 126 → eqb b 32 ≡ false → eqb b 34 ≡ false → Fast space b

fast : (space : Bool) (b : ℕ) → is_loose space b ≡ false → Fast space b
fast space b e = go (eqb b 34) refl (eqb b 32) refl (within 33 126 b) refl e
  where
    go : (x : Bool) → eqb b 34 ≡ x → (y : Bool) → eqb b 32 ≡ y → (z : Bool) → within 33 126 b ≡ z → pick x true (pick y space (no z)) ≡ false → Fast space b
    go true p y q z r h = absurd (false≢true (sym h))
    go false p true q z r h = one (eqb-true b 32 q) h
    go false p false q true r h = let w = both_true (leb 33 b) (leb b 126) r in letter (leb-true 33 b w.0) (leb-true b 126 w.1) q p
    go false p false q false r h = absurd (false≢true (sym h))

firm : (u r : Bool) → pick u false r ≡ true → (u ≡ false) × (r ≡ true)
firm true r e = absurd (false≢true e)
firm false r e = (refl, e)

plain-joined : (fold : Bool) (p : Before) (s : List ℕ) → is_plain (at_space p) s ≡ true → joined p (images fold s) ≡ spaced p (folded fold s)
unfolding is_plain joined images
plain-joined fold Before.Nothing [] e = absurd (false≢true e)
plain-joined fold Before.Character [] e = sym (folded-nil fold)
plain-joined fold Before.Space [] e = absurd (false≢true e)
plain-joined fold p (b ∷ s) e =
    let w = firm (is_loose (at_space p) b) (is_plain (eqb b 32) s) e in
    go (fast (at_space p) b w.0) w.1 (plain-joined fold Before.Space s) (plain-joined fold Before.Character s)
  where
    behind-space : (p : Before) → at_space p ≡ false → b ≡ 32 → joined Before.Space (images fold s) ≡ 32 ∷ folded fold s
        → joined p (blank ∷ images fold s) ≡ spaced p (folded fold (b ∷ s))
    behind-space Before.Nothing h q f = absurd (false≢true (sym h))
    behind-space Before.Character h q f = f
        ∙ sym (folded-cons fold b s ∙ ap (λ (y : ℕ). fold_octet fold y ∷ folded fold s) q ∙ ap (λ (y : ℕ). y ∷ folded fold s) (fold_space fold))
    behind-space Before.Space h q f = absurd (false≢true (sym h))

    go : Fast (at_space p) b → is_plain (eqb b 32) s ≡ true → (is_plain true s ≡ true → joined Before.Space (images fold s) ≡ 32 ∷ folded fold s)
        → (is_plain false s ≡ true → joined Before.Character (images fold s) ≡ folded fold s) → joined p (images fold (b ∷ s)) ≡ spaced p (folded fold (b ∷ s))
    go (one q h) k f g =
        ap (joined p) (images-low fold b s (omega arith) ∙ ap (λ (l : List Mark). l ++ images fold s) (ap (image fold) q ∙ image-space fold))
        ∙ behind-space p h q (f (rw (eq-eqb b 32 q) at k))
    go (letter h l n o) k f g =
        ap (joined p) (images-low fold b s (omega arith) ∙ ap (λ (m : List Mark). m ++ images fold s) (image-letter fold b h l))
        ∙ ap (λ (y : List ℕ). spaced p (fold_octet fold b ∷ y)) (g (rw n at k)) ∙ ap (spaced p) (sym (folded-cons fold b s))

plain_quotes : (space : Bool) (s : List ℕ) → is_plain space s ≡ true → every no_quote s ≡ true
unfolding is_plain
plain_quotes space [] e = every-nil no_quote
plain_quotes space (b ∷ s) e =
    let w = firm (is_loose space b) (is_plain (eqb b 32) s) e in
    every-cons no_quote b s ∙ rw (no_quote_lem (fast space b w.0), plain_quotes (eqb b 32) s w.1)
  where
    no_quote_lem : Fast space b → eqb b 34 ≡ false
    no_quote_lem (one q h) = ne_eqb b 34 (λ z. omega arith)
    no_quote_lem (letter h l n o) = o

pub plain_folds : (fold : Bool) (s : List ℕ) → is_plain true s ≡ true → folded fold s ≡ prepared fold s
unfolding prepared
plain_folds fold s e = sym (plain-joined fold Before.Nothing s e)

-- what stands between quotes, where it is plain, has no doubled quote
pub plain-same : (s : List ℕ) → is_plain true s ≡ true → undoubled s ≡ s
plain-same s e = undoubled-plain s (plain_quotes true s e)

-- and where it isn't, isn't plain with one quote for two
pub not_plain : (space : Bool) (s : List ℕ) → is_plain space s ≡ false → is_plain space (undoubled s) ≡ false
unfolding is_plain undoubled
not_plain space [] e = e
not_plain space (b ∷ []) e = e
not_plain space (b ∷ c ∷ s) e = go (both (eqb b 34) (eqb c 34)) (not_plain (eqb b 32) (c ∷ s))
  where
    go : (u : Bool) → (is_plain (eqb b 32) (c ∷ s) ≡ false → is_plain (eqb b 32) (undoubled (c ∷ s)) ≡ false)
        → is_plain space (pick u (34 ∷ undoubled s) (b ∷ undoubled (c ∷ s))) ≡ false
    go true f = refl
    go false f = behind (is_loose space b) e
      where
        behind : (v : Bool) → pick v false (is_plain (eqb b 32) (c ∷ s)) ≡ false → pick v false (is_plain (eqb b 32) (undoubled (c ∷ s))) ≡ false
        behind true h = refl
        behind false h = f h

-- ---- is_plain
module _ (s : List ℕ) (space : Bool) (i : ℕ) (m : Bool) (inv : is_plain space (drop i s) ≡ m) where
  pub plain_end : length s ≤ i → not space ≡ m
  unfolding is_plain
  plain_end h = go space ∙ sym (ap (is_plain space) (rest-none s i h)) ∙ inv
    where
      go : (u : Bool) → not u ≡ no u
      go true = refl
      go false = refl

  module _ (h : i < length s) (r : Bool) (told : r ≡ is_loose space (octet s i)) where
    here : pick r false (is_plain (eqb (octet s i) 32) (drop (i + 1) s)) ≡ m
    unfolding is_plain
    here = ap (λ (y : Bool). pick y false (is_plain (eqb (octet s i) 32) (drop (i + 1) s))) told ∙ sym (ap (is_plain space) (rest-cons s i h)) ∙ inv

    pub plain_loose : r ≡ true → false ≡ m
    plain_loose e = rw e at here

    pub plain-on : r ≡ false → is_plain (eqb (octet s i) 32) (drop (i + 1) s) ≡ m
    plain-on e = rw e at here

-- ---- a prepared string folds to itself
lower-same : (b : ℕ) → is_upper b ≡ false → lower b ≡ b
unfolding lower
lower-same b e = rw e

small-append : (a b : List Mark) → all_small a ≡ true → all_small b ≡ true → all_small (a ++ b) ≡ true
unfolding all_small
small-append [] b e f = f
small-append (m ∷ a) b e f = let w = both_true (is_small m) (all_small a) e in rw (w.0, small-append a b w.1 f)

high_small : (a : ℕ) → 128 ≤ a → is_upper a ≡ false
unfolding is_upper
high_small a h = let n : 90 < a = omega arith in go (leb 65 a) (leb a 90) refl
  where
    go : (x y : Bool) → leb a 90 ≡ y → both x y ≡ false
    go x true q = absurd (let z = leb-true a 90 q in omega arith)
    go true false q = refl
    go false false q = refl

-- what an octet and those after it show
octet-small : (a : ℕ) → all_small (octet_image true a) ≡ true
unfolding all_small
octet-small a = go (ltb a 0x80) refl
  where
    go : (u : Bool) → ltb a 0x80 ≡ u → all_small (pick u (image true a) (shown a ∷ [])) ≡ true
    go true q = let l = ltb-true a 0x80 q in image-small a (omega arith)
    go false q = rw (high_small a (ltb-false a 0x80 q))

images-small : (s : List ℕ) → all_small (images true s) ≡ true
unfolding all_small images
images-small [] = refl
images-small (a ∷ []) = octet-small a
images-small (a ∷ b ∷ s) = go (is_pair a b) refl (images-small s) (images-small (b ∷ s))
  where
    go : (u : Bool) → is_pair a b ≡ u → all_small (images true s) ≡ true → all_small (images true (b ∷ s)) ≡ true
        → all_small (pick u (image true (pair_number a b) ++ images true s) (octet_image true a ++ images true (b ∷ s))) ≡ true
    go true q x y =
        let w = paired a b q in
        let w1 = w.first-most in
        let w3 = w.second-most in
        small-append (image true (pair_number a b)) (images true s) (image-small (pair_number a b) (omega arith)) x
    go false q x y = small-append (octet_image true a) (images true (b ∷ s)) (octet-small a) y

lower-joined : (p : Before) (ms : List Mark) → all_small ms ≡ true → map lower (joined p ms) ≡ joined p ms
unfolding all_small joined lower is_upper
lower-joined p [] e = refl
lower-joined p (blank ∷ ms) e = lower-joined (after_space p) ms e
lower-joined p (shown b ∷ ms) e =
    let w = both_true (no (is_upper b)) (all_small ms) e in
    go p (ap₂_cons (lower-same b (not_upper (is_upper b) w.0)) (lower-joined Before.Character ms w.1))
  where
    not_upper : (u : Bool) → no u ≡ true → u ≡ false
    not_upper true h = absurd (false≢true h)
    not_upper false h = refl

    ap₂_cons : lower b ≡ b → map lower (joined Before.Character ms) ≡ joined Before.Character ms
        → map lower (b ∷ joined Before.Character ms) ≡ b ∷ joined Before.Character ms
    ap₂_cons x y = ap (λ (k : ℕ). k ∷ map lower (joined Before.Character ms)) x ∙ ap (λ (l : List ℕ). b ∷ l) y

    go : (p : Before) → map lower (b ∷ joined Before.Character ms) ≡ b ∷ joined Before.Character ms
        → map lower (spaced p (b ∷ joined Before.Character ms)) ≡ spaced p (b ∷ joined Before.Character ms)
    go Before.Nothing x = x
    go Before.Character x = x
    go Before.Space x = ap (λ (l : List ℕ). 32 ∷ l) x

pub folded-prepared : (fold : Bool) (s : List ℕ) → folded fold (prepared fold s) ≡ prepared fold s
unfolding folded prepared
folded-prepared true s = lower-joined Before.Nothing (images true s) (images-small s)
folded-prepared false s = refl

-- ---- at most five octets for two
joined_length : (p : Before) (ms : List Mark) → length (joined p ms) ≤ length (spaced p []) + length ms
unfolding joined
joined_length p [] = omega arith
joined_length p (blank ∷ ms) = go p (joined_length Before.Nothing ms) (joined_length Before.Space ms)
  where
    go : (p : Before) → length (joined Before.Nothing ms) ≤ 0 + length ms → length (joined Before.Space ms) ≤ 1 + length ms
        → length (joined (after_space p) ms) ≤ length (spaced p []) + length (blank ∷ ms)
    go Before.Nothing x y = omega arith
    go Before.Character x y = omega arith
    go Before.Space x y = omega arith
joined_length p (shown b ∷ ms) = go p (joined_length Before.Character ms)
  where
    go : (p : Before) → length (joined Before.Character ms) ≤ 0 + length ms
        → length (spaced p (b ∷ joined Before.Character ms)) ≤ length (spaced p []) + length (shown b ∷ ms)
    go Before.Nothing x = omega arith
    go Before.Character x = omega arith
    go Before.Space x = omega arith

octet-short : (fold : Bool) (a : ℕ) → length (octet_image fold a) ≤ 1
octet-short fold a = go (ltb a 0x80) refl
  where
    go : (u : Bool) → ltb a 0x80 ≡ u → length (pick u (image fold a) (shown a ∷ [])) ≤ 1
    go true q = low-short fold a (ltb-true a 0x80 q)
    go false q = omega arith

images-length : (fold : Bool) (s : List ℕ) → 2 * length (images fold s) ≤ 5 * length s
unfolding images
images-length fold [] = omega arith
images-length fold (a ∷ []) = omega (arith, octet-short fold a)
images-length fold (a ∷ b ∷ s) = go (is_pair a b) refl (images-length fold s) (images-length fold (b ∷ s))
  where
    go : (u : Bool) → is_pair a b ≡ u → 2 * length (images fold s) ≤ 5 * length s → 2 * length (images fold (b ∷ s)) ≤ 5 * length (b ∷ s)
        → 2 * length (pick u (image fold (pair_number a b) ++ images fold s) (octet_image fold a ++ images fold (b ∷ s))) ≤ 5 * length (a ∷ b ∷ s)
    go true q x y =
        let w = paired a b q in
        let w0 = w.first-least in
        let w1 = w.first-most in
        let w2 = w.second-least in
        let w3 = w.second-most in
        let h = high-short fold (pair_number a b) (omega arith) (omega arith) in
        omega (arith, h, length-append (image fold (pair_number a b)) (images fold s))
    go false q x y = omega (arith, octet-short fold a, length-append (octet_image fold a) (images fold (b ∷ s)))

undoubled-length : (s : List ℕ) → length (undoubled s) ≤ length s
unfolding undoubled
undoubled-length [] = omega arith
undoubled-length (b ∷ []) = omega arith
undoubled-length (b ∷ c ∷ s) = go (both (eqb b 34) (eqb c 34)) (undoubled-length s) (undoubled-length (c ∷ s))
  where
    go : (u : Bool) → length (undoubled s) ≤ length s → length (undoubled (c ∷ s)) ≤ length (c ∷ s)
        → length (pick u (34 ∷ undoubled s) (b ∷ undoubled (c ∷ s))) ≤ length (b ∷ c ∷ s)
    go true x y = omega arith
    go false x y = omega arith

unescaped-length : (s : List ℕ) → length (unescaped s) ≤ length s
unfolding unescaped
unescaped-length [] = omega arith
unescaped-length (b ∷ []) = omega arith
unescaped-length (b ∷ c ∷ []) = go (no (eqb b 92))
  where
    go : (u : Bool) → length (pick u (b ∷ c ∷ []) (c ∷ [])) ≤ 2
    go true = omega arith
    go false = omega arith
unescaped-length (b ∷ c ∷ d ∷ s) =
    go (no (eqb b 92)) (both (eqb c 34) (eqb d 34)) (both (is_hex c) (is_hex d)) (unescaped-length (c ∷ d ∷ s)) (unescaped-length (d ∷ s)) (unescaped-length s)
  where
    go : (u v w : Bool) → length (unescaped (c ∷ d ∷ s)) ≤ length (c ∷ d ∷ s) → length (unescaped (d ∷ s)) ≤ length (d ∷ s) → length (unescaped s) ≤ length s
        → length (pick u (b ∷ unescaped (c ∷ d ∷ s)) (pick v (34 ∷ unescaped s)
        (pick w ((hex_value c * 16 + hex_value d) ∷ unescaped s) (c ∷ unescaped (d ∷ s))))) ≤ length (b ∷ c ∷ d ∷ s)
    go true v w x y z = omega arith
    go false true w x y z = omega arith
    go false false true x y z = omega arith
    go false false false x y z = omega arith

-- a string as prepared is at most two and a half times as long
prepared-length : (fold : Bool) (form : Form) (p : List ℕ) → 2 * length (prepared fold (octets_of form p)) ≤ 5 * length p
unfolding prepared
prepared-length fold form p = omega (arith, short form, images-length fold (octets_of form p), joined_length Before.Nothing (images fold (octets_of form p)))
  where
    short : (f : Form) → length (octets_of f p) ≤ length p
    short Form.Stored = omega arith
    short Form.Quoted = undoubled-length p
    short Form.Escaped = unescaped-length p

-- ---- put_octets
-- of the `count` octets of a number, written from a place n on, those from a place `at` on are left to be written
pub record Putting (word count n : ℕ) (m₀ : List ℕ) (w at : ℕ) (m : List ℕ) : Type 0 where
  pub long : length m ≡ 5120
  pub start : take at m ++ unpacked w (n + count - at) ≡ take n m₀ ++ unpacked word count

module _ (word count n : ℕ) (m₀ : List ℕ) (w at : ℕ) (m : List ℕ) (v : Putting word count n m₀ w at m) where
  pub put-end : at ≡ n + count → take (n + count) m ≡ take n m₀ ++ unpacked word count
  unfolding unpacked
  put-end e =
      let z : n + count - at ≡ 0 = omega arith in
      ap (λ (y : ℕ). take y m) (sym e) ∙ sym (append-nil (take at m)) ∙ ap (λ (y : ℕ). take at m ++ unpacked w y) (sym z) ∙ v.start

  pub put-more : at < n + count → n + count ≤ 5120 → Putting word count n m₀ (w / 256) (at + 1) (set m at (w % 256))
  put-more h room = record {
    long = length-set m at (w % 256) ∙ v.long;
    start =
        let e : n + count - (at + 1) ≡ n + count - at - 1 = omega arith in
        rw (
          e,
          add-one at,
          take-suc-set m at (w % 256) (omega (arith, v.long)),
          append_assoc (take at m) (w % 256 ∷ []) (unpacked (w / 256) (n + count - at - 1)),
        )
        (ap (λ (l : List ℕ). take at m ++ l) (sym (unpacked-more w (n + count - at) (omega arith))) ∙ v.start);
  }

-- ---- prepare_behind: behind what stood in the memory m₀ up to `from`, octets of the prepared string stand up to n, the rest is to come from a place on
pub record Preparing (fold : Bool) (form : Form) (p : List ℕ) (from : ℕ) (m₀ : List ℕ) (at : ℕ) (b : Before) (n : ℕ) (m : List ℕ) : Type 0 where
  pub long : length m ≡ 5120
  pub count : n + length (rest_at fold form p at b) ≡ from + length (prepared fold (octets_of form p))
  pub start : take n m ++ rest_at fold form p at b ≡ take from m₀ ++ prepared fold (octets_of form p)

begins : (fold : Bool) (form : Form) (p : List ℕ) → rest_at fold form p 0 Before.Nothing ≡ prepared fold (octets_of form p)
unfolding rest_at images_at prepared
begins fold form p = refl

pub prepare_start : (fold : Bool) (form : Form) (p : List ℕ) (from : ℕ) (m : List ℕ) → length m ≡ 5120 → Preparing fold form p from m 0 Before.Nothing from m
prepare_start fold form p from m e = record {
  long = e;
  count = ap (λ (l : List ℕ). from + length l) (begins fold form p);
  start = ap (λ (l : List ℕ). take from m ++ l) (begins fold form p);
}

gap-append : (u : Bool) (l : List ℕ) → gap u [] ++ l ≡ gap u l
gap-append true l = refl
gap-append false l = refl

module _ (fold : Bool) (form : Form) (p : List ℕ) (from : ℕ) (m₀ : List ℕ) (at : ℕ) (b : Before) (n : ℕ) (m : List ℕ)
    (v : Preparing fold form p from m₀ at b n m) where
  pub prepare_long : length m ≡ 5120
  prepare_long = v.long

  module _ (r : Option Found) (told : report_found fold form p r ≡ rest_at fold form p at b) where
    none_left : r ≡ None → rest_at fold form p at b ≡ []
    none_left e = sym told ∙ ap (report_found fold form p) e

    pub prepare_end : r ≡ None → take n m ≡ take from m₀ ++ prepared fold (octets_of form p)
    prepare_end e = sym (append-nil (take n m)) ∙ ap (λ (l : List ℕ). take n m ++ l) (sym (none_left e)) ∙ v.start

    pub prepare_place : r ≡ None → n ≡ from + length (prepared fold (octets_of form p))
    prepare_place e = omega (arith, v.count, ap length (none_left e))

    pub prepare_most : r ≡ None → 2 * n ≤ 2 * from + 5 * length p
    prepare_most e = omega (arith, prepare_place e, prepared-length fold form p)

    module _ (f : Found) (e : r ≡ Some f) where
      abbrev image_octets : List ℕ
      image_octets = unpacked f.octets.word f.octets.count

      abbrev rest_after : List ℕ
      rest_after = rest_at fold form p f.after Before.Character

      next_is : rest_at fold form p at b ≡ gap f.space [] ++ (image_octets ++ rest_after)
      next_is = sym told ∙ ap (report_found fold form p) e ∙ sym (gap-append f.space (image_octets ++ rest_after))

      long-is : length (rest_at fold form p at b) ≡ length (gap f.space []) + (f.octets.count + length rest_after)
      long-is =
          ap length next_is ∙ length-append (gap f.space []) (image_octets ++ rest_after)
          ∙ ap (λ (y : ℕ). length (gap f.space []) + y) (length-append image_octets rest_after
          ∙ ap (λ (y : ℕ). y + length rest_after) (unpacked-length f.octets.word f.octets.count))

      module _ (short : 2 * from + 5 * length p ≤ 10240) where
        pub prepare_space : n + length (gap f.space []) ≤ 5120
        prepare_space = omega (arith, long-is, v.count, prepared-length fold form p)

        pub prepare_octets : (start : ℕ) → start ≡ n + length (gap f.space []) → start + f.octets.count ≤ 5120
        prepare_octets start place = omega (arith, long-is, v.count, prepared-length fold form p)

      pub prepare_more : (start : ℕ) (m₁ m₂ : List ℕ) (end : ℕ) → start ≡ n + length (gap f.space []) → take start m₁ ≡ take n m ++ gap f.space []
          → take end m₂ ≡ take start m₁ ++ image_octets → end ≡ start + f.octets.count → length m₂ ≡ 5120
          → Preparing fold form p from m₀ f.after Before.Character end m₂
      prepare_more start m₁ m₂ end place x g q l = record {
        long = l;
        count = omega (arith, long-is, v.count);
        start = ap (λ (y : List ℕ). y ++ rest_after) (g ∙ ap (λ (y : List ℕ). y ++ image_octets) x)
            ∙ append_assoc (take n m ++ gap f.space []) image_octets rest_after
            ∙ append_assoc (take n m) (gap f.space []) (image_octets ++ rest_after)
            ∙ ap (λ (y : List ℕ). take n m ++ y) (sym next_is) ∙ v.start;
      }

pub prepare_falls : (form : Form) (p : List ℕ) (at : ℕ) (r : Option Found) (f : Found) → r ≡ Some f → Further form p at r → left form p f.after < left form p at
prepare_falls form p at r f e h = subst (Further form p at) e h
