-- A prepared string prepared again: it is the same exactly where no space stands first, last or behind another; and so it is where NFKC put no space.
use Rattle.std.specs.Prelude.{Option, Some, None}
use mathlib.Core.Path.{◌≡◌, refl, sym, ap, ap₂, ◌∙◌, subst}
use mathlib.Core.Bool.{Bool, true, false, false≢true}
use mathlib.Core.List.{List, [], ◌∷◌, ◌++◌, append_assoc, append-nil, map}
use Prim.Native.Nat.{ℕ, ◌≤◌, ◌<◌, ◌-◌}
use native.Mathlib.Omega.{arith}
use borrow.Author.Tests.{ne_eqb, eqb-true, ltb-true, ltb-false, le-ltb, lt-ltb, leb-true}
use lib.Dec.{ltb, leb, eqb}
use Rattle.octets.specs.Pick.{pick, both, no, all}
use Rattle.octets.specs.Text.{within, is_upper, lower}
use Rattle.octets.specs.Utf8.{awaits, after_first, after, utf8_from, utf8}
use Rattle.octets.proofs.Laws.{all-at, both_true}
use Rattle.strings.specs.Images.{Mark, blank, shown, table, image_in, encoded, all_encoded, marks, image}
use Rattle.strings.specs.Prepared.{is_pair, pair_number, images, after_space, spaced, joined, prepared}
use Rattle.strings.specs.Twice.{even_space, is_even, none_kept}
use Rattle.strings.specs.Inner.Shapes.{unpacked, shape_marks, low_shape, mark_shape, sign_shape, middle_shape, exact_shape, is_capital, extended_shape}
use Rattle.strings.specs.Inner.Shapes.{latin_shape, folded_shape, high_shape, shape_of}
use Rattle.strings.specs.declared.Before.{Before}
use Rattle.strings.specs.declared.Shape.{Shape}
use Rattle.strings.proofs.ImageLaws.{same_mark, same_marks, same-marks, shape_is}
use Rattle.strings.proofs.ImageSteps.{images-low, images-alone, images-single, images-pair, paired}
use Rattle.strings.proofs.Preparing.{image-space}

-- each octet C2 to C5 has the octet 80 to BF behind it that makes a character of the two, as in valid UTF-8
unfoldable pub is_whole : List ℕ → Bool
is_whole [] = true
is_whole (a ∷ []) = no (within 0xC2 0xC5 a)
is_whole (a ∷ b ∷ s) =
    let pair = is_whole s in
    let single = is_whole (b ∷ s) in
    pick (is_pair a b) pair (both (no (within 0xC2 0xC5 a)) single)

-- the mark of an octet that is its own image
abbrev mark : ℕ → Mark
mark b = pick (eqb b 0x20) blank (shown b)

map-append : (x z : List ℕ) → map mark (x ++ z) ≡ map mark x ++ map mark z
map-append [] z = refl
map-append (b ∷ x) z = ap (λ (l : List Mark). mark b ∷ l) (map-append x z)

-- ---- octets that show themselves, whatever stands behind them
abbrev Closed : Bool → List ℕ → Type 0
Closed fold x = (y : List ℕ) → images fold (x ++ y) ≡ map mark x ++ images fold y

closed-append : (fold : Bool) (x z : List ℕ) → Closed fold x → Closed fold z → Closed fold (x ++ z)
closed-append fold x z f g y =
    ap (images fold) (append_assoc x z y) ∙ f (z ++ y) ∙ ap (λ (l : List Mark). map mark x ++ l) (g y)
    ∙ sym (append_assoc (map mark x) (map mark z) (images fold y)) ∙ ap (λ (l : List Mark). l ++ images fold y) (sym (map-append x z))

closed-space : (fold : Bool) → Closed fold (0x20 ∷ [])
closed-space fold y = images-low fold 0x20 y (omega arith) ∙ ap (λ (l : List Mark). l ++ images fold y) (image-space fold)

abbrev own_single : Bool → ℕ → Bool
own_single fold a = pick (ltb a 0x80) (same_marks (image fold a) (mark a ∷ [])) (no (within 0xC2 0xC5 a))

unfoldable own : Bool → List ℕ → Bool
own fold [] = true
own fold (a ∷ []) = own_single fold a
own fold (a ∷ b ∷ s) =
    let pair = own fold s in
    let single = own fold (b ∷ s) in
    pick (is_pair a b) (both (same_marks (image fold (pair_number a b)) (shown a ∷ shown b ∷ [])) pair) (both (own_single fold a) single)

not_lead : (a b : ℕ) → no (within 0xC2 0xC5 a) ≡ true → is_pair a b ≡ false
not_lead a b = go (within 0xC2 0xC5 a)
  where
    go : (u : Bool) → no u ≡ true → both u (within 0x80 0xBF b) ≡ false
    go true e = absurd (false≢true e)
    go false e = refl

images-high : (fold : Bool) (a : ℕ) → 0x80 ≤ a → no (within 0xC2 0xC5 a) ≡ true → (y : List ℕ) → images fold (a ∷ y) ≡ shown a ∷ images fold y
unfolding images
images-high fold a h n [] = images-alone fold a h
images-high fold a h n (b ∷ y) = images-single fold a b y h (not_lead a b n)

closed-single : (fold : Bool) (a : ℕ) → own_single fold a ≡ true → Closed fold (a ∷ [])
closed-single fold a e y = go (ltb a 0x80) refl e y
  where
    go : (u : Bool) → ltb a 0x80 ≡ u → pick u (same_marks (image fold a) (mark a ∷ [])) (no (within 0xC2 0xC5 a)) ≡ true → (y : List ℕ)
        → images fold (a ∷ y) ≡ mark a ∷ images fold y
    go true q h y = images-low fold a y (ltb-true a 0x80 q) ∙ ap (λ (l : List Mark). l ++ images fold y) (same-marks (image fold a) (mark a ∷ []) h)
    go false q h y =
        let l = ltb-false a 0x80 q in
        images-high fold a l h y ∙ ap (λ (u : Bool). pick u blank (shown a) ∷ images fold y) (sym (ne_eqb a 0x20 (λ z. omega arith)))

closed-own : (fold : Bool) (x : List ℕ) → own fold x ≡ true → Closed fold x
unfolding own
closed-own fold [] e y = refl
closed-own fold (a ∷ []) e y = closed-single fold a e y
closed-own fold (a ∷ b ∷ s) e y = go (is_pair a b) refl e (closed-own fold s) (closed-own fold (b ∷ s))
  where
    wide : 0x80 ≤ a → mark a ≡ shown a
    wide h = rw (ne_eqb a 0x20 (λ z. omega arith))

    other : 0x80 ≤ b → mark b ≡ shown b
    other h = rw (ne_eqb b 0x20 (λ z. omega arith))

    go : (u : Bool) → is_pair a b ≡ u
        → pick u (both (same_marks (image fold (pair_number a b)) (shown a ∷ shown b ∷ [])) (own fold s)) (both (own_single fold a) (own fold (b ∷ s))) ≡ true
        → (own fold s ≡ true → Closed fold s) → (own fold (b ∷ s) ≡ true → Closed fold (b ∷ s))
        → images fold (a ∷ b ∷ (s ++ y)) ≡ mark a ∷ mark b ∷ (map mark s ++ images fold y)
    go true q h f g =
        let w = paired a b q in
        let wa = w.first-least in
        let wb = w.second-least in
        let k = both_true (same_marks (image fold (pair_number a b)) (shown a ∷ shown b ∷ [])) (own fold s) h in
        images-pair fold a b (s ++ y) q
        ∙ ap (λ (l : List Mark). l ++ images fold (s ++ y)) (same-marks (image fold (pair_number a b)) (shown a ∷ shown b ∷ []) k.0)
        ∙ ap (λ (l : List Mark). shown a ∷ shown b ∷ l) (f k.1 y)
        ∙ ap₂ (λ (m n : Mark). m ∷ n ∷ (map mark s ++ images fold y)) (sym (wide (omega arith))) (sym (other (omega arith)))
    go false q h f g =
        let k = both_true (own_single fold a) (own fold (b ∷ s)) h in
        closed-single fold a k.0 (b ∷ (s ++ y)) ∙ ap (λ (l : List Mark). mark a ∷ l) (g k.1 y)

-- ---- what the characters up to U+017F turn into
abbrev own_shape : Bool → Shape → Bool
own_shape fold Shape.Blank = true
own_shape fold (Shape.Shown o) = own fold (unpacked o.word o.count)

abbrev own_image : Bool → ℕ → Bool
own_image fold c = own_shape fold (shape_of fold c)

all_own : (fold : Bool) → all (own_image fold) 0x0180 ≡ true
unfolding all own same_mark same_marks unpacked is_upper lower low_shape mark_shape sign_shape middle_shape exact_shape is_capital extended_shape latin_shape folded_shape
    high_shape shape_of table image_in encoded all_encoded marks image
all_own true = refl
all_own false = refl

-- ---- the prepared string
module _ (fold : Bool) (ms : List Mark) (f : (p : Before) → Closed fold (joined p ms)) where
  shown-joined : (x : List ℕ) → joined Before.Character (map shown x ++ ms) ≡ x ++ joined Before.Character ms
  unfolding joined
  shown-joined [] = refl
  shown-joined (b ∷ x) = ap (λ (l : List ℕ). b ∷ l) (shown-joined x)

  closed-octets : (x : List ℕ) → own fold x ≡ true → (p : Before) → Closed fold (joined p (map shown x ++ ms))
  unfolding joined
  closed-octets [] e p = f p
  closed-octets (b ∷ x) e p = go p
    where
      behind : Closed fold (b ∷ joined Before.Character (map shown x ++ ms))
      behind = subst (λ (l : List ℕ). Closed fold (b ∷ l)) (sym (shown-joined x))
          (closed-append fold (b ∷ x) (joined Before.Character ms) (closed-own fold (b ∷ x) e) (f Before.Character))

      go : (p : Before) → Closed fold (spaced p (b ∷ joined Before.Character (map shown x ++ ms)))
      go Before.Nothing = behind
      go Before.Character = behind
      go Before.Space = closed-append fold (0x20 ∷ []) (b ∷ joined Before.Character (map shown x ++ ms)) (closed-space fold) behind

  closed-shape : (sh : Shape) → own_shape fold sh ≡ true → (p : Before) → Closed fold (joined p (shape_marks sh ++ ms))
  unfolding joined
  closed-shape Shape.Blank e p = f (after_space p)
  closed-shape (Shape.Shown o) e p = closed-octets (unpacked o.word o.count) e p

  closed-image : (c : ℕ) → c < 0x0180 → (p : Before) → Closed fold (joined p (image fold c ++ ms))
  closed-image c h p =
      subst (λ (l : List Mark). Closed fold (joined p (l ++ ms))) (shape_is fold c h)
      (closed-shape (shape_of fold c) (all-at (own_image fold) 0x0180 c (all_own fold) h) p)

high-own : (fold : Bool) (a : ℕ) → 0x80 ≤ a → no (within 0xC2 0xC5 a) ≡ true → own fold (a ∷ []) ≡ true
unfolding own
high-own fold a h n = rw (le-ltb a 0x80 h) n

closed-octet : (fold : Bool) (a : ℕ) (s : List ℕ) → no (within 0xC2 0xC5 a) ≡ true → ((p : Before) → Closed fold (joined p (images fold s)))
    → (p : Before) → Closed fold (joined p (images fold (a ∷ s)))
closed-octet fold a s n f p = go (ltb a 0x80) refl
  where
    go : (u : Bool) → ltb a 0x80 ≡ u → Closed fold (joined p (images fold (a ∷ s)))
    go true q =
        let h = ltb-true a 0x80 q in
        subst (λ (l : List Mark). Closed fold (joined p l)) (sym (images-low fold a s h)) (closed-image fold (images fold s) f a (omega arith) p)
    go false q =
        let h = ltb-false a 0x80 q in
        subst (λ (l : List Mark). Closed fold (joined p l)) (sym (images-high fold a h n s))
        (closed-octets fold (images fold s) f (a ∷ []) (high-own fold a h n) p)

closed-nil : (fold : Bool) (p : Before) → Closed fold (joined p (images fold []))
unfolding joined images
closed-nil fold p y = refl

closed-prepared : (fold : Bool) (s : List ℕ) → is_whole s ≡ true → (p : Before) → Closed fold (joined p (images fold s))
unfolding is_whole
closed-prepared fold [] e p = closed-nil fold p
closed-prepared fold (a ∷ []) e p = closed-octet fold a [] e (closed-nil fold) p
closed-prepared fold (a ∷ b ∷ s) e p = go (is_pair a b) refl e (closed-prepared fold s) (closed-prepared fold (b ∷ s))
  where
    go : (u : Bool) → is_pair a b ≡ u → pick u (is_whole s) (both (no (within 0xC2 0xC5 a)) (is_whole (b ∷ s))) ≡ true
        → (is_whole s ≡ true → (p : Before) → Closed fold (joined p (images fold s)))
        → (is_whole (b ∷ s) ≡ true → (p : Before) → Closed fold (joined p (images fold (b ∷ s))))
        → Closed fold (joined p (images fold (a ∷ b ∷ s)))
    go true q h f g =
        let w = paired a b q in
        let w0 = w.first-least in
        let w1 = w.first-most in
        let w2 = w.second-least in
        let w3 = w.second-most in
        subst (λ (l : List Mark). Closed fold (joined p l)) (sym (images-pair fold a b s q))
        (closed-image fold (images fold s) (f h) (pair_number a b) (omega arith) p)
    go false q h f g = let k = both_true (no (within 0xC2 0xC5 a)) (is_whole (b ∷ s)) h in closed-octet fold a (b ∷ s) k.0 (g k.1) p

again : (fold : Bool) (s : List ℕ) → is_whole s ≡ true → prepared fold (prepared fold s) ≡ joined Before.Nothing (map mark (prepared fold s))
unfolding prepared images
again fold s e =
    ap (joined Before.Nothing)
    (ap (images fold) (sym (append-nil (joined Before.Nothing (images fold s)))) ∙ closed-prepared fold s e Before.Nothing []
    ∙ append-nil (map mark (joined Before.Nothing (images fold s))))

-- ---- spaces
joined_even : (p : Before) (x : List ℕ) → is_even p x ≡ true → joined p (map mark x) ≡ spaced p x
unfolding is_even joined
joined_even Before.Nothing [] e = refl
joined_even Before.Character [] e = refl
joined_even Before.Space [] e = absurd (false≢true e)
joined_even p (b ∷ x) e = go p (eqb b 0x20) refl e (joined_even Before.Space x) (joined_even Before.Character x)
  where
    go : (p : Before) (u : Bool) → eqb b 0x20 ≡ u → pick u (even_space p (is_even Before.Space x)) (is_even Before.Character x) ≡ true
        → (is_even Before.Space x ≡ true → joined Before.Space (map mark x) ≡ 0x20 ∷ x)
        → (is_even Before.Character x ≡ true → joined Before.Character (map mark x) ≡ x)
        → joined p (pick u blank (shown b) ∷ map mark x) ≡ spaced p (b ∷ x)
    go Before.Nothing true q h f g = absurd (false≢true h)
    go Before.Character true q h f g = f h ∙ ap (λ (y : ℕ). y ∷ x) (sym (eqb-true b 0x20 q))
    go Before.Space true q h f g = absurd (false≢true h)
    go p false q h f g = ap (λ (y : List ℕ). spaced p (b ∷ y)) (g h)

abbrev start : Before → Before
start Before.Nothing = Before.Nothing
start Before.Character = Before.Character
start Before.Space = Before.Character

even_joined : (p : Before) (ms : List Mark) → none_kept ms ≡ true → is_even (start p) (joined p ms) ≡ true
unfolding is_even joined none_kept
even_joined Before.Nothing [] e = refl
even_joined Before.Character [] e = refl
even_joined Before.Space [] e = refl
even_joined Before.Nothing (blank ∷ ms) e = even_joined Before.Nothing ms e
even_joined Before.Character (blank ∷ ms) e = even_joined Before.Space ms e
even_joined Before.Space (blank ∷ ms) e = even_joined Before.Space ms e
even_joined p (shown b ∷ ms) e =
    let w = both_true (no (eqb b 0x20)) (none_kept ms) e in
    go p (eqb b 0x20) refl w.0 (even_joined Before.Character ms w.1)
  where
    go : (p : Before) (u : Bool) → eqb b 0x20 ≡ u → no u ≡ true → is_even Before.Character (joined Before.Character ms) ≡ true
        → is_even (start p) (spaced p (b ∷ joined Before.Character ms)) ≡ true
    go p true q h f = absurd (false≢true h)
    go Before.Nothing false q h f = rw q f
    go Before.Character false q h f = rw q f
    go Before.Space false q h f = rw q f

marks-none : (x : List ℕ) → none_kept (map mark x) ≡ true
unfolding none_kept
marks-none [] = refl
marks-none (b ∷ x) = go (eqb b 0x20) refl (marks-none x)
  where
    go : (u : Bool) → eqb b 0x20 ≡ u → none_kept (map mark x) ≡ true → none_kept (pick u blank (shown b) ∷ map mark x) ≡ true
    go true q f = f
    go false q f = rw (q, f)

-- ---- what holds
module _ (fold : Bool) (s : List ℕ) (whole : is_whole s ≡ true) where
  pub prepared_twice : is_even Before.Nothing (prepared fold s) ≡ true → prepared fold (prepared fold s) ≡ prepared fold s
  prepared_twice e = again fold s whole ∙ joined_even Before.Nothing (prepared fold s) e

  pub prepared-same : prepared fold (prepared fold s) ≡ prepared fold s → is_even Before.Nothing (prepared fold s) ≡ true
  prepared-same e =
      ap (is_even Before.Nothing) (sym (sym (again fold s whole) ∙ e)) ∙ even_joined Before.Nothing (map mark (prepared fold s)) (marks-none (prepared fold s))

  pub none_kept_twice : none_kept (images fold s) ≡ true → prepared fold (prepared fold s) ≡ prepared fold s
  unfolding prepared
  none_kept_twice e = prepared_twice (even_joined Before.Nothing (images fold s) e)

-- ---- valid UTF-8 is whole
broken-never : (s : List ℕ) → utf8_from None s ≡ true → ⊥
unfolding utf8_from after
broken-never [] e = false≢true e
broken-never (b ∷ s) e = broken-never s e

-- octets after the first of a character are 80 to BF
abbrev Tail : Option (ℕ × ℕ × ℕ) → Type 0
Tail None = 0 ≤ 0
Tail (Some (n, least, most)) = (0x80 ≤ least) × (most ≤ 0xBF)

first_tail : (b : ℕ) → Tail (after_first b)
unfolding after_first
first_tail b = go (ltb b 128) (ltb b 194) (ltb b 224) (eqb b 224) (eqb b 237) (ltb b 240) (eqb b 240) (ltb b 244) (eqb b 244)
  where
    go : (a c d e f g h i j : Bool)
        → Tail (pick a (awaits 0) (pick c None (pick d (awaits 1) (pick e (Some (2, 160, 191)) (pick f (Some (2, 128, 159))
        (pick g (awaits 2) (pick h (Some (3, 144, 191)) (pick i (awaits 3) (pick j (Some (3, 128, 143)) None)))))))))
    go true c d e f g h i j = (omega arith, omega arith)
    go false true d e f g h i j = omega arith
    go false false true e f g h i j = (omega arith, omega arith)
    go false false false true f g h i j = (omega arith, omega arith)
    go false false false false true g h i j = (omega arith, omega arith)
    go false false false false false true h i j = (omega arith, omega arith)
    go false false false false false false true i j = (omega arith, omega arith)
    go false false false false false false false true j = (omega arith, omega arith)
    go false false false false false false false false true = (omega arith, omega arith)
    go false false false false false false false false false = omega arith

after_tail : (a : Option (ℕ × ℕ × ℕ)) (b : ℕ) → Tail (after a b)
unfolding after
after_tail None b = omega arith
after_tail (Some (n, least, most)) b = go (eqb n 0) (within least most b) (first_tail b)
  where
    go : (u v : Bool) → Tail (after_first b) → Tail (pick u (after_first b) (pick v (awaits (n - 1)) None))
    go true v h = h
    go false true h = (omega arith, omega arith)
    go false false h = omega arith

-- behind an octet C2 to C5 one more has to come
lead-first : (b : ℕ) → within 0xC2 0xC5 b ≡ true → after_first b ≡ awaits 1
unfolding after_first
lead-first b e =
    let w = both_true (leb 0xC2 b) (leb b 0xC5) e in
    let l = leb-true 0xC2 b w.0 in
    let m = leb-true b 0xC5 w.1 in
    rw (le-ltb b 128 (omega arith), le-ltb b 194 (omega arith), lt-ltb b 224 (omega arith))

lead_next : (a : Option (ℕ × ℕ × ℕ)) (b : ℕ) (s : List ℕ) → Tail a → within 0xC2 0xC5 b ≡ true → utf8_from (after a b) s ≡ true → utf8_from (awaits 1) s ≡ true
unfolding after
lead_next None b s h e f = absurd (broken-never s f)
lead_next (Some (n, least, most)) b s h e f = go (eqb n 0) (within least most b) refl f
  where
    go : (u v : Bool) → within least most b ≡ v → utf8_from (pick u (after_first b) (pick v (awaits (n - 1)) None)) s ≡ true
        → utf8_from (awaits 1) s ≡ true
    go true v q f = ap (λ (y : Option (ℕ × ℕ × ℕ)). utf8_from y s) (sym (lead-first b e)) ∙ f
    go false true q f =
        let w = both_true (leb 0xC2 b) (leb b 0xC5) e in
        let l = leb-true 0xC2 b w.0 in
        let x = both_true (leb least b) (leb b most) q in
        let m = leb-true b most x.1 in
        let k = h.1 in
        absurd (omega arith)
    go false false q f = absurd (broken-never s f)

lead-pair : (a b : ℕ) (s : List ℕ) → within 0xC2 0xC5 a ≡ true → utf8_from (awaits 1) (b ∷ s) ≡ true → is_pair a b ≡ true
unfolding utf8_from after
lead-pair a b s e f = rw e (go (within 128 191 b) f)
  where
    go : (v : Bool) → utf8_from (pick v (awaits 0) None) s ≡ true → v ≡ true
    go true f = refl
    go false f = absurd (broken-never s f)

whole_from : (st : Option (ℕ × ℕ × ℕ)) (s : List ℕ) → Tail st → utf8_from st s ≡ true → is_whole s ≡ true
unfolding is_whole utf8_from
whole_from st [] h e = refl
whole_from st (a ∷ []) h e = go (within 0xC2 0xC5 a) refl
  where
    go : (u : Bool) → within 0xC2 0xC5 a ≡ u → no u ≡ true
    go true q = absurd (false≢true (lead_next st a [] h q e))
    go false q = refl
whole_from st (a ∷ b ∷ s) h e =
    go (is_pair a b) refl (within 0xC2 0xC5 a) refl (whole_from (after (after st a) b) s (after_tail (after st a) b) e)
    (whole_from (after st a) (b ∷ s) (after_tail st a) e)
  where
    go : (u : Bool) → is_pair a b ≡ u → (v : Bool) → within 0xC2 0xC5 a ≡ v → is_whole s ≡ true → is_whole (b ∷ s) ≡ true
        → pick u (is_whole s) (both (no v) (is_whole (b ∷ s))) ≡ true
    go true q v r f g = f
    go false q true r f g = absurd (false≢true (sym q ∙ lead-pair a b s r (lead_next st a (b ∷ s) h r e)))
    go false q false r f g = g

pub utf8-whole : (s : List ℕ) → utf8 s ≡ true → is_whole s ≡ true
unfolding utf8
utf8-whole s e = whole_from (awaits 0) s (omega arith, omega arith) e
