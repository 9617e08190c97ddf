-- A stored string as prepared beside other octets: laws, and one lemma for each need of the code.
use mathlib.Core.Path.{◌≡◌, refl, sym, ap, subst, ◌∙◌}
use mathlib.Core.Bool.{Bool, true, false, not, false≢true}
use mathlib.Core.List.{List, [], ◌∷◌, ◌++◌}
use Prim.Native.Nat.{ℕ, ◌≤◌, ◌<◌, ◌+◌, ◌-◌, ◌/◌, ◌%◌}
use native.Mathlib.Omega.{arith}
use borrow.Author.Tests.{eq-eqb, ne_eqb, eqb-true, leb-true, leb-false, not-true, not-false}
use lib.Dec.{leb, eqb}
use Rattle.std.specs.Prelude.{Option, None, Some}
use Rattle.std.proofs.Common.{ControlFlow, Continue}
use lib.ListN.{length, drop}
use Rattle.octets.specs.Pick.{pick, both}
use Rattle.octets.specs.Octets.{octet, same}
use Rattle.octets.specs.Text.{within}
use Rattle.octets.proofs.Laws.{rest-cons, rest-none, rest-length, both_true}
use Rattle.octets.proofs.TextLaws.{same-nil, same_shorter, same_longer, same-cons}
use Rattle.strings.specs.Images.{Mark}
use Rattle.strings.specs.Prepared.{images, spaced, joined, prepared}
use Rattle.strings.specs.Inner.Shapes.{unpacked, fold_octet}
use Rattle.strings.specs.Inner.Comparing.{folded, letters_at, images_at, rest_at, gap, report_found, Further, is_graphic_next, is_kept, before_at, after_first, same_from}
use Rattle.strings.specs.Inner.Comparing.{ahead, beside, report_turn, weight, Less}
use Rattle.strings.specs.declared.Form.{Form}
use Rattle.strings.specs.declared.Before.{Before}
use Rattle.strings.specs.declared.Found.{Found}
use Rattle.strings.specs.declared.Sides.{Sides}
use Rattle.strings.proofs.ImageSteps.{images-low, unpacked-more}
use Rattle.strings.proofs.Preparing.{image-letter, image-space, fold_space, folded-cons, folded-nil}

-- ---- laws
on_graphic : (fold : Bool) (p : Before) (b : ℕ) (s : List ℕ) → within 33 126 b ≡ true
    → joined p (images fold (b ∷ s)) ≡ spaced p (fold_octet fold b ∷ joined Before.Character (images fold s))
unfolding joined
on_graphic fold p b s e =
    let w = both_true (leb 33 b) (leb b 126) e in
    let least = leb-true 33 b w.0 in
    let most = leb-true b 126 w.1 in
    ap (joined p) (images-low fold b s (omega arith) ∙ ap (λ (l : List Mark). l ++ images fold s) (image-letter fold b least most))

-- a space behind a character, before a graphic octet
on-space : (fold : Bool) (s : List ℕ) → is_graphic_next s ≡ true → joined Before.Character (images fold (32 ∷ s)) ≡ 32 ∷ joined Before.Character (images fold s)
unfolding joined
on-space fold [] e = absurd (false≢true e)
on-space fold (b ∷ s) e =
    ap (joined Before.Character) (images-low fold 32 (b ∷ s) (omega arith) ∙ ap (λ (l : List Mark). l ++ images fold (b ∷ s)) (image-space fold))
    ∙ on_graphic fold Before.Space b s e ∙ ap (λ (l : List ℕ). 32 ∷ l) (sym (on_graphic fold Before.Character b s e))

kept-joined : (fold : Bool) (i b : ℕ) (s : List ℕ) → is_kept i (b ∷ s) ≡ true
    → joined (before_at i) (images fold (b ∷ s)) ≡ fold_octet fold b ∷ joined Before.Character (images fold s)
unfolding is_kept
kept-joined fold i b s e = go (within 33 126 b) refl (eqb b 32) refl (eqb i 0) e
  where
    go : (u : Bool) → within 33 126 b ≡ u → (v : Bool) → eqb b 32 ≡ v → (z : Bool) → pick u true (pick v (pick z false (is_graphic_next s)) false) ≡ true
        → joined (pick z Before.Nothing Before.Character) (images fold (b ∷ s)) ≡ fold_octet fold b ∷ joined Before.Character (images fold s)
    go true p v q true h = on_graphic fold Before.Nothing b s p
    go true p v q false h = on_graphic fold Before.Character b s p
    go false p true q true h = absurd (false≢true h)
    go false p true q false h =
        let space = eqb-true b 32 q in
        ap (λ (y : ℕ). joined Before.Character (images fold (y ∷ s))) space ∙ on-space fold s h
        ∙ sym (ap (λ (y : ℕ). y ∷ joined Before.Character (images fold s)) (ap (fold_octet fold) space ∙ fold_space fold))
    go false p false q z h = absurd (false≢true h)

-- ---- an octet beside the first of others
letters-none : (fold : Bool) (x : List ℕ) (i : ℕ) → length x ≤ i → letters_at fold Form.Stored x i ≡ []
unfolding letters_at
letters-none fold x i h = ap (folded fold) (rest-none x i h) ∙ folded-nil fold

letters-more : (fold : Bool) (x : List ℕ) (i : ℕ) → i < length x → letters_at fold Form.Stored x i ≡ fold_octet fold (octet x i) ∷ letters_at fold Form.Stored x (i + 1)
unfolding letters_at
letters-more fold x i h = ap (folded fold) (rest-cons x i h) ∙ folded-cons fold (octet x i) (drop (i + 1) x)

abbrev matched : Bool → List ℕ → List ℕ → Option ℕ → Bool
matched fold x l None = false
matched fold x l (Some n) = same l (letters_at fold Form.Stored x n)

octet-matched : (fold : Bool) (x : List ℕ) (i b : ℕ) (l : List ℕ) → matched fold x l (after_first fold b i (drop i x)) ≡ same (b ∷ l) (letters_at fold Form.Stored x i)
octet-matched fold x i b l = go (leb (length x) i) refl
  where
    picked : (u : Bool) → matched fold x l (pick u (Some (i + 1)) None) ≡ both u (same l (letters_at fold Form.Stored x (i + 1)))
    picked true = refl
    picked false = refl

    go : (u : Bool) → leb (length x) i ≡ u → matched fold x l (after_first fold b i (drop i x)) ≡ same (b ∷ l) (letters_at fold Form.Stored x i)
    go true e =
        let none = leb-true (length x) i e in
        rw (rest-none x i none, letters-none fold x i none) (sym (same_longer b l))
    go false e =
        let more = leb-false (length x) i e in
        rw (rest-cons x i more, letters-more fold x i more) (picked (eqb b (fold_octet fold (octet x i)))
        ∙ sym (same-cons b (fold_octet fold (octet x i)) l (letters_at fold Form.Stored x (i + 1))))

module _ (fold : Bool) (x : List ℕ) (i b : ℕ) (l : List ℕ) (r : Option ℕ) (told : r ≡ after_first fold b i (drop i x)) where
  octet_differs : r ≡ None → false ≡ same (b ∷ l) (letters_at fold Form.Stored x i)
  octet_differs e = ap (matched fold x l) (sym e ∙ told) ∙ octet-matched fold x i b l

  octet-on : (n : ℕ) → r ≡ Some n → same l (letters_at fold Form.Stored x n) ≡ same (b ∷ l) (letters_at fold Form.Stored x i)
  octet-on n e = ap (matched fold x l) (sym e ∙ told) ∙ octet-matched fold x i b l

abbrev place_of : Option ℕ → ℕ
place_of None = 0
place_of (Some n) = n

-- where there is a place after an octet, it is the next
after-place : (fold : Bool) (b : ℕ) (x : List ℕ) (i n : ℕ) → Some n ≡ after_first fold b i (drop i x) → n ≡ i + 1
after-place fold b x i n e = go (drop i x) e
  where
    pick_at : (u : Bool) → Some n ≡ pick u (Some (i + 1)) None → n ≡ i + 1
    pick_at true q = ap place_of q
    pick_at false q = absurd (let z : ◌≡◌ {A = ℕ} 0 1 = cc in omega arith)

    go : (l : List ℕ) → Some n ≡ after_first fold b i l → n ≡ i + 1
    go [] q = absurd (let z : ◌≡◌ {A = ℕ} 0 1 = cc in omega arith)
    go (y ∷ l) q = pick_at (eqb b (fold_octet fold y)) q

none_left : (fold : Bool) (x : List ℕ) (i : ℕ) → leb (length x) i ≡ same [] (letters_at fold Form.Stored x i)
none_left fold x i = go (leb (length x) i) refl
  where
    go : (u : Bool) → leb (length x) i ≡ u → u ≡ same [] (letters_at fold Form.Stored x i)
    go true e = rw (letters-none fold x i (leb-true (length x) i e)) (sym same-nil)
    go false e = rw (letters-more fold x i (leb-false (length x) i e)) (sym (same_shorter (fold_octet fold (octet x i)) (letters_at fold Form.Stored x (i + 1))))

-- ---- is_kept, before_at
module _ (c : List ℕ) (i : ℕ) (h : i < length c) (u : Bool) (graphic : u ≡ within 33 126 (octet c i)) where
  pub kept_graphic : u ≡ true → true ≡ is_kept i (drop i c)
  unfolding is_kept
  kept_graphic e = rw (rest-cons c i h, sym graphic ∙ e)

  module _ (e : u ≡ false) where
    pub kept-other : (octet c i ≡ 32 → ⊥) → false ≡ is_kept i (drop i c)
    unfolding is_kept
    kept-other n = rw (rest-cons c i h, sym graphic ∙ e, ne_eqb (octet c i) 32 n)

    module _ (space : octet c i ≡ 32) where
      pub kept-first : i ≡ 0 → false ≡ is_kept i (drop i c)
      unfolding is_kept
      kept-first z = rw (rest-cons c i h, sym graphic ∙ e, eq-eqb (octet c i) 32 space, eq-eqb i 0 z)

      module _ (n : i ≡ 0 → ⊥) where
        behind : is_kept i (drop i c) ≡ is_graphic_next (drop (i + 1) c)
        unfolding is_kept
        behind = rw (rest-cons c i h, sym graphic ∙ e, eq-eqb (octet c i) 32 space, ne_eqb i 0 n)

        pub kept-last : length c - i < 2 → false ≡ is_kept i (drop i c)
        kept-last l = sym (behind ∙ ap is_graphic_next (rest-none c (i + 1) (omega arith)))

        pub kept-space : (v : Bool) → 2 ≤ length c - i → v ≡ within 33 126 (octet c (i + 1)) → v ≡ is_kept i (drop i c)
        kept-space v l f = f ∙ sym (behind ∙ ap is_graphic_next (rest-cons c (i + 1) (omega arith)))

module _ (i : ℕ) where
  pub before-other : (i ≡ 0 → ⊥) → Before.Character ≡ before_at i
  before-other n = rw (ne_eqb i 0 n)

-- ---- what is left of a stored string at a place behind kept octets
module _ (fold : Bool) (c : List ℕ) (i : ℕ) where
  rest-none_left : length c ≤ i → rest_at fold Form.Stored c i (before_at i) ≡ []
  unfolding rest_at images_at images joined
  rest-none_left h = ap (λ (y : List ℕ). joined (before_at i) (images fold y)) (rest-none c i h)

  rest-kept : i < length c → is_kept i (drop i c) ≡ true
      → rest_at fold Form.Stored c i (before_at i) ≡ fold_octet fold (octet c i) ∷ rest_at fold Form.Stored c (i + 1) (before_at (i + 1))
  unfolding rest_at images_at
  rest-kept h e =
      ap (λ (y : List ℕ). joined (before_at i) (images fold y)) (rest-cons c i h)
      ∙ kept-joined fold i (octet c i) (drop (i + 1) c) (ap (is_kept i) (sym (rest-cons c i h)) ∙ e)
      ∙ ap (λ (y : Before). fold_octet fold (octet c i) ∷ joined y (images fold (drop (i + 1) c))) (before-other (i + 1) (λ z. omega arith))

-- ---- turns
module _ (fold : Bool) (c x : List ℕ) (s : Sides) where
  -- an octet of an image
  module _ (h : 0 < s.count) where
    octet-ahead : ahead fold c s ≡ s.word % 256 ∷ ahead fold c (record { at = s.at; i = s.i; word = s.word / 256; count = s.count - 1 })
    octet-ahead = ap (λ (l : List ℕ). l ++ rest_at fold Form.Stored c s.at (before_at s.at)) (unpacked-more s.word s.count h)

    module _ (r : Option ℕ) (told : r ≡ after_first fold (s.word % 256) s.i (drop s.i x)) where
      pub turn_differs : r ≡ None → false ≡ beside fold c x s
      unfolding beside
      turn_differs e =
          octet_differs fold x s.i (s.word % 256) (ahead fold c (record { at = s.at; i = s.i; word = s.word / 256; count = s.count - 1 })) r told e
          ∙ ap (λ (l : List ℕ). same l (letters_at fold Form.Stored x s.i)) (sym octet-ahead)

      pub turn-octet : (n : ℕ) → r ≡ Some n → beside fold c x (record { at = s.at; i = n; word = s.word / 256; count = s.count - 1 }) ≡ beside fold c x s
      unfolding beside
      turn-octet n e =
          octet-on fold x s.i (s.word % 256) (ahead fold c (record { at = s.at; i = s.i; word = s.word / 256; count = s.count - 1 })) r told n e
          ∙ ap (λ (l : List ℕ). same l (letters_at fold Form.Stored x s.i)) (sym octet-ahead)

    pub turn_octet_less : (n : ℕ) → weight fold c (record { at = s.at; i = n; word = s.word / 256; count = s.count - 1 }) < weight fold c s
    unfolding weight
    turn_octet_less n = omega (arith, ap length octet-ahead)

  module _ (none : s.count ≤ 0) where
    ahead-rest : ahead fold c s ≡ rest_at fold Form.Stored c s.at (before_at s.at)
    unfolding unpacked
    ahead-rest = let z : s.count ≡ 0 = omega arith in ap (λ (k : ℕ). unpacked s.word k ++ rest_at fold Form.Stored c s.at (before_at s.at)) z

    pub turn_end : length c ≤ s.at → leb (length x) s.i ≡ beside fold c x s
    unfolding beside
    turn_end h = none_left fold x s.i ∙ ap (λ (l : List ℕ). same l (letters_at fold Form.Stored x s.i)) (sym (ahead-rest ∙ rest-none_left fold c s.at h))

    -- an octet that is kept
    module _ (h : s.at < length c) (kept : is_kept s.at (drop s.at c) ≡ true) where
      kept-ahead : ahead fold c s ≡ fold_octet fold (octet c s.at) ∷ rest_at fold Form.Stored c (s.at + 1) (before_at (s.at + 1))
      kept-ahead = ahead-rest ∙ rest-kept fold c s.at h kept

      module _ (b : ℕ) (folds : b ≡ fold_octet fold (octet c s.at)) (r : Option ℕ) (told : r ≡ after_first fold b s.i (drop s.i x)) where
        kept_sides : same (b ∷ rest_at fold Form.Stored c (s.at + 1) (before_at (s.at + 1))) (letters_at fold Form.Stored x s.i) ≡ beside fold c x s
        unfolding beside
        kept_sides = ap (λ (l : List ℕ). same l (letters_at fold Form.Stored x s.i))
            (ap (λ (y : ℕ). y ∷ rest_at fold Form.Stored c (s.at + 1) (before_at (s.at + 1))) folds ∙ sym kept-ahead)

        pub turn-other : r ≡ None → false ≡ beside fold c x s
        turn-other e = octet_differs fold x s.i b (rest_at fold Form.Stored c (s.at + 1) (before_at (s.at + 1))) r told e ∙ kept_sides

        pub turn-kept : (n : ℕ) → r ≡ Some n → beside fold c x (record { at = s.at + 1; i = n; word = 0; count = 0 }) ≡ beside fold c x s
        unfolding beside unpacked
        turn-kept n e = octet-on fold x s.i b (rest_at fold Form.Stored c (s.at + 1) (before_at (s.at + 1))) r told n e ∙ kept_sides

      pub turn_kept_less : (n : ℕ) → weight fold c (record { at = s.at + 1; i = n; word = 0; count = 0 }) < weight fold c s
      unfolding weight unpacked
      turn_kept_less n = omega (arith, ap length kept-ahead, h, rest-length c s.at, rest-length c (s.at + 1))

    -- the next image
    module _ (p : Before) (behind : p ≡ before_at s.at) (f : Option Found) (told : report_found fold Form.Stored c f ≡ rest_at fold Form.Stored c s.at p) where
      found-ahead : report_found fold Form.Stored c f ≡ ahead fold c s
      found-ahead = told ∙ ap (rest_at fold Form.Stored c s.at) behind ∙ sym ahead-rest

      pub turn_last : f ≡ None → leb (length x) s.i ≡ beside fold c x s
      unfolding beside
      turn_last e = none_left fold x s.i ∙ ap (λ (l : List ℕ). same l (letters_at fold Form.Stored x s.i)) (ap (report_found fold Form.Stored c) (sym e) ∙ found-ahead)

      module _ (g : Found) (e : f ≡ Some g) (further : Further Form.Stored c s.at f) where
        abbrev with_image : List ℕ
        with_image = unpacked g.octets.word g.octets.count ++ rest_at fold Form.Stored c g.after (before_at g.after)

        short : length (drop g.after c) < length (drop s.at c)
        short = subst (Further Form.Stored c s.at) e further

        beyond : s.at < g.after
        beyond = omega (arith, short, rest-length c g.after, rest-length c s.at)

        image-ahead : gap g.space with_image ≡ ahead fold c s
        image-ahead =
            ap (λ (y : Before). gap g.space (unpacked g.octets.word g.octets.count ++ rest_at fold Form.Stored c g.after y))
            (sym (before-other g.after (λ z. omega (arith, beyond))))
            ∙ ap (report_found fold Form.Stored c) (sym e) ∙ found-ahead

        module _ (q : not g.space ≡ true) where
          joined-ahead : with_image ≡ ahead fold c s
          joined-ahead = ap (λ (y : Bool). gap y with_image) (sym (not-true g.space q))
              ∙ image-ahead

          pub turn-image : beside fold c x (record { at = g.after; i = s.i; word = g.octets.word; count = g.octets.count }) ≡ beside fold c x s
          unfolding beside
          turn-image = ap (λ (l : List ℕ). same l (letters_at fold Form.Stored x s.i)) joined-ahead

          pub turn_image_less : weight fold c (record { at = g.after; i = s.i; word = g.octets.word; count = g.octets.count }) < weight fold c s
          unfolding weight
          turn_image_less = omega (arith, ap length joined-ahead, short)

        module _ (q : not g.space ≡ false) where
          spaced-ahead : 32 ∷ with_image ≡ ahead fold c s
          spaced-ahead = ap (λ (y : Bool). gap y with_image) (sym (not-false g.space q))
              ∙ image-ahead

          pub turn_space_less : (n : ℕ) → weight fold c (record { at = g.after; i = n; word = g.octets.word; count = g.octets.count }) < weight fold c s
          unfolding weight
          turn_space_less n = omega (arith, ap length spaced-ahead, short)

          module _ (r : Option ℕ) (answers : r ≡ after_first fold 32 s.i (drop s.i x)) where
            spaced_sides : same (32 ∷ with_image) (letters_at fold Form.Stored x s.i)
                ≡ beside fold c x s
            unfolding beside
            spaced_sides = ap (λ (l : List ℕ). same l (letters_at fold Form.Stored x s.i)) spaced-ahead

            pub turn_no_space : r ≡ None → false ≡ beside fold c x s
            turn_no_space h = octet_differs fold x s.i 32 with_image r answers h
                ∙ spaced_sides

            pub turn-space : (n : ℕ) → r ≡ Some n
                → beside fold c x (record { at = g.after; i = n; word = g.octets.word; count = g.octets.count }) ≡ beside fold c x s
            unfolding beside
            turn-space n h = octet-on fold x s.i 32 with_image r answers n h
                ∙ spaced_sides

-- ---- same_from
pub sides_start : (fold : Bool) (c x : List ℕ) (first : ℕ) → beside fold c x (record { at = first; i = first; word = 0; count = 0 }) ≡ same_from fold c x first
unfolding beside same_from unpacked
sides_start fold c x first = refl

module _ (fold : Bool) (c x : List ℕ) (m : Bool) (s : Sides) (inv : beside fold c x s ≡ m) (t : ControlFlow Bool Sides) where
  pub sides_on : (next : Sides) → report_turn fold c x t ≡ beside fold c x s → t ≡ Continue next → beside fold c x next ≡ m
  sides_on next told e = ap (report_turn fold c x) (sym e) ∙ told ∙ inv

pub sides_less : (fold : Bool) (c : List ℕ) (s : Sides) (t : ControlFlow Bool Sides) (next : Sides)
    → Less fold c s t → t ≡ Continue next → weight fold c next < weight fold c s
sides_less fold c s t next h e = subst (Less fold c s) e h

-- ---- same_prepared
pub from_start : (fold : Bool) (c x : List ℕ) → same_from fold c x 0 ≡ same (prepared fold c) (folded fold x)
unfolding same_from rest_at images_at letters_at prepared
from_start fold c x = refl

module _ (fold : Bool) (c x : List ℕ) (i : ℕ) (m : Bool) (inv : same_from fold c x i ≡ m) where
  pub from_end : i ≡ length c → leb (length x) (length c) ≡ m
  unfolding same_from
  from_end e =
      let h : length c ≤ i = omega arith in
      ap (leb (length x)) (sym e) ∙ none_left fold x i ∙ ap (λ (l : List ℕ). same l (letters_at fold Form.Stored x i)) (sym (rest-none_left fold c i h)) ∙ inv

  module _ (h : i < length c) (u : Bool) (told : u ≡ is_kept i (drop i c)) (e : not u ≡ false) (b : ℕ) (folds : b ≡ fold_octet fold (octet c i))
      (r : Option ℕ) (answers : r ≡ after_first fold b i (drop i x)) where
    here : same (b ∷ rest_at fold Form.Stored c (i + 1) (before_at (i + 1))) (letters_at fold Form.Stored x i) ≡ m
    unfolding same_from
    here =
        ap (λ (l : List ℕ). same l (letters_at fold Form.Stored x i)) (ap (λ (y : ℕ). y ∷ rest_at fold Form.Stored c (i + 1) (before_at (i + 1))) folds
        ∙ sym (rest-kept fold c i h (sym told ∙ not-false u e)))
        ∙ inv

    next_place_lem : (n : ℕ) → r ≡ Some n → n ≡ i + 1
    next_place_lem n g = after-place fold b x i n (sym g ∙ answers)

    pub from_differs : r ≡ None → false ≡ m
    from_differs g = octet_differs fold x i b (rest_at fold Form.Stored c (i + 1) (before_at (i + 1))) r answers g ∙ here

    pub from_more : (n : ℕ) → r ≡ Some n → same_from fold c x (i + 1) ≡ m
    unfolding same_from
    from_more n g =
        ap (λ (y : ℕ). same (rest_at fold Form.Stored c (i + 1) (before_at (i + 1))) (letters_at fold Form.Stored x y)) (sym (next_place_lem n g))
        ∙ octet-on fold x i b (rest_at fold Form.Stored c (i + 1) (before_at (i + 1))) r answers n g ∙ here
