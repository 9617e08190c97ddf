-- Reading one identifier: one lemma for each return and each turn of a loop; its premises are the facts as the code has them.
use mathlib.Core.Path.{◌≡◌, refl, sym, ap, ap₂, ◌∙◌}
use mathlib.Core.Bool.{Bool, true, false, not, false≢true}
use Rattle.std.specs.Prelude.{Option, None, Some}
use mathlib.Core.List.{List, [], ◌∷◌}
use Prim.Native.Nat.{ℕ, suc, ◌≤◌, ◌<◌, ◌+◌, ◌-◌}
use native.Mathlib.Omega.{arith}
use native.Mathlib.Nat.{add-zero}
use borrow.Author.Tests.{not-true, not-false, eq-eqb, ne_eqb, lt-leb, le-leb, lt-ltb, le-ltb, leb-true, leb-false}
use lib.Dec.{ltb, leb, eqb, leb-suc-suc}
use lib.ListN.{length, take, drop}
use lib.Seq.{drop-drop}
use Rattle.octets.specs.Pick.{pick, both, no, bind, consed}
use Rattle.octets.specs.Octets.{octet, part, same, every, bytes}
use Rattle.octets.specs.Text.{is_lower, is_letter, is_alnum, is_digit, may_follow, name_from, is_name, is_number, decimal, onto_first, pieces}
use Rattle.octets.specs.Inner.Answers.{clip}
use Rattle.octets.proofs.Laws.{rest-cons, rest-none, rest-length, part-rest}
use Rattle.octets.proofs.TextLaws.{every-cons, number-nil, number-cons, pieces-nil, pieces-cons, same-nil, same-cons}
use Rattle.reference.specs.Reference.{Id, index, position, from_end, is_position, id_of, ids_of, read_reference}
use Rattle.reference.specs.Inner.Work.{cap, head_capped, ids_at, dotless, end_at, word_id, other_id, number_id, capped_id, report_piece, report_id_step, rises, advances, step_of}
use Rattle.reference.specs.declared.Piece.{Piece}
use Rattle.reference.specs.declared.Step.{Step}

-- ---- names
module _ (p : List ℕ) (a : ℕ) (u : Bool) (read : a ≡ octet p 0) (told : u ≡ is_lower a) where
  lowered : u ≡ is_lower (octet p 0)
  lowered = told ∙ ap is_lower read

  pub name-other : not u ≡ true → false ≡ is_name p
  unfolding is_name
  name-other h = go p (sym lowered ∙ not-true u h)
    where
      go : (p : List ℕ) → is_lower (octet p 0) ≡ false → false ≡ is_name p
      go [] e = refl
      go (b ∷ s) e = rw e

  pub name-start : not u ≡ false → name_from a (drop 1 p) ≡ is_name p
  unfolding is_name is_lower
  name-start h = ap (λ (x : ℕ). name_from x (drop 1 p)) read ∙ go p (sym lowered ∙ not-false u h)
    where
      go : (p : List ℕ) → is_lower (octet p 0) ≡ true → name_from (octet p 0) (drop 1 p) ≡ is_name p
      go [] e = absurd (false≢true e)
      go (b ∷ s) e = rw e

letter-follows : (a b : ℕ) → is_letter b ≡ true → true ≡ may_follow a b
unfolding may_follow is_alnum
letter-follows a b e = rw e refl

module _ (p : List ℕ) (a i : ℕ) (m : Bool) (inv : name_from a (drop i p) ≡ m) where
  module _ (h : i < length p) (u : Bool) (told : u ≡ may_follow a (octet p i)) where
    name-here : both u (name_from (octet p i) (drop (i + 1) p)) ≡ m
    unfolding name_from may_follow
    name-here = rw told (sym (ap (name_from a) (rest-cons p i h)) ∙ inv)

    pub name-bad : not u ≡ true → false ≡ m
    name-bad e = rw (not-true u e) at name-here

    pub name-more : not u ≡ false → name_from (octet p i) (drop (i + 1) p) ≡ m
    name-more e = rw (not-false u e) at name-here

  pub name-letter : i < length p → (u : Bool) → u ≡ is_letter (octet p i) → not u ≡ false → name_from (octet p i) (drop (i + 1) p) ≡ m
  name-letter h u told e = name-more h true (letter-follows a (octet p i) (sym told ∙ not-false u e)) refl

  module _ (h : length p ≤ i) where
    name-end : no (eqb a 45) ≡ m
    unfolding name_from
    name-end = sym (ap (name_from a) (rest-none p i h)) ∙ inv

    pub name-whole : not (eqb a 45) ≡ m
    name-whole = go (eqb a 45) name-end
      where
        go : (u : Bool) → no u ≡ m → not u ≡ m
        go true e = e
        go false e = e

-- ---- positions
pub position-none : (p : List ℕ) → length p < 1 → false ≡ is_position p
unfolding is_position
position-none [] h = rw number-nil
position-none (b ∷ s) h = absurd (omega arith)

pub position_nought : (p : List ℕ) → 1 ≤ length p → octet p 0 ≡ 48 → false ≡ is_position p
unfolding is_position
position_nought [] h q = absurd (omega arith)
position_nought (b ∷ []) h q = rw (number-cons b [], eq-eqb b 48 q, same-cons b 48 [] [], eq-eqb b 48 q, same-nil)
position_nought (b ∷ c ∷ s) h q = rw (number-cons b (c ∷ s), eq-eqb b 48 q, ne_eqb (suc (length s)) 0 (λ z. omega arith))

pub position-is : (p : List ℕ) (u : Bool) → 1 ≤ length p → (octet p 0 ≡ 48 → ⊥) → u ≡ every is_digit p → u ≡ is_position p
unfolding is_position
position-is [] u h q e = absurd (omega arith)
position-is (b ∷ s) u h q e =
    e ∙ sym (digits b s q) ∙ always (is_number (b ∷ s))
    ∙ ap (λ (x : Bool). both (is_number (b ∷ s)) (no x)) (sym (other b s q))
  where
    always : (x : Bool) → x ≡ both x true
    always true = refl
    always false = refl

    digits : (b : ℕ) (s : List ℕ) → (b ≡ 48 → ⊥) → is_number (b ∷ s) ≡ every is_digit (b ∷ s)
    digits b s q = number-cons b s ∙ rw (ne_eqb b 48 q) (sym (every-cons is_digit b s))

    other : (b : ℕ) (s : List ℕ) → (b ≡ 48 → ⊥) → same (b ∷ s) (48 ∷ []) ≡ false
    other b s q = rw (same-cons b 48 s [], ne_eqb b 48 q)

size_of : (n m : ℕ) (x : Bool) → pick x (Some n) None ≡ Some m → m ≡ pick x n 18446744073709551615
size_of n m true e = cc
size_of n m false e = absurd (let z : ◌≡◌ {A = ℕ} 0 1 = cc in omega arith)

size-beyond : (n : ℕ) (x : Bool) → pick x (Some n) None ≡ None → 18446744073709551615 ≡ pick x n 18446744073709551615
size-beyond n true e = absurd (let z : ◌≡◌ {A = ℕ} 0 1 = cc in omega arith)
size-beyond n false e = refl

module _ (size : Option ℕ) (n : ℕ) (told : size ≡ clip n) where
  pub number_far : size ≡ None → 18446744073709551615 ≡ cap n
  unfolding cap
  number_far e = size-beyond n (ltb n 18446744073709551616) (sym told ∙ e)

  pub number_is : (m : ℕ) → size ≡ Some m → m ≡ cap n
  unfolding cap
  number_is m e = size_of n m (ltb n 18446744073709551616) (sym told ∙ e)

-- ---- one identifier
module _ (p : List ℕ) where
  module _ (u : Bool) (told : u ≡ is_name p) where
    pub word_is : u ≡ true → report_piece p Piece.Name ≡ capped_id (word_id p)
    word_is h = rw (sym told ∙ h)

    pub word_bad : u ≡ false → report_piece p Piece.Bad ≡ capped_id (word_id p)
    word_bad h = rw (sym told ∙ h)

  module _ (o : ℕ) (read : o ≡ octet p 0) where
    pub other_word : (r : Piece) → (o ≡ 45 → ⊥) → report_piece p r ≡ capped_id (word_id p) → report_piece p r ≡ capped_id (other_id p)
    other_word r n e = e ∙ sym (rw (ne_eqb (octet p 0) 45 (λ z. n (read ∙ z))))

    module _ (hyphen : o ≡ 45) (q : List ℕ) (cut : q ≡ part p 1 (length p)) (u : Bool) (told : u ≡ is_position q) where
      rest-is : q ≡ drop 1 p
      rest-is = cut ∙ part-rest p 1 (length p) (omega arith)

      told_rest : u ≡ is_position (drop 1 p)
      told_rest = told ∙ ap is_position rest-is

      pub other-end : (n : ℕ) → u ≡ true → n ≡ cap (decimal q) → report_piece p (Piece.FromEnd n) ≡ capped_id (other_id p)
      other-end n h e = ap (λ (x : ℕ). Some (index (from_end x))) (e ∙ ap (λ (x : List ℕ). cap (decimal x)) rest-is) ∙ sym (rw (eq-eqb (octet p 0) 45 (sym read ∙ hyphen), sym told_rest ∙ h))

      pub other_name : (r : Piece) → u ≡ false → report_piece p r ≡ capped_id (word_id p) → report_piece p r ≡ capped_id (other_id p)
      other_name r h e = e ∙ sym (rw (eq-eqb (octet p 0) 45 (sym read ∙ hyphen), sym told_rest ∙ h))

  module _ (u : Bool) (told : u ≡ is_position p) where
    pub number-position : (n : ℕ) → u ≡ true → n ≡ cap (decimal p) → report_piece p (Piece.Position n) ≡ capped_id (number_id p)
    number-position n h e = ap (λ (x : ℕ). Some (index (position x))) e ∙ sym (rw (sym told ∙ h))

    pub number-other : (r : Piece) → u ≡ false → report_piece p r ≡ capped_id (other_id p) → report_piece p r ≡ capped_id (number_id p)
    number-other r h e = e ∙ sym (rw (sym told ∙ h))

  module _ (u : Bool) (star : u ≡ same p (bytes "*")) where
    pub id_all : u ≡ true → report_piece p Piece.All ≡ capped_id (id_of p)
    unfolding id_of
    id_all h = rw (sym star ∙ h)

    module _ (h : u ≡ false) (v : Bool) (nought : v ≡ same p (bytes "0")) where
      pub id_count : v ≡ true → report_piece p Piece.Count ≡ capped_id (id_of p)
      unfolding id_of
      id_count g = rw (sym star ∙ h, sym nought ∙ g)

      pub id_other : (r : Piece) → v ≡ false → report_piece p r ≡ capped_id (number_id p) → report_piece p r ≡ capped_id (id_of p)
      unfolding id_of
      id_other r g e = e ∙ sym (rw (sym star ∙ h, sym nought ∙ g))

-- ---- the end of an identifier
module _ (r : List ℕ) (k i : ℕ) (inv : end_at r k ≡ end_at r i) where
  pub end_dot : i < length r → octet r i ≡ 46 → i ≡ end_at r k
  unfolding end_at dotless
  end_dot h e = sym (inv ∙ rw (rest-cons r i h, eq-eqb _ _ e) (add-zero _))

  pub end_on : i < length r → (octet r i ≡ 46 → ⊥) → end_at r k ≡ end_at r (i + 1)
  unfolding end_at dotless
  end_on h e = inv ∙ rw (rest-cons r i h, ne_eqb _ _ e) (omega arith)

  pub end-done : i ≤ length r → length r ≤ i → length r ≡ end_at r k
  unfolding end_at dotless
  end-done g h = let e : length r ≡ i = omega arith in e ∙ sym (inv ∙ rw (rest-none r i h) (add-zero _))

-- ---- the first piece of a text, and the others
abbrev others : List ℕ → List (List ℕ)
others s = pick (ltb (dotless s) (length s)) (pieces (drop (suc (dotless s)) s)) []

pub pieces-first : (s : List ℕ) → pieces s ≡ take (dotless s) s ∷ others s
unfolding dotless
pieces-first [] = pieces-nil
pieces-first (b ∷ s) = pieces-cons b s ∙ ap (λ (x : List (List ℕ)). pick (eqb b 46) ([] ∷ pieces s) (onto_first b x)) (pieces-first s) ∙ go (eqb b 46)
  where
    go : (u : Bool) → pick u ([] ∷ pieces s) ((b ∷ take (dotless s) s) ∷ others s)
        ≡ take (pick u 0 (suc (dotless s))) (b ∷ s) ∷ pick (ltb (pick u 0 (suc (dotless s))) (suc (length s))) (pieces (drop (suc (pick u 0 (suc (dotless s)))) (b ∷ s))) []
    go true = rw (lt-ltb 0 (suc (length s)) (omega arith))
    go false = rw (leb-suc-suc (suc (dotless s)) (length s))

module _ (r : List ℕ) (k e : ℕ) (within : k ≤ length r) (ends : e ≡ end_at r k) where
  far : e ≡ k + dotless (drop k r)
  unfolding end_at
  far = ends

  rest-ids : ids_of (others (drop k r)) ≡ ids_at r (e + 1)
  unfolding ids_at read_reference ids_of
  rest-ids =
      ap (λ (x : Bool). ids_of (pick x (pieces (drop (suc (dotless (drop k r))) (drop k r))) [])) (go (leb (e + 1) (length r)) refl)
      ∙ ap (λ (x : List ℕ). ids_of (pick (leb (e + 1) (length r)) (pieces x) [])) (drop-drop (suc (dotless (drop k r))) k r ∙ ap (λ (x : ℕ). drop x r) shift)
      ∙ split (leb (e + 1) (length r)) (pieces (drop (e + 1) r))
    where
      shift : k + suc (dotless (drop k r)) ≡ e + 1
      shift = let q = far in omega arith

      go : (u : Bool) → leb (e + 1) (length r) ≡ u → ltb (dotless (drop k r)) (length (drop k r)) ≡ u
      go true q = let z = rest-length r k in let f = far in let w = leb-true (e + 1) (length r) q in lt-ltb (dotless (drop k r)) (length (drop k r)) (omega arith)
      go false q = let z = rest-length r k in let f = far in let w = leb-false (e + 1) (length r) q in le-ltb (dotless (drop k r)) (length (drop k r)) (omega arith)

      split : (u : Bool) (ps : List (List ℕ)) → ids_of (pick u ps []) ≡ pick u (ids_of ps) (Some [])
      split true ps = refl
      split false ps = refl

  pub ids_step : ids_at r k ≡ bind (id_of (part r k (e - k))) (λ i. consed i (ids_at r (e + 1)))
  unfolding ids_at read_reference ids_of
  ids_step =
      let l : dotless (drop k r) ≡ e - k = (let q = far in omega arith) in
      rw (le-leb k (length r) within)
      (ap ids_of (pieces-first (drop k r))
      ∙ ap₂ (λ (x : ℕ) (y : Option (List Id)). bind (id_of (take x (drop k r))) (λ i. consed i y)) l rest-ids)

-- ---- the step of an identifier
module _ (piece : Piece) (a b n : ℕ) where
  pub step-name : piece ≡ Piece.Name → Step.Name a b n ≡ step_of piece a b n
  step-name e = rw e

  pub step-position : (m : ℕ) → piece ≡ Piece.Position m → Step.Position m n ≡ step_of piece a b n
  step-position m e = rw e

  pub step-from_end : (m : ℕ) → piece ≡ Piece.FromEnd m → Step.FromEnd m n ≡ step_of piece a b n
  step-from_end m e = rw e

  pub step_count : piece ≡ Piece.Count → Step.Count n ≡ step_of piece a b n
  step_count e = rw e

  pub step-all : piece ≡ Piece.All → Step.All n ≡ step_of piece a b n
  step-all e = rw e

  pub step-bad : piece ≡ Piece.Bad → Step.Bad ≡ step_of piece a b n
  step-bad e = rw e

-- ---- one step
module _ (r : List ℕ) (k : ℕ) where
  pub next-end : length r < k → report_id_step r Step.End ≡ head_capped (ids_at r k)
  unfolding ids_at
  next-end h = rw (lt-leb k (length r) h)

  step_told : (piece : Piece) (e n : ℕ) → report_id_step r (step_of piece k e n) ≡ bind (report_piece (part r k (e - k)) piece) (λ i. consed i (ids_at r n))
  step_told Piece.Name e n = refl
  step_told (Piece.Position m) e n = refl
  step_told (Piece.FromEnd m) e n = refl
  step_told Piece.Count e n = refl
  step_told Piece.All e n = refl
  step_told Piece.Bad e n = refl

  head_told : (o : Option Id) (l : Option (List Id)) → bind (capped_id o) (λ i. consed i l) ≡ head_capped (bind o (λ i. consed i l))
  head_told None l = refl
  head_told (Some i) None = refl
  head_told (Some i) (Some is) = refl

  module _ (e : ℕ) (within : k ≤ length r) (q : List ℕ) (piece : Piece) (s : Step) (made : s ≡ step_of piece k e (e + 1)) where
    pub next_is : e ≡ end_at r k → q ≡ part r k (e - k) → report_piece q piece ≡ capped_id (id_of q) → report_id_step r s ≡ head_capped (ids_at r k)
    next_is ends cut told =
        ap (report_id_step r) made ∙ step_told piece e (e + 1)
        ∙ ap (λ (o : Option Id). bind o (λ i. consed i (ids_at r (e + 1)))) (ap (λ (x : List ℕ). report_piece x piece) (sym cut) ∙ told ∙ ap (λ (x : List ℕ). capped_id (id_of x)) cut)
        ∙ head_told (id_of (part r k (e - k))) (ids_at r (e + 1))
        ∙ ap head_capped (sym (ids_step r k e within ends))

    pub next_advances : k ≤ e → e ≤ length r → advances r k s ≡ true
    unfolding rises
    next_advances low high = ap (advances r k) made ∙ go piece
      where
        rising : both (ltb k (e + 1)) (leb (e + 1) (length r + 1)) ≡ true
        rising = rw (lt-ltb k (e + 1) (omega arith), le-leb (e + 1) (length r + 1) (omega arith))

        go : (x : Piece) → advances r k (step_of x k e (e + 1)) ≡ true
        go Piece.Name = rising
        go (Piece.Position m) = rising
        go (Piece.FromEnd m) = rising
        go Piece.Count = rising
        go Piece.All = rising
        go Piece.Bad = refl
