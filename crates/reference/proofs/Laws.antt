-- Laws of the definitions, for the layers above.
use mathlib.Core.Path.{◌≡◌, refl, sym, ap, ◌∙◌}
use mathlib.Core.Bool.{Bool, true, false, false≢true}
use mathlib.Core.Logic.{◌⊎◌, inl, inr}
use Rattle.std.specs.Prelude.{Option, None, Some}
use mathlib.Core.List.{List, [], ◌∷◌}
use Prim.Native.Nat.{ℕ, suc, ◌≤◌, ◌<◌, ◌+◌, ◌-◌}
use native.Mathlib.Omega.{arith}
use borrow.Author.Tests.{ne_eqb, eqb-true, lt-leb, le-leb, lt-ltb, le-ltb, leb-true, ltb-true, ltb-false}
use lib.Dec.{ltb, leb, eqb}
use lib.ListN.{length, drop}
use Rattle.octets.specs.Pick.{pick, both, no, bind, consed}
use Rattle.octets.specs.Octets.{octet, part, same, every}
use Rattle.octets.specs.Text.{is_lower, is_upper, is_letter, is_alnum, is_digit, may_follow, name_from, is_name, is_number, onto_first, pieces}
use Rattle.octets.specs.Quoted.{undoubled}
use Rattle.octets.proofs.Laws.{both_true, never}
use Rattle.octets.proofs.TextLaws.{number-nil, number-cons, every-nil, every-cons, pieces-nil, pieces-cons, same_longer, same-cons}
use Rattle.octets.proofs.QuotedLaws.{no_quote, undoubled-plain, undoubled-quoted}
use Rattle.types.specs.Types.{basic, sequence, choice, list_of}
use Rattle.reference.specs.Reference.{position, from_end, count, all, Id, name, index, is_position, id_of, ids_of, read_reference}
use Rattle.reference.specs.Allowed as allowed
use Rattle.reference.specs.Allowed.{of_type, of_count, under, allowed}
use Rattle.reference.specs.Inner.Work.{cap, capped, head_capped, ids_at, report_id_step, rises, advances, row_within}
use Rattle.reference.specs.declared.Step.{Step}
use Rattle.reference.specs.declared.Target.{Target}

-- ---- the identifiers of a text from a place on
pub ids_all : (r : List ℕ) → ids_at r 0 ≡ read_reference r
unfolding ids_at
ids_all r = rw (le-leb 0 (length r) (omega arith))

pub ids-over : (r : List ℕ) (k : ℕ) → length r < k → ids_at r k ≡ Some []
unfolding ids_at
ids-over r k h = rw (lt-leb k (length r) h)

-- ---- a reference has an identifier
pieces_some : (s : List ℕ) → (p : List ℕ) × (ps : List (List ℕ)) × (pieces s ≡ p ∷ ps)
pieces_some [] = ([], [], pieces-nil)
pieces_some (b ∷ s) = go (eqb b 46) (pieces s) (pieces-cons b s)
  where
    go : (u : Bool) (qs : List (List ℕ)) → pieces (b ∷ s) ≡ pick u ([] ∷ qs) (onto_first b qs) → (p : List ℕ) × (ps : List (List ℕ)) × (pieces (b ∷ s) ≡ p ∷ ps)
    go true qs e = ([], qs, e)
    go false [] e = (b ∷ [], [], e)
    go false (q ∷ qs) e = (b ∷ q, qs, e)

pub read_some : (s : List ℕ) (is : List Id) → read_reference s ≡ Some is → (i : Id) × (js : List Id) × (is ≡ i ∷ js)
unfolding read_reference ids_of
read_some s is e = let w = pieces_some s in go (id_of w.0) (ids_of w.1) (sym (ap ids_of w.2) ∙ e)
  where
    go : (o : Option Id) (l : Option (List Id)) → bind o (λ i. consed i l) ≡ Some is → (i : Id) × (js : List Id) × (is ≡ i ∷ js)
    go None l q = absurd (let z : ◌≡◌ {A = ℕ} 0 1 = cc in omega arith)
    go (Some i) None q = absurd (let z : ◌≡◌ {A = ℕ} 0 1 = cc in omega arith)
    go (Some i) (Some js) q = (i, js, cc)

pub ids-within : (r : List ℕ) (k : ℕ) (is : List Id) → k ≤ length r → ids_at r k ≡ Some is → (i : Id) × (js : List Id) × (is ≡ i ∷ js)
unfolding ids_at
ids-within r k is h e = read_some (drop k r) is (rw (le-leb k (length r) h) at e)

-- ---- what one step says: s is the code's step at place k
headed : (i : Id) (l o : Option (List Id)) (is : List Id) → consed i l ≡ head_capped o → o ≡ Some is
    → (j : Id) × (js : List Id) × (is ≡ j ∷ js) × (l ≡ Some js) × (capped j ≡ i)
headed i None o [] e h = absurd (let z : ◌≡◌ {A = ℕ} 0 1 = cc in omega arith)
headed i None o (j ∷ js) e h = absurd (let z : ◌≡◌ {A = ℕ} 0 1 = cc in omega arith)
headed i (Some l) o [] e h = absurd (let z : ◌≡◌ {A = ℕ} 0 1 = cc in omega arith)
headed i (Some l) o (j ∷ js) e h = (j, js, refl, cc, cc)

as_name : (j : Id) (x : List ℕ) → capped j ≡ name x → j ≡ name x
as_name (name y) x e = e
as_name (index i) x e = absurd (let z : ◌≡◌ {A = ℕ} 0 1 = cc in omega arith)

as_position : (j : Id) (n : ℕ) → capped j ≡ index (position n) → (m : ℕ) × (j ≡ index (position m)) × (n ≡ cap m)
as_position (name y) n e = absurd (let z : ◌≡◌ {A = ℕ} 0 1 = cc in omega arith)
as_position (index (position m)) n e = (m, refl, cc)
as_position (index (from_end m)) n e = absurd (let z : ◌≡◌ {A = ℕ} 0 1 = cc in omega arith)
as_position (index count) n e = absurd (let z : ◌≡◌ {A = ℕ} 0 1 = cc in omega arith)
as_position (index all) n e = absurd (let z : ◌≡◌ {A = ℕ} 0 1 = cc in omega arith)

as_from_end : (j : Id) (n : ℕ) → capped j ≡ index (from_end n) → (m : ℕ) × (j ≡ index (from_end m)) × (n ≡ cap m)
as_from_end (name y) n e = absurd (let z : ◌≡◌ {A = ℕ} 0 1 = cc in omega arith)
as_from_end (index (position m)) n e = absurd (let z : ◌≡◌ {A = ℕ} 0 1 = cc in omega arith)
as_from_end (index (from_end m)) n e = (m, refl, cc)
as_from_end (index count) n e = absurd (let z : ◌≡◌ {A = ℕ} 0 1 = cc in omega arith)
as_from_end (index all) n e = absurd (let z : ◌≡◌ {A = ℕ} 0 1 = cc in omega arith)

as_count : (j : Id) → capped j ≡ index count → j ≡ index count
as_count (name y) e = absurd (let z : ◌≡◌ {A = ℕ} 0 1 = cc in omega arith)
as_count (index (position m)) e = absurd (let z : ◌≡◌ {A = ℕ} 0 1 = cc in omega arith)
as_count (index (from_end m)) e = absurd (let z : ◌≡◌ {A = ℕ} 0 1 = cc in omega arith)
as_count (index count) e = refl
as_count (index all) e = absurd (let z : ◌≡◌ {A = ℕ} 0 1 = cc in omega arith)

as_all : (j : Id) → capped j ≡ index all → j ≡ index all
as_all (name y) e = absurd (let z : ◌≡◌ {A = ℕ} 0 1 = cc in omega arith)
as_all (index (position m)) e = absurd (let z : ◌≡◌ {A = ℕ} 0 1 = cc in omega arith)
as_all (index (from_end m)) e = absurd (let z : ◌≡◌ {A = ℕ} 0 1 = cc in omega arith)
as_all (index count) e = absurd (let z : ◌≡◌ {A = ℕ} 0 1 = cc in omega arith)
as_all (index all) e = refl

module _ (r : List ℕ) (k : ℕ) (s : Step) (step : report_id_step r s ≡ head_capped (ids_at r k)) where
  -- no identifier stands there
  pub bad-step : s ≡ Step.Bad → ids_at r k ≡ None
  bad-step e = go (ids_at r k) (sym (ap (report_id_step r) e) ∙ step)
    where
      go : (o : Option (List Id)) → None ≡ head_capped o → o ≡ None
      go None q = refl
      go (Some []) q = absurd (let z : ◌≡◌ {A = ℕ} 0 1 = cc in omega arith)
      go (Some (i ∷ is)) q = absurd (let z : ◌≡◌ {A = ℕ} 0 1 = cc in omega arith)

  -- no more identifiers
  pub end_step : s ≡ Step.End → ids_at r k ≡ Some []
  end_step e = go (ids_at r k) (sym (ap (report_id_step r) e) ∙ step)
    where
      go : (o : Option (List Id)) → Some [] ≡ head_capped o → o ≡ Some []
      go None q = absurd (let z : ◌≡◌ {A = ℕ} 0 1 = cc in omega arith)
      go (Some []) q = refl
      go (Some (i ∷ is)) q = absurd (let z : ◌≡◌ {A = ℕ} 0 1 = cc in omega arith)

  -- an identifier, where the whole rest of the text is well formed
  module _ (is : List Id) (read : ids_at r k ≡ Some is) where
    pub name-step : (a b n : ℕ) → s ≡ Step.Name a b n → (js : List Id) × (is ≡ name (part r a (b - a)) ∷ js) × (ids_at r n ≡ Some js)
    name-step a b n e =
        let w = headed (name (part r a (b - a))) (ids_at r n) (ids_at r k) is (sym (ap (report_id_step r) e) ∙ step) read in
        (w.1, w.2 ∙ ap (λ (j : Id). j ∷ w.1) (as_name w.0 (part r a (b - a)) w.4), w.3)

    pub position-step : (i n : ℕ) → s ≡ Step.Position i n → (m : ℕ) × (js : List Id) × (is ≡ index (position m) ∷ js) × (i ≡ cap m) × (ids_at r n ≡ Some js)
    position-step i n e =
        let w = headed (index (position i)) (ids_at r n) (ids_at r k) is (sym (ap (report_id_step r) e) ∙ step) read in
        let z = as_position w.0 i w.4 in
        (z.0, w.1, w.2 ∙ ap (λ (j : Id). j ∷ w.1) z.1, z.2, w.3)

    pub from_end-step : (i n : ℕ) → s ≡ Step.FromEnd i n → (m : ℕ) × (js : List Id) × (is ≡ index (from_end m) ∷ js) × (i ≡ cap m) × (ids_at r n ≡ Some js)
    from_end-step i n e =
        let w = headed (index (from_end i)) (ids_at r n) (ids_at r k) is (sym (ap (report_id_step r) e) ∙ step) read in
        let z = as_from_end w.0 i w.4 in
        (z.0, w.1, w.2 ∙ ap (λ (j : Id). j ∷ w.1) z.1, z.2, w.3)

    pub count-step : (n : ℕ) → s ≡ Step.Count n → (js : List Id) × (is ≡ index count ∷ js) × (ids_at r n ≡ Some js)
    count-step n e =
        let w = headed (index count) (ids_at r n) (ids_at r k) is (sym (ap (report_id_step r) e) ∙ step) read in
        (w.1, w.2 ∙ ap (λ (j : Id). j ∷ w.1) (as_count w.0 w.4), w.3)

    pub all-step : (n : ℕ) → s ≡ Step.All n → (js : List Id) × (is ≡ index all ∷ js) × (ids_at r n ≡ Some js)
    all-step n e =
        let w = headed (index all) (ids_at r n) (ids_at r k) is (sym (ap (report_id_step r) e) ∙ step) read in
        (w.1, w.2 ∙ ap (λ (j : Id). j ∷ w.1) (as_all w.0 w.4), w.3)

-- ---- next places rise
pub rises_by : (r : List ℕ) (k n : ℕ) → rises r k n ≡ true → (k < n) × (n ≤ length r + 1)
unfolding rises
rises_by r k n e = let w = both_true (ltb k n) (leb n (length r + 1)) e in (ltb-true _ _ w.0, leb-true _ _ w.1)

module _ (r : List ℕ) (k : ℕ) (s : Step) (rising : advances r k s ≡ true) where
  pub name-rises : (a b n : ℕ) → s ≡ Step.Name a b n → (k < n) × (n ≤ length r + 1)
  name-rises a b n e = rises_by r k n (sym (ap (advances r k) e) ∙ rising)

  pub position-rises : (i n : ℕ) → s ≡ Step.Position i n → (k < n) × (n ≤ length r + 1)
  position-rises i n e = rises_by r k n (sym (ap (advances r k) e) ∙ rising)

  pub from_end-rises : (i n : ℕ) → s ≡ Step.FromEnd i n → (k < n) × (n ≤ length r + 1)
  from_end-rises i n e = rises_by r k n (sym (ap (advances r k) e) ∙ rising)

  pub all-rises : (n : ℕ) → s ≡ Step.All n → (k < n) × (n ≤ length r + 1)
  all-rises n e = rises_by r k n (sym (ap (advances r k) e) ∙ rising)

-- ---- a row that a reference leads to
pub row_here : (s : List ℕ) (g : Option Target) (row : ℕ) → row_within s g ≡ true → g ≡ Some (Target.Row row) → row < length s
row_here s g row e h = ltb-true row (length s) (sym (ap (row_within s) h) ∙ e)

-- ---- capped positions
pub cap-small : (n : ℕ) → n < 18446744073709551616 → cap n ≡ n
unfolding cap
cap-small n h = rw (lt-ltb n 18446744073709551616 h)

pub cap_large : (n : ℕ) → 18446744073709551616 ≤ n → cap n ≡ 18446744073709551615
unfolding cap
cap_large n h = rw (le-ltb n 18446744073709551616 h)

pub cap_cases : (n : ℕ) → (cap n ≡ n) ⊎ ((cap n ≡ 18446744073709551615) × (18446744073709551616 ≤ n))
cap_cases n = go (ltb n 18446744073709551616) refl
  where
    go : (u : Bool) → ltb n 18446744073709551616 ≡ u → (cap n ≡ n) ⊎ ((cap n ≡ 18446744073709551615) × (18446744073709551616 ≤ n))
    go true e = inl (cap-small n (ltb-true n 18446744073709551616 e))
    go false e = let h = ltb-false n 18446744073709551616 e in inr (cap_large n h, h)

-- ---- capped positions allow the same
pub under-capped : (i : Id) (g : allowed.Target) → under (capped i) g ≡ under i g
unfolding under
under-capped i of_count = refl
under-capped i (of_type (basic k names)) = refl
under-capped (name x) (of_type (sequence ms)) = refl
under-capped (index j) (of_type (sequence ms)) = refl
under-capped (name x) (of_type (choice ms)) = refl
under-capped (index j) (of_type (choice ms)) = refl
under-capped (name x) (of_type (list_of k ty)) = refl
under-capped (index (position n)) (of_type (list_of k ty)) = refl
under-capped (index (from_end n)) (of_type (list_of k ty)) = refl
under-capped (index count) (of_type (list_of k ty)) = refl
under-capped (index all) (of_type (list_of k ty)) = refl

-- ---- a text with a quote
quoted-same : (p w : List ℕ) → every no_quote p ≡ false → every no_quote w ≡ true → same p w ≡ false
unfolding every
quoted-same [] w e h = absurd (false≢true (sym e))
quoted-same (b ∷ p) [] e h = same_longer b p
quoted-same (b ∷ p) (c ∷ w) e h = same-cons b c p w ∙ go (eqb b c) refl (eqb b 34) refl (both_true (no_quote c) (every no_quote w) h).0 e (λ q. quoted-same p w q (both_true (no_quote c) (every no_quote w) h).1)
  where
    go : (u : Bool) → eqb b c ≡ u → (v : Bool) → eqb b 34 ≡ v → no (eqb c 34) ≡ true → both (no v) (every no_quote p) ≡ false → (every no_quote p ≡ false → same p w ≡ false) → both u (same p w) ≡ false
    go false a v d k q f = refl
    go true a true d k q f = absurd (let z : b ≡ c = eqb-true b c a in let y : no (eqb b 34) ≡ true = (rw z k) in false≢true (rw d at y))
    go true a false d k q f = f q

-- a test of octets that fails of a quote
quoted-every : (f : ℕ → Bool) (p : List ℕ) → f 34 ≡ false → every no_quote p ≡ false → every f p ≡ false
unfolding every
quoted-every f [] h e = absurd (false≢true (sym e))
quoted-every f (b ∷ p) h e = go (eqb b 34) refl e (λ q. quoted-every f p h q)
  where
    go : (u : Bool) → eqb b 34 ≡ u → both (no u) (every no_quote p) ≡ false → (every no_quote p ≡ false → every f p ≡ false) → both (f b) (every f p) ≡ false
    go true a q g = let z : b ≡ 34 = eqb-true b 34 a in rw (z, h)
    go false a q g = rw (g q) (never (f b))

quote_digit : is_digit 34 ≡ false
unfolding is_digit
quote_digit = refl

quote_follows : (a : ℕ) → may_follow a 34 ≡ false
unfolding may_follow is_alnum is_letter is_lower is_upper is_digit
quote_follows a = refl

quote_lower : is_lower 34 ≡ false
unfolding is_lower
quote_lower = refl

quoted-number : (p : List ℕ) → every no_quote p ≡ false → is_number p ≡ false
quoted-number [] e = number-nil
quoted-number (b ∷ []) e = number-cons b [] ∙ go (eqb b 48) refl (quoted-every is_digit (b ∷ []) quote_digit e)
  where
    plain : b ≡ 48 → every no_quote (b ∷ []) ≡ true
    plain z = rw (every-cons no_quote b [], z, every-nil no_quote)

    go : (u : Bool) → eqb b 48 ≡ u → every is_digit (b ∷ []) ≡ false → pick u (eqb 0 0) (both (is_digit b) (every is_digit [])) ≡ false
    go true a h = absurd (false≢true (sym e ∙ plain (eqb-true b 48 a)))
    go false a h = sym (every-cons is_digit b []) ∙ h
quoted-number (b ∷ c ∷ p) e = number-cons b (c ∷ p) ∙ go (eqb b 48) (quoted-every is_digit (b ∷ c ∷ p) quote_digit e)
  where
    go : (u : Bool) → every is_digit (b ∷ c ∷ p) ≡ false → pick u (eqb (suc (length p)) 0) (both (is_digit b) (every is_digit (c ∷ p))) ≡ false
    go true h = ne_eqb (suc (length p)) 0 (λ z. omega arith)
    go false h = sym (every-cons is_digit b (c ∷ p)) ∙ h

quoted-position : (p : List ℕ) → every no_quote p ≡ false → is_position p ≡ false
unfolding is_position
quoted-position p e = rw (quoted-number p e)

quoted-minus : (p : List ℕ) → every no_quote p ≡ false → both (eqb (octet p 0) 45) (is_position (drop 1 p)) ≡ false
quoted-minus [] e = absurd (false≢true (sym e ∙ every-nil no_quote))
quoted-minus (b ∷ p) e = go (eqb b 45) refl
  where
    rest : b ≡ 45 → every no_quote p ≡ false
    rest z = sym (every-cons no_quote b p ∙ rw z) ∙ e

    go : (u : Bool) → eqb b 45 ≡ u → both u (is_position p) ≡ false
    go true a = quoted-position p (rest (eqb-true b 45 a))
    go false a = refl

quoted-from : (a : ℕ) (p : List ℕ) → every no_quote p ≡ false → name_from a p ≡ false
unfolding every name_from
quoted-from a [] e = absurd (false≢true (sym e))
quoted-from a (b ∷ p) e = go (eqb b 34) refl e (λ q. quoted-from b p q)
  where
    go : (u : Bool) → eqb b 34 ≡ u → both (no u) (every no_quote p) ≡ false → (every no_quote p ≡ false → name_from b p ≡ false) → both (may_follow a b) (name_from b p) ≡ false
    go true h q f = let z : b ≡ 34 = eqb-true b 34 h in rw (z, quote_follows a)
    go false h q f = rw (f q) (never (may_follow a b))

quoted-name : (p : List ℕ) → every no_quote p ≡ false → is_name p ≡ false
unfolding every is_name
quoted-name [] e = refl
quoted-name (b ∷ p) e = go (eqb b 34) refl e
  where
    go : (u : Bool) → eqb b 34 ≡ u → both (no u) (every no_quote p) ≡ false → both (is_lower b) (name_from b p) ≡ false
    go true h q = let z : b ≡ 34 = eqb-true b 34 h in rw (z, quote_lower)
    go false h q = rw (quoted-from b p q) (never (is_lower b))

plain_word : every no_quote (42 ∷ []) ≡ true
unfolding every
plain_word = refl

plain_nought : every no_quote (48 ∷ []) ≡ true
unfolding every
plain_nought = refl

quoted_id : (p : List ℕ) → every no_quote p ≡ false → id_of p ≡ None
unfolding id_of
quoted_id p e = rw (quoted-same p (42 ∷ []) e plain_word, quoted-same p (48 ∷ []) e plain_nought, quoted-position p e, quoted-minus p e, quoted-name p e)

-- no piece has a quote
unfoldable plain_pieces : List (List ℕ) → Bool
plain_pieces [] = true
plain_pieces (p ∷ ps) = let r = plain_pieces ps in both (every no_quote p) r

quoted-ids : (ps : List (List ℕ)) → plain_pieces ps ≡ false → ids_of ps ≡ None
unfolding ids_of plain_pieces
quoted-ids [] e = absurd (false≢true (sym e))
quoted-ids (p ∷ ps) e = go (every no_quote p) refl e (λ q. quoted-ids ps q)
  where
    both-none : (o : Option Id) → bind o (λ i. consed i None) ≡ None
    both-none None = refl
    both-none (Some i) = refl

    go : (u : Bool) → every no_quote p ≡ u → both u (plain_pieces ps) ≡ false → (plain_pieces ps ≡ false → ids_of ps ≡ None) → bind (id_of p) (λ i. consed i (ids_of ps)) ≡ None
    go false h q f = rw (quoted_id p h)
    go true h q f = rw (f q) (both-none (id_of p))

plain-onto : (b : ℕ) (ps : List (List ℕ)) → plain_pieces (onto_first b ps) ≡ both (no_quote b) (plain_pieces ps)
unfolding plain_pieces every
plain-onto b [] = go (eqb b 34)
  where
    go : (u : Bool) → both (both (no u) true) true ≡ both (no u) true
    go true = refl
    go false = refl
plain-onto b (p ∷ ps) = go (eqb b 34)
  where
    go : (u : Bool) → both (both (no u) (every no_quote p)) (plain_pieces ps) ≡ both (no u) (both (every no_quote p) (plain_pieces ps))
    go true = refl
    go false = refl

plain-pieces : (s : List ℕ) → plain_pieces (pieces s) ≡ every no_quote s
unfolding plain_pieces every
plain-pieces [] = rw pieces-nil
plain-pieces (b ∷ s) = ap plain_pieces (pieces-cons b s) ∙ go (eqb b 46) refl (plain-pieces s)
  where
    go : (u : Bool) → eqb b 46 ≡ u → plain_pieces (pieces s) ≡ every no_quote s → plain_pieces (pick u ([] ∷ pieces s) (onto_first b (pieces s))) ≡ both (no (eqb b 34)) (every no_quote s)
    go true h e = let z : b ≡ 46 = eqb-true b 46 h in rw z e
    go false h e = plain-onto b (pieces s) ∙ ap (both (no_quote b)) e

-- a text with a double quote anywhere is no reference
pub quoted_no_reference : (s : List ℕ) → every no_quote s ≡ false → read_reference s ≡ None
unfolding read_reference
quoted_no_reference s e = quoted-ids (pieces s) (plain-pieces s ∙ e)

-- so a quoted reference needs no undoubling
pub undoubled-reference : (s : List ℕ) → read_reference (undoubled s) ≡ read_reference s
undoubled-reference s = go (every no_quote s) refl
  where
    go : (u : Bool) → every no_quote s ≡ u → read_reference (undoubled s) ≡ read_reference s
    go true e = ap read_reference (undoubled-plain s e)
    go false e = quoted_no_reference (undoubled s) (undoubled-quoted s e) ∙ sym (quoted_no_reference s e)
