-- Rows that pass the clauses on row numbers and on where members stand name later rows.
use mathlib.Core.Path.{◌≡◌, refl, sym, ap, ◌∙◌}
use mathlib.Core.Bool.{Bool, true, false}
use mathlib.Core.Logic.{◌⊎◌, ⊎_elim, inl, inr}
use mathlib.Core.List.{List, [], ◌∷◌}
use Prim.Native.Nat.{ℕ, zero, suc, ◌<◌, ◌+◌, ◌-◌}
use native.Mathlib.Omega.{arith}
use borrow.Author.Tests.{ltb-true, eqb-true, eqb-false}
use lib.ListN.{length, get_or, drop, length-drop}
use lib.Seq.{drop-cons, get_or-drop}
use lib.Dec.{ltb, eqb}
use Rattle.octets.specs.Pick.{pick}
use Rattle.octets.proofs.Laws.{both_true, all-at}
use Rattle.rows.proofs.KindLaws.{type_no_member, member-kind, member_or_bit, stands-member, stands_bit, stands-follower, member-names, group_followers}
use Rattle.rows.proofs.KindLaws.{named_followers}
use Rattle.rows.specs.Row.{kind_at, count_at, row_at, is_type_kind, is_member, names_row, named_at, follower_kind, followers_at, stands_as, is_follower, is_group, members_at}
use Rattle.rows.specs.Row.{bit_names_at}
use Rattle.clauses.specs.Clauses.{every_row, is_type, later_type, points_later, standing, followers_stand, member_place}
use Rattle.clauses.specs.Inner.Work.{member_type, Later}

pick_true : (b x y : Bool) → pick b x y ≡ true → ((b ≡ true) × (x ≡ true)) ⊎ ((b ≡ false) × (y ≡ true))
pick_true true x y e = inl (refl, e)
pick_true false x y e = inr (refl, e)

-- a row of a type, and one that is named
pub type_row : (t s : List ℕ) (j : ℕ) → is_type t s j ≡ true → (j < length s) × (is_member (kind_at t (row_at s j)) ≡ true → ⊥)
unfolding is_type
type_row t s j e =
    let v = both_true (ltb j (length s)) (is_type_kind (kind_at t (row_at s j))) e in
    (ltb-true j (length s) v.0, type_no_member (kind_at t (row_at s j)) v.1)

pub later-row : (t s : List ℕ) (i j : ℕ) → later_type t s i j ≡ true → (i < j) × (is_type t s j ≡ true)
unfolding later_type
later-row t s i j e = let w = both_true (ltb i j) (is_type t s j) e in (ltb-true i j w.0, w.1)

later : (t s : List ℕ) (i c : ℕ) → later_type t s i c ≡ true → (i < c) × (c < length s)
later t s i c e = let w = later-row t s i c e in (w.0, (type_row t s c w.1).0)

-- a row that names one names a later row of a type
pub points_named : (t s : List ℕ) (i : ℕ) → names_row t (row_at s i) ≡ true → points_later t s i ≡ true → later_type t s i (named_at t (row_at s i)) ≡ true
unfolding points_later
points_named t s i k e = rw k at e

-- as many rows follow as are due
stand-due : (t : List ℕ) (ps : List ℕ) (k due j : ℕ) → standing t k due ps ≡ true → j < due → (j < length ps) × (stands_as (kind_at t (row_at ps j)) ≡ k)
unfolding standing
stand-due t [] k due j e h = absurd (let z = eqb-true due 0 e in omega arith)
stand-due t (p ∷ ps) k due zero e h =
    ⊎_elim
    (λ w. absurd (let z = eqb-true due 0 w.0 in omega arith))
    (λ w. (omega arith, eqb-true (stands_as (kind_at t p)) k (both_true (eqb (stands_as (kind_at t p)) k) _ w.1).0))
    (pick_true (eqb due 0) _ _ e)
stand-due t (p ∷ ps) k due (suc j) e h =
    ⊎_elim
    (λ w. absurd (let z = eqb-true due 0 w.0 in omega arith))
    (λ w. let v = stand-due t ps k (due - 1) j (both_true (eqb (stands_as (kind_at t p)) k) _ w.1).1 (omega arith) in (omega arith, v.1))
    (pick_true (eqb due 0) _ _ e)

-- the rows that follow one are of a kind that follows, and none follow those
pub due-follower : (t : List ℕ) (p : ℕ) → 0 < followers_at t p → is_follower (follower_kind (kind_at t p)) ≡ true
unfolding followers_at follower_kind is_follower is_member
due-follower t p h = go (is_group (kind_at t p)) (eqb (kind_at t p) 17) h
  where
    go : (x y : Bool) → 0 < pick (eqb (pick x 16 (pick y 18 0)) 0) 0 (count_at t p) → is_follower (pick x 16 (pick y 18 0)) ≡ true
    go true y l = refl
    go false true l = refl
    go false false l = absurd (omega arith)

pub no_followers : (t : List ℕ) (p : ℕ) → is_follower (kind_at t p) ≡ true → followers_at t p ≡ 0
unfolding followers_at follower_kind is_group
no_followers t p e =
    ⊎_elim
    (λ m. ⊎_elim (λ (h : kind_at t p ≡ 16). rw h) (λ (h : kind_at t p ≡ 21). rw h) (member-kind (kind_at t p) m))
    (λ (h : kind_at t p ≡ 18). rw h)
    (member_or_bit (kind_at t p) e)

-- the rows from i on stand as they should
record Stands (t ps : List ℕ) : Type 0 where
  pub kind : ℕ
  pub due : ℕ
  pub follower : 0 < due → is_follower kind ≡ true
  pub stand : standing t kind due ps ≡ true

stand-at : (t s : List ℕ) (k due i : ℕ) → (0 < due → is_follower k ≡ true) → standing t k due s ≡ true → i < length s → Stands t (drop i s)
unfolding standing
stand-at t [] k due i f e h = absurd (omega arith)
stand-at t (p ∷ ps) k due zero f e h = record { kind = k; due = due; follower = f; stand = e }
stand-at t (p ∷ ps) k due (suc i) f e h =
    ⊎_elim
    (λ w. stand-at t ps (follower_kind (kind_at t p)) (followers_at t p) i (due-follower t p) (both_true (is_type_kind (kind_at t p)) _ w.1).1 (omega arith))
    (λ w. stand-at t ps k (due - 1) i (λ l. f (omega arith)) (both_true (eqb (stands_as (kind_at t p)) k) _ w.1).1 (omega arith))
    (pick_true (eqb due 0) _ _ e)

-- only a SEQUENCE or CHOICE has members, only a BIT STRING with names has names of bits
module _ (t : List ℕ) (p j : ℕ) where
  group_of : j < members_at t p → is_group (kind_at t p) ≡ true
  unfolding members_at
  group_of h = go (is_group (kind_at t p)) h
    where
      go : (x : Bool) → j < pick x (count_at t p) 0 → x ≡ true
      go true l = refl
      go false l = absurd (omega arith)

  named-of : j < bit_names_at t p → kind_at t p ≡ 17
  unfolding bit_names_at
  named-of h = go (eqb (kind_at t p) 17) refl h
    where
      go : (x : Bool) → eqb (kind_at t p) 17 ≡ x → j < pick x (count_at t p) 0 → kind_at t p ≡ 17
      go true e l = eqb-true (kind_at t p) 17 e
      go false e l = absurd (omega arith)

pub after_group : (k : ℕ) → is_group k ≡ true → follower_kind k ≡ 16
unfolding follower_kind
after_group k e = rw e

pub after-named : (k : ℕ) → k ≡ 17 → follower_kind k ≡ 18
unfolding follower_kind is_group
after-named k e = rw e

module _ (t s : List ℕ) (stands : followers_stand t s ≡ true) where
  -- the rows that row i has behind it follow it
  behind : (i : ℕ) → i < length s → 0 < followers_at t (row_at s i)
      → standing t (follower_kind (kind_at t (row_at s i))) (followers_at t (row_at s i)) (drop (suc i) s) ≡ true
  unfolding standing followers_stand
  behind i h l =
      let w = stand-at t s 0 0 i (λ z. absurd (omega arith)) stands h in
      let e : standing t w.kind w.due (row_at s i ∷ drop (suc i) s) ≡ true = rw (drop-cons s i 0 h) at w.stand in
      ⊎_elim
      (λ v. (both_true (is_type_kind (kind_at t (row_at s i))) _ v.1).1)
      (λ v.
      let k : stands_as (kind_at t (row_at s i)) ≡ w.kind = eqb-true _ w.kind (both_true (eqb (stands_as (kind_at t (row_at s i))) w.kind) _ v.1).0 in
      absurd (let z = no_followers t (row_at s i) (stands-follower (kind_at t (row_at s i)) w.kind k (w.follower (some_due w.due v.0))) in omega arith))
      (pick_true (eqb w.due 0) _ _ e)
    where
      some_due : (n : ℕ) → eqb n 0 ≡ false → 0 < n
      some_due n q = let z = eqb-false n 0 q in omega arith

  pub follower-follows : (i : ℕ) → i < length s → (j : ℕ) → j < followers_at t (row_at s i)
      → (i + 1 + j < length s) × (stands_as (kind_at t (member_place s i j)) ≡ follower_kind (kind_at t (row_at s i)))
  follower-follows i h j l =
      let d : 0 < followers_at t (row_at s i) = omega arith in
      let w = stand-due t (drop (suc i) s) (follower_kind (kind_at t (row_at s i))) (followers_at t (row_at s i)) j (behind i h d) l in
      let q : suc i + j ≡ i + 1 + j = omega arith in
      let n = length-drop (suc i) s in
      (omega arith, ap (λ (x : ℕ). stands_as (kind_at t (get_or s x 0))) (sym q) ∙ ap (λ (x : ℕ). stands_as (kind_at t x)) (sym (get_or-drop (suc i) s j 0)) ∙ w.1)

  pub member-follows : (i : ℕ) → i < length s → (j : ℕ) → j < members_at t (row_at s i)
      → (i + 1 + j < length s) × (is_member (kind_at t (member_place s i j)) ≡ true)
  member-follows i h j l =
      let g = group_of t (row_at s i) j l in
      let m = group_followers t (row_at s i) g in
      let w = follower-follows i h j (omega arith) in
      (w.0, stands-member (kind_at t (member_place s i j)) (w.1 ∙ after_group (kind_at t (row_at s i)) g))

  pub bit_follows : (i : ℕ) → i < length s → (j : ℕ) → j < bit_names_at t (row_at s i) → (i + 1 + j < length s) × (kind_at t (member_place s i j) ≡ 18)
  bit_follows i h j l =
      let k = named-of t (row_at s i) j l in
      let m = named_followers t (row_at s i) k in
      let w = follower-follows i h j (omega arith) in
      (w.0, stands_bit (kind_at t (member_place s i j)) (w.1 ∙ after-named (kind_at t (row_at s i)) k))

module _ (t s : List ℕ) (points : every_row (points_later t s) s ≡ true) (stands : followers_stand t s ≡ true) where
  named-row : (i : ℕ) → i < length s → names_row t (row_at s i) ≡ true → later_type t s i (named_at t (row_at s i)) ≡ true
  named-row i h k = points_named t s i k (all-at (points_later t s) (length s) i points h)

  pub is_later : Later t s
  is_later = record {
    of_row = λ i h k. later t s i (named_at t (row_at s i)) (named-row i h k);
    of-member = λ i h j l.
        let f = member-follows t s stands i h j l in
        let w = later t s (i + 1 + j) (member_type t s i j) (named-row (i + 1 + j) f.0 (member-names t (member_place s i j) f.1)) in
        (omega arith, w.1);
  }
