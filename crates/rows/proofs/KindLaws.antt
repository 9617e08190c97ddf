-- Kinds of rows, for the layers above.
use mathlib.Core.Path.{◌≡◌, refl, sym, ◌∙◌}
use mathlib.Core.List.{List}
use mathlib.Core.Bool.{Bool, true, false, false≢true}
use mathlib.Core.Logic.{◌⊎◌, ⊎_elim, inl, inr}
use Prim.Native.Nat.{ℕ, ◌≤◌, ◌<◌, ◌+◌}
use native.Mathlib.Omega.{arith}
use borrow.Author.Tests.{leb-true, le-leb, eqb-true, eqb-false}
use lib.Dec.{leb, eqb}
use lib.ListN.{length}
use Rattle.octets.specs.Pick.{pick, either}
use Rattle.octets.specs.Text.{within}
use Rattle.octets.proofs.Laws.{both_true}
use Rattle.rows.specs.Row.{kind_at, count_at, name_width, behind_name, element_at, type_row_at, is_type_kind, is_member, is_group, is_list, row_named, names_row}
use Rattle.rows.specs.Row.{named_at, row_size, members_at, bit_names_at, follower_kind, followers_at, stands_as, is_follower}
use Rattle.rows.specs.Inner.Sizes.{type_row_size, WholeName, WholeFollower}

pub list_kinds : (k : ℕ) → is_list k ≡ either (eqb k 14) (eqb k 15)
unfolding is_list
list_kinds k = refl

pub member-kind : (k : ℕ) → is_member k ≡ true → (k ≡ 16) ⊎ (k ≡ 21)
unfolding is_member
member-kind k e = go (eqb k 16) refl (eqb k 21) refl e
  where
    go : (x : Bool) → eqb k 16 ≡ x → (y : Bool) → eqb k 21 ≡ y → either x y ≡ true → (k ≡ 16) ⊎ (k ≡ 21)
    go true q y r h = inl (eqb-true k 16 q)
    go false q true r h = inr (eqb-true k 21 r)
    go false q false r h = absurd (false≢true h)

-- the kind of a type is no member's
pub member_no_type : (k : ℕ) → is_member k ≡ true → is_type_kind k ≡ false
unfolding is_type_kind
member_no_type k e = ⊎_elim (λ (h : k ≡ 16). rw h) (λ (h : k ≡ 21). rw h) (member-kind k e)

pub type_no_member : (k : ℕ) → is_type_kind k ≡ true → is_member k ≡ true → ⊥
type_no_member k e m = false≢true (sym (member_no_type k m) ∙ e)

pub member_no_group : (k : ℕ) → is_member k ≡ true → is_group k ≡ false
unfolding is_group
member_no_group k e = ⊎_elim (λ (h : k ≡ 16). rw h) (λ (h : k ≡ 21). rw h) (member-kind k e)

pub member_no_list : (k : ℕ) → is_member k ≡ true → is_list k ≡ false
unfolding is_list
member_no_list k e = ⊎_elim (λ (h : k ≡ 16). rw h) (λ (h : k ≡ 21). rw h) (member-kind k e)

list-kind : (k : ℕ) → is_list k ≡ true → (k ≡ 14) ⊎ (k ≡ 15)
unfolding is_list
list-kind k e = go (eqb k 14) refl (eqb k 15) refl e
  where
    go : (x : Bool) → eqb k 14 ≡ x → (y : Bool) → eqb k 15 ≡ y → either x y ≡ true → (k ≡ 14) ⊎ (k ≡ 15)
    go true q y r h = inl (eqb-true k 14 q)
    go false q true r h = inr (eqb-true k 15 r)
    go false q false r h = absurd (false≢true h)

group_kind : (k : ℕ) → is_group k ≡ true → (k ≡ 12) ⊎ (k ≡ 13)
unfolding is_group
group_kind k e = go (eqb k 12) refl (eqb k 13) refl e
  where
    go : (x : Bool) → eqb k 12 ≡ x → (y : Bool) → eqb k 13 ≡ y → either x y ≡ true → (k ≡ 12) ⊎ (k ≡ 13)
    go true q y r h = inl (eqb-true k 12 q)
    go false q true r h = inr (eqb-true k 13 r)
    go false q false r h = absurd (false≢true h)

-- lists and groups are types, and no row is both
pub list-type : (k : ℕ) → is_list k ≡ true → is_type_kind k ≡ true
unfolding is_type_kind
list-type k e = ⊎_elim (λ (h : k ≡ 14). rw h) (λ (h : k ≡ 15). rw h) (list-kind k e)

pub list_no_group : (k : ℕ) → is_list k ≡ true → is_group k ≡ false
unfolding is_group
list_no_group k e = ⊎_elim (λ (h : k ≡ 14). rw h) (λ (h : k ≡ 15). rw h) (list-kind k e)

pub group_type : (k : ℕ) → is_group k ≡ true → is_type_kind k ≡ true
unfolding is_type_kind
group_type k e = ⊎_elim (λ (h : k ≡ 12). rw h) (λ (h : k ≡ 13). rw h) (group_kind k e)

-- ---- rows that follow another
-- of a kind of rows: a type's, or one that follows another
pub kind-of_row : (k : ℕ) → (row_size k ≡ 0 → ⊥) → is_follower k ≡ false → is_type_kind k ≡ true
unfolding row_size is_group is_list is_follower is_type_kind
kind-of_row k some other =
    go (within 1 11 k) refl (eqb k 12) refl (eqb k 13) refl (eqb k 14) refl (eqb k 15) refl (eqb k 17) (within 19 20 k) (is_member k) (eqb k 18)
    other some
  where
    in_range : 1 ≤ k → k ≤ 15 → either (within 1 15 k) false ≡ true
    in_range a b = rw (le-leb 1 k a, le-leb k 15 b)

    either_true : (x : Bool) → either x true ≡ true
    either_true true = refl
    either_true false = refl

    go : (a : Bool) → within 1 11 k ≡ a → (b : Bool) → eqb k 12 ≡ b → (c : Bool) → eqb k 13 ≡ c → (d : Bool) → eqb k 14 ≡ d → (e : Bool) → eqb k 15 ≡ e
        → (n g m f : Bool) → either m f ≡ false
        → (◌≡◌ {A = ℕ} (pick a 1 (pick (either b c) 2 (pick (either d e) 3 (pick m (name_width k + 15) (pick n 2 (pick f 26 (pick g 1 0))))))) 0 → ⊥)
        → either (within 1 15 k) (either n g) ≡ true
    go a p b q c r d s e u true g m f h z = either_true (within 1 15 k)
    go a p b q c r d s e u false true m f h z = either_true (within 1 15 k)
    go true a b _ c _ d _ e _ false false m f h z =
        let w = both_true (leb 1 k) (leb k 11) a in let l = leb-true 1 k w.0 in let m = leb-true k 11 w.1 in in_range (omega arith) (omega arith)
    go false a true b c _ d _ e _ false false m f h z = let q = eqb-true k 12 b in in_range (omega arith) (omega arith)
    go false a false b true c d _ e _ false false m f h z = let q = eqb-true k 13 c in in_range (omega arith) (omega arith)
    go false a false b false c true d e _ false false m f h z = let q = eqb-true k 14 d in in_range (omega arith) (omega arith)
    go false a false b false c false d true e false false m f h z = let q = eqb-true k 15 e in in_range (omega arith) (omega arith)
    go false a false b false c false d false e false false true f h z = absurd (false≢true (sym h))
    go false a false b false c false d false e false false false true h z = absurd (false≢true (sym h))
    go false a false b false c false d false e false false false false h z = absurd (z refl)

pub member_or_bit : (k : ℕ) → is_follower k ≡ true → (is_member k ≡ true) ⊎ (k ≡ 18)
unfolding is_follower
member_or_bit k e = go (is_member k) refl (eqb k 18) refl e
  where
    go : (x : Bool) → is_member k ≡ x → (y : Bool) → eqb k 18 ≡ y → either x y ≡ true → (is_member k ≡ true) ⊎ (k ≡ 18)
    go true q y r h = inl q
    go false q true r h = inr (eqb-true k 18 r)
    go false q false r h = absurd (false≢true h)

pub member-follows : (k : ℕ) → is_member k ≡ true → is_follower k ≡ true
unfolding is_follower
member-follows k e = rw e

pub member_not_bit : (k : ℕ) → is_member k ≡ true → k ≡ 18 → ⊥
member_not_bit k e h = ⊎_elim (λ (m : k ≡ 16). omega arith) (λ (m : k ≡ 21). omega arith) (member-kind k e)

-- the octets of a type row are those of a row of its kind; a row that follows another is none
pub type-row_size : (k : ℕ) → is_follower k ≡ false → type_row_size k ≡ row_size k
unfolding type_row_size row_size is_follower
type-row_size k e = go (is_member k) (eqb k 18) e
  where
    go : (x y : Bool) → either x y ≡ false
        → ◌≡◌ {A = ℕ} (pick (within 1 11 k) 1 (pick (is_group k) 2 (pick (is_list k) 3 (pick (eqb k 17) 2 (pick (within 19 20 k) 1 0)))))
        (pick (within 1 11 k) 1 (pick (is_group k) 2 (pick (is_list k) 3 (pick x (name_width k + 15)
        (pick (eqb k 17) 2 (pick y 26 (pick (within 19 20 k) 1 0)))))))
    go true y h = absurd (false≢true (sym h))
    go false true h = absurd (false≢true (sym h))
    go false false h = refl

pub follower_unsized : (k : ℕ) → is_follower k ≡ true → type_row_size k ≡ 0
unfolding type_row_size is_group is_list
follower_unsized k e =
    ⊎_elim
    (λ (m : is_member k ≡ true). ⊎_elim (λ (h : k ≡ 16). rw h) (λ (h : k ≡ 21). rw h) (member-kind k m))
    (λ (h : k ≡ 18). rw h)
    (member_or_bit k e)

-- ---- the sizes of rows that follow another
pub behind-name : (t : List ℕ) (p : ℕ) → behind_name t p ≡ p + (1 + name_width (kind_at t p))
unfolding behind_name
behind-name t p = refl

pub wide_name : (k : ℕ) → 24 ≤ name_width k
unfolding name_width
wide_name k = go (eqb k 21)
  where
    go : (x : Bool) → 24 ≤ pick x 48 24
    go true = omega arith
    go false = omega arith

module _ (t : List ℕ) (p : ℕ) where
  pub member-size : is_member (kind_at t p) ≡ true → p + row_size (kind_at t p) ≡ behind_name t p + 14
  unfolding row_size is_group is_list is_member behind_name name_width
  member-size e = ⊎_elim (λ (h : kind_at t p ≡ 16). rw h (omega arith)) (λ (h : kind_at t p ≡ 21). rw h (omega arith)) (member-kind (kind_at t p) e)

  bit_size_lem : kind_at t p ≡ 18 → p + row_size (kind_at t p) ≡ behind_name t p + 1
  unfolding row_size is_group is_list is_member behind_name name_width
  bit_size_lem e = rw e (omega arith)

  -- a row that follows another ends behind its name
  behind : is_follower (kind_at t p) ≡ true → behind_name t p + 1 ≤ p + row_size (kind_at t p)
  behind f = ⊎_elim (λ m. let s = member-size m in omega arith) (λ k. let s = bit_size_lem k in omega arith) (member_or_bit (kind_at t p) f)

  pub whole-follower : is_follower (kind_at t p) ≡ true → p + row_size (kind_at t p) ≤ length t → WholeFollower t p
  whole-follower f l =
      let s = behind f in
      let b = behind-name t p in
      let w = wide_name (kind_at t p) in
      record { follows = f; least = omega arith; inside = l }

  module _ (whole : WholeFollower t p) where
    pub follower-name : WholeName t p
    follower-name =
        let l = behind whole.follows in
        let i = whole.inside in
        let b = behind-name t p in
        let w = wide_name (kind_at t p) in
        record { least = omega arith; inside = omega arith }

    pub follower-member : is_member (kind_at t p) ≡ true → behind_name t p + 14 ≤ length t
    follower-member m = let l = whole.inside in let s = member-size m in omega arith

-- ---- the kind as which a row stands behind another
stands_cases : (k : ℕ) → ((k ≡ 21) × (stands_as k ≡ 16)) ⊎ (stands_as k ≡ k)
unfolding stands_as
stands_cases k = go (eqb k 21) refl
  where
    go : (x : Bool) → eqb k 21 ≡ x → ((k ≡ 21) × (pick x 16 k ≡ 16)) ⊎ (pick x 16 k ≡ k)
    go true e = inl (eqb-true k 21 e, refl)
    go false e = inr refl

pub stands-member : (k : ℕ) → stands_as k ≡ 16 → is_member k ≡ true
unfolding is_member
stands-member k e =
    ⊎_elim (λ w. let h : k ≡ 21 = w.0 in rw h) (λ (h : stands_as k ≡ k). let f : k ≡ 16 = sym h ∙ e in rw f) (stands_cases k)

pub stands_bit : (k : ℕ) → stands_as k ≡ 18 → k ≡ 18
stands_bit k e = ⊎_elim (λ w. absurd (let z = w.1 in omega arith)) (λ h. sym h ∙ e) (stands_cases k)

pub stands-short : (k : ℕ) → stands_as k ≡ 21 → ⊥
unfolding stands_as
stands-short k e = go (eqb k 21) refl e
  where
    go : (x : Bool) → eqb k 21 ≡ x → pick x 16 k ≡ 21 → ⊥
    go true q h = omega arith
    go false q h = eqb-false k 21 q h

pub stands-follower : (k j : ℕ) → stands_as k ≡ j → is_follower j ≡ true → is_follower k ≡ true
unfolding is_follower is_member
stands-follower k j e f =
    ⊎_elim (λ w. let h : k ≡ 21 = w.0 in rw h) (λ (h : stands_as k ≡ k). let g : k ≡ j = sym h ∙ e in rw g f) (stands_cases k)

-- as many members follow a group as it counts; as many names a BIT STRING with names
pub group_followers : (t : List ℕ) (p : ℕ) → is_group (kind_at t p) ≡ true → followers_at t p ≡ members_at t p
unfolding followers_at follower_kind members_at
group_followers t p h = rw h

pub member-follower : (t : List ℕ) (p b : ℕ) → b < members_at t p → b < followers_at t p
unfolding members_at followers_at follower_kind
member-follower t p b = go (is_group (kind_at t p)) (eqb (kind_at t p) 17)
  where
    go : (x y : Bool) → b < pick x (count_at t p) 0 → b < pick (eqb (pick x 16 (pick y 18 0)) 0) 0 (count_at t p)
    go true y h = h
    go false y h = absurd (omega arith)

pub named_followers : (t : List ℕ) (p : ℕ) → kind_at t p ≡ 17 → followers_at t p ≡ bit_names_at t p
unfolding followers_at follower_kind bit_names_at is_group
named_followers t p h = rw h

-- ---- the row that a row names
module _ (t : List ℕ) (p : ℕ) where
  pub list-names : is_list (kind_at t p) ≡ true → names_row t p ≡ true
  unfolding names_row row_named
  list-names h = rw h

  pub list-named : is_list (kind_at t p) ≡ true → named_at t p ≡ element_at t p
  unfolding named_at row_named
  list-named h = rw h

  pub member-names : is_member (kind_at t p) ≡ true → names_row t p ≡ true
  unfolding names_row row_named
  member-names h = rw (member_no_list (kind_at t p) h, h)

  pub member-named : is_member (kind_at t p) ≡ true → named_at t p ≡ type_row_at t p
  unfolding named_at row_named
  member-named h = rw (member_no_list (kind_at t p) h, h)

  module _ (h : is_list (kind_at t p) ≡ false) (n : is_member (kind_at t p) ≡ true → ⊥) where
    none : is_member (kind_at t p) ≡ false
    none = go (is_member (kind_at t p)) refl
      where
        go : (x : Bool) → is_member (kind_at t p) ≡ x → x ≡ false
        go true e = absurd (n e)
        go false e = refl

    pub names-none : names_row t p ≡ false
    unfolding names_row row_named
    names-none = rw (h, none)

    pub named_none : named_at t p ≡ 0
    unfolding named_at row_named
    named_none = rw (h, none)
