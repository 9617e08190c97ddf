-- What the rows of an admitted table say: members after their row, the type of a row by its kind, what an identifier leads to on it.
use mathlib.Core.Path.{◌≡◌, refl, sym, ap, ◌∙◌}
use mathlib.Core.Bool.{Bool, true, false, false≢true}
use Rattle.std.specs.Prelude.{None, Some}
use mathlib.Core.List.{List}
use Prim.Native.Nat.{ℕ, ◌≤◌, ◌<◌, ◌+◌}
use native.Mathlib.Omega.{arith}
use borrow.Author.Tests.{eqb-true, eq-eqb, ne_eqb, ltb-true, ltb-false}
use lib.ListN.{length}
use lib.Dec.{ltb, eqb}
use Rattle.octets.specs.Pick.{pick}
use Rattle.octets.specs.Octets.{same}
use Rattle.octets.proofs.Laws.{both_true, all-at}
use Rattle.octets.proofs.TextLaws.{same-is}
use Rattle.rules.proofs.NameSteps.{same_self}
use Rattle.der.specs.Kind as kind
use Rattle.rows.specs.Paper.{table_limits}
use Rattle.rows.specs.Row.{name_at, kind_at, named_at, members_at, is_list, unfilled}
use Rattle.clauses.specs.Clauses.{every_row, member_place, chain_fits}
use Rattle.rows.proofs.KindLaws.{list-names}
use Rattle.types.proofs.TypeCases.{typed_cases, typed-sequence, typed-choice, typed-list}
use Rattle.types.specs.Types.{Ty, sequence, choice, list_of, typed}
use Rattle.types.specs.Begins.{alternatives_differ, tags_apart}
use Rattle.types.specs.Admitted.{tags_differ, rows_formed, rows_named, members_agree, types_fit, admitted_rows, admitted}
use Rattle.types.proofs.NameLaws.{unfilled-differ}
use Rattle.table.specs.Inner.Rows.{table_rows, place_at, type_at, members_after}
use Rattle.table.specs.Inner.Words.{Worded}
use Rattle.reference.specs.Reference.{Index, name, index}
use Rattle.reference.specs.Allowed.{of_type, under_members, indexed, under}
use Rattle.reference.specs.Inner.Work.{named_of}
pub use Rattle.rules.proofs.MemberRows.{row_fits_lem, member-here, member-kind, member-fits}

-- ---- members after their row
module _ (t w : List ℕ) (row : ℕ) (ok : Worded t w) (here : row < length (table_rows t)) where
  pub list-here : is_list (kind_at t (place_at t row)) ≡ true → named_at t (place_at t row) < length (table_rows t)
  list-here e = (ok.ready.sound.later.of_row row here (list-names t (place_at t row) e)).1

  module _ (j : ℕ) (one : j < members_at t (place_at t row)) where
    pub type-here : named_at t (place_at t (row + 1 + j)) < length (table_rows t)
    type-here = (ok.ready.sound.later.of-member row here j one).1

-- ---- the type of a row
list-kind : (k : ℕ) → is_list k ≡ true → (eqb k kind.sequence ≡ false) × (eqb k kind.choice ≡ false)
unfolding is_list
list-kind k e = go (eqb k 14) refl (eqb k 15) refl e
  where
    go : (a : Bool) → eqb k 14 ≡ a → (b : Bool) → eqb k 15 ≡ b → pick a true b ≡ true → (eqb k 12 ≡ false) × (eqb k 13 ≡ false)
    go true p b q h = rw (eqb-true k 14 p) (refl, refl)
    go false p true q h = rw (eqb-true k 15 q) (refl, refl)
    go false p false q h = absurd (let z : ◌≡◌ {A = ℕ} 0 1 = cc in omega arith)

module _ (t w : List ℕ) (row : ℕ) (ok : Worded t w) (here : row < length (table_rows t)) where
  abbrev k : ℕ
  k = kind_at t (place_at t row)

  whole : type_at t row ≡ typed t (table_rows t) row (type_at t (named_at t (place_at t row))) (members_after t row)
  whole = ok.ready.sound.step row here

  pub sequence-at : kind_at t (place_at t row) ≡ kind.sequence → type_at t row ≡ sequence (members_after t row)
  sequence-at e = whole ∙ typed-sequence t (table_rows t) row _ _ e

  pub choice-at : kind_at t (place_at t row) ≡ kind.choice → type_at t row ≡ choice (members_after t row)
  choice-at e = whole ∙ typed-choice t (table_rows t) row _ _ e

  pub list_at : is_list (kind_at t (place_at t row)) ≡ true → type_at t row ≡ list_of (kind_at t (place_at t row)) (type_at t (named_at t (place_at t row)))
  list_at e = whole ∙ typed-list t (table_rows t) row _ _ e

  -- ---- what an identifier leads to on it
  pub under-name : (x : List ℕ) → (a b : Bool) → eqb (kind_at t (place_at t row)) kind.sequence ≡ a → eqb (kind_at t (place_at t row)) kind.choice ≡ b
      → under (name x) (of_type (type_at t row)) ≡ pick a (under_members (name x) (members_after t row)) (pick b (under_members (name x) (members_after t row)) None)
  unfolding under
  under-name x a b e f = ap (λ (y : Ty). under (name x) (of_type y)) whole ∙ by_kind ∙ rw (e, f)
    where
      by_kind : under (name x) (of_type (typed t (table_rows t) row (type_at t (named_at t (place_at t row))) (members_after t row)))
          ≡ pick (eqb k kind.sequence) (under_members (name x) (members_after t row)) (pick (eqb k kind.choice) (under_members (name x) (members_after t row)) None)
      by_kind =
          typed_cases t (table_rows t) row (type_at t (named_at t (place_at t row))) (members_after t row)
          (λ (y : Ty). under (name x) (of_type y) ≡ pick (eqb k kind.sequence) (under_members (name x) (members_after t row)) (pick (eqb k kind.choice) (under_members (name x) (members_after t row)) None))
          (λ h. rw (eq-eqb k 12 h)) (λ h. rw h) (λ h. let q = list-kind k h in rw (q.0, q.1)) (λ u v _. rw (ne_eqb k 12 u, ne_eqb k 13 v))

  pub under-list : (i : Index) → is_list (kind_at t (place_at t row)) ≡ true → under (index i) (of_type (type_at t row)) ≡ Some (indexed i (type_at t (named_at t (place_at t row))))
  unfolding under
  under-list i e = ap (λ (y : Ty). under (index i) (of_type y)) (list_at e)

  pub under-other : (i : Index) → is_list (kind_at t (place_at t row)) ≡ false → under (index i) (of_type (type_at t row)) ≡ None
  unfolding under
  under-other i e =
      ap (λ (y : Ty). under (index i) (of_type y)) whole
      ∙ typed_cases t (table_rows t) row (type_at t (named_at t (place_at t row))) (members_after t row) (λ (y : Ty). under (index i) (of_type y) ≡ None)
      (λ _. refl) (λ _. refl) (λ h. absurd (false≢true (sym e ∙ h))) (λ _ _ _. refl)

-- ---- what an admitted table has besides
module _ (t : List ℕ) (ad : admitted table_limits t ≡ true) where
  fit : types_fit table_limits.chain t (table_rows t) ≡ true
  unfolding admitted admitted_rows
  fit =
      let formed = both_true (rows_formed table_limits.rows table_limits.members t (table_rows t)) _ ad in
      let named = both_true (rows_named t (table_rows t)) _ formed.1 in
      (both_true (members_agree t (table_rows t)) _ named.1).1

  module _ (row : ℕ) (here : row < length (table_rows t)) where
    pub chain-at : chain_fits table_limits.chain t (table_rows t) row ≡ true
    unfolding types_fit
    chain-at = all-at (chain_fits table_limits.chain t (table_rows t)) (length (table_rows t)) row (both_true (every_row (chain_fits table_limits.chain t (table_rows t)) (table_rows t)) _ fit).0 here

    tags-at : tags_apart (type_at t row) ≡ true
    unfolding types_fit tags_differ
    tags-at = all-at (tags_differ table_limits.chain t (table_rows t)) (length (table_rows t)) row (both_true (every_row (chain_fits table_limits.chain t (table_rows t)) (table_rows t)) _ fit).1 here

    -- alternatives' tags differ
    pub differ-at : type_at t row ≡ choice (members_after t row) → alternatives_differ (members_after t row) ≡ true
    unfolding tags_apart
    differ-at e = sym (ap tags_apart e) ∙ tags-at

    -- no two members have one name
    pub one-named : (i j : ℕ) (x : List ℕ) → i < members_at t (place_at t row) → j < members_at t (place_at t row) → (i ≡ j → ⊥)
        → named_of t (table_rows t) row x j ≡ true → named_of t (table_rows t) row x i ≡ false
    unfolding named_of
    one-named i j x hi hj other e = go (same (unfilled (name_at t (member_place (table_rows t) row i))) x) refl
      where
        nm : ℕ → List ℕ
        nm a = unfilled (name_at t (member_place (table_rows t) row a))

        both_not : (a b : ℕ) → a < b → b < members_at t (place_at t row) → nm a ≡ nm b → ⊥
        both_not a b l h q =
            let d : same (nm b) (nm a) ≡ false = unfilled-differ table_limits t ad row here a b l h in
            let f : same (nm b) (nm a) ≡ true = ap (λ (y : List ℕ). same y (nm a)) (sym q) ∙ same_self (nm a) in
            absurd (let z : ◌≡◌ {A = Bool} true false = sym f ∙ d in let y : ◌≡◌ {A = ℕ} 0 1 = cc in omega arith)

        go : (u : Bool) → same (nm i) x ≡ u → u ≡ false
        go false q = refl
        go true q = absurd (by (ltb i j) refl)
          where
            alike : nm i ≡ nm j
            alike = same-is (nm i) x q ∙ sym (same-is (nm j) x e)

            by : (u : Bool) → ltb i j ≡ u → ⊥
            by true p = both_not i j (ltb-true i j p) hj alike
            by false p = let h = ltb-false i j p in both_not j i (lower h) hi (sym alike)
              where
                lower : j ≤ i → j < i
                lower h = less (λ z. other (sym z))
                  where
                    less : (j ≡ i → ⊥) → j < i
                    less z = omega arith
