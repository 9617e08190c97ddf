-- Document 02, Q-4: a table admitted before kind 21 reads as it did, so every answer is what it was; each member has one form.
use mathlib.Core.Path.{◌≡◌, refl, sym, ap, ap₂, ◌∙◌, subst}
use mathlib.Core.Bool.{Bool, true, false, false≢true}
use Rattle.std.specs.Prelude.{Option, None, Some}
use Rattle.std.proofs.lemmas.Option.{none-some}
use mathlib.Core.List.{List, [], ◌∷◌}
use Prim.Native.Nat.{ℕ, zero, suc, ◌<◌, ◌+◌, ◌-◌}
use native.Mathlib.Omega.{arith}
use borrow.Author.Tests.{ne_eqb, eqb-false, leb-true, le-leb, ltb-true, ltb-false}
use lib.Dec.{ltb, leb, eqb}
use lib.ListN.{length}
use Rattle.octets.specs.Pick.{pick, both, either, consed}
use Rattle.octets.specs.Octets.{octet, two, part}
use Rattle.octets.specs.Text.{within}
use Rattle.octets.proofs.Laws.{both_true, octet-past}
use Rattle.rows.specs.Limits.{table_fits}
use Rattle.rows.specs.Paper.{table_limits}
use Rattle.rows.specs.Row.{kind_at, name_width, name_at, unfilled, behind_name, is_member, is_list, element_at, row_named, named_at, row_size, rows_from}
use Rattle.rows.specs.Row.{or_zero, or_none, rows, row_at, members_at, bit_names_at, bit_number_at}
use Rattle.clauses.specs.Clauses.{whole_rows}
use Rattle.types.specs.Types.{Member, member_of, NamedBit, Ty, Members, more, members_from, bits_from, typed, type_from, type_at}
use Rattle.types.specs.Admitted.{admitted}
use Rattle.types.specs.Check as table
use Rattle.types.specs.Check.{table_report}
use Rattle.types.proofs.NameLaws.{kinds_same}
use Rattle.value.specs.Paper.{value_limits}
use Rattle.value.specs.Check.{is_stored, storage, value_report}
use Rattle.rules.specs.Rule.{known_rules}
use Rattle.engine.specs.Paper.{limits}
use Rattle.engine.specs.Answer.{question_fits, question_of, ask_report}
use Rattle.engine.specs.Listing.{listing_fits, listing_of, list_report}
use Rattle.demands.specs.Before.{size_before, rows_from_before, rows_before, member_before, named_before, members_before, bits_before, type_from_before, type_before}
use Rattle.demands.specs.Before.{admitted_before, fits_before, table_before, value_before, ask_before, list_before}

-- ---- one row, of another kind than 21
module _ (t : List ℕ) (p : ℕ) (old : kind_at t p ≡ 21 → ⊥) where
  width : name_width (kind_at t p) ≡ 24
  unfolding name_width
  width = rw (ne_eqb (kind_at t p) 21 old)

  behind : behind_name t p ≡ p + 25
  unfolding behind_name
  behind = ap (λ (x : ℕ). p + (1 + x)) width

  at_field : (k m : ℕ) → p + 25 + k ≡ m → octet t (behind_name t p + k) ≡ octet t m
  at_field k m e = ap (λ (x : ℕ). octet t (x + k)) behind ∙ ap (octet t) e

  name-same : unfilled (name_at t p) ≡ unfilled (part t (p + 1) 24)
  name-same = ap (λ (x : ℕ). unfilled (part t (p + 1) x)) width

  default-same : part t (behind_name t p + 6) (octet t (behind_name t p + 5)) ≡ part t (p + 31) (octet t (p + 30))
  default-same =
      let a : behind_name t p + 6 ≡ p + 31 = (let b = behind in omega arith) in
      ap₂ (part t) a (at_field 5 (p + 30) (omega arith))

  member-same : (i : ℕ) → member_of t i p ≡ member_before t i p
  unfolding member_of member_before
  member-same i =
      rw (name-same, at_field 2 (p + 27) (omega arith), at_field 3 (p + 28) (omega arith), at_field 4 (p + 29) (omega arith), default-same)

  named-same : named_at t p ≡ named_before t p
  unfolding named_at row_named named_before is_member
  named-same = rw (ne_eqb (kind_at t p) 21 old, behind) (go (is_list (kind_at t p)) (eqb (kind_at t p) 16))
    where
      go : (x y : Bool) → or_zero (pick x (Some (element_at t p)) (pick (either y false) (Some (two t (p + 25))) None))
          ≡ pick x (element_at t p) (pick y (two t (p + 25)) 0)
      go true y = refl
      go false true = refl
      go false false = refl

-- ---- the rows of a table before are its rows, and none is of kind 21
module _ (t : List ℕ) where
  -- no row of s is of kind 21
  abbrev Old : List ℕ → Type 0
  Old s = (j : ℕ) → j < length s → kind_at t (row_at s j) ≡ 21 → ⊥

  new_unsized : (k : ℕ) → k ≡ 21 → size_before k ≡ 0
  unfolding size_before
  new_unsized k e = rw e

  old_sized : (k : ℕ) → (k ≡ 21 → ⊥) → size_before k ≡ row_size k
  unfolding size_before
  old_sized k n = rw (ne_eqb k 21 n)

  old_more : (p : ℕ) (ps : List ℕ) → (kind_at t p ≡ 21 → ⊥) → Old ps → Old (p ∷ ps)
  old_more p ps f g zero h = f
  old_more p ps f g (suc j) h = g j (omega arith)

  -- s are the rows from a place on, the first of them there
  record Rows (m at : ℕ) (s : List ℕ) : Type 0 where
    pub now : rows_from m t at ≡ Some s
    pub old : Old s
    pub first : 0 < length s → row_at s 0 ≡ at

  none-there : (m at : ℕ) (s : List ℕ) → rows_from m t at ≡ Some s → Some [] ≡ Some s → Rows m at s
  none-there m at s e q =
      let n : 0 ≡ length s = ap (λ (o : Option (List ℕ)). length (or_none o)) q in
      record { now = e; old = λ j h. absurd (omega arith); first = λ h. absurd (omega arith) }

  rows_now : (m at : ℕ) (s : List ℕ) → rows_from_before m t at ≡ Some s → Rows m at s
  unfolding rows_from_before rows_from
  rows_now zero at s e = go (ltb at (length t)) refl e
    where
      go : (x : Bool) → ltb at (length t) ≡ x → pick x None (Some []) ≡ Some s → Rows zero at s
      go true u q = absurd (none-some s q)
      go false u q = none-there zero at s e q
  rows_now (suc m) at s e =
      go (ltb at (length t)) refl (eqb (size_before (kind_at t at)) 0) refl (ltb (length t - at) (size_before (kind_at t at))) refl
      (rows_from_before m t (at + size_before (kind_at t at))) refl e (λ ps r. rows_now m (at + size_before (kind_at t at)) ps r)
    where
      go : (x : Bool) → ltb at (length t) ≡ x → (y : Bool) → eqb (size_before (kind_at t at)) 0 ≡ y
          → (z : Bool) → ltb (length t - at) (size_before (kind_at t at)) ≡ z
          → (o : Option (List ℕ)) → rows_from_before m t (at + size_before (kind_at t at)) ≡ o
          → ◌≡◌ {A = Option (List ℕ)} (pick x (pick y None (pick z None (consed at o))) (Some [])) (Some s)
          → ((ps : List ℕ) → rows_from_before m t (at + size_before (kind_at t at)) ≡ Some ps → Rows m (at + size_before (kind_at t at)) ps)
          → Rows (suc m) at s
      go true u true v z w o r q on = absurd (none-some s q)
      go true u false v true w o r q on = absurd (none-some s q)
      go true u false v false w None r q on = absurd (none-some s q)
      go true u false v false w (Some ps) r q on =
          let other : kind_at t at ≡ 21 → ⊥ = λ h. eqb-false _ _ v (new_unsized (kind_at t at) h) in
          let size = old_sized (kind_at t at) other in
          let is : at ∷ ps ≡ s = ap or_none q in
          record {
            now = rw (u, ← size, v, w, (on ps r).now) q;
            old = subst Old is (old_more at ps other (on ps r).old);
            first = λ h. ap (λ (l : List ℕ). row_at l 0) (sym is);
          }
      go false u y v z w o r q on = none-there (suc m) at s (rw u q) q

  old_rows : whole_rows table_limits.rows (rows_before t) ≡ true → (rows_from_before table_limits.rows t 0 ≡ Some (rows_before t)) × (0 < length (rows_before t))
  unfolding rows_before whole_rows
  old_rows e = go (rows_from_before table_limits.rows t 0) refl e
    where
      go : (o : Option (List ℕ)) → rows_from_before table_limits.rows t 0 ≡ o → within 1 table_limits.rows (length (or_none o)) ≡ true
          → (o ≡ Some (or_none o)) × (0 < length (or_none o))
      go None q w = absurd (false≢true w)
      go (Some s) q w = let l = leb-true 1 (length s) (both_true (leb 1 (length s)) (leb (length s) table_limits.rows) w).0 in (refl, omega arith)

  module _ (whole : whole_rows table_limits.rows (rows_before t) ≡ true) where
    found : Rows table_limits.rows 0 (rows_before t)
    found = rows_now table_limits.rows 0 (rows_before t) (old_rows whole).0

    pub rows_same : rows table_limits.rows t ≡ rows_before t
    unfolding rows
    rows_same = ap or_none found.now

    -- past the last row, row 0 is read
    old_at : (i : ℕ) → kind_at t (row_at (rows_before t) i) ≡ 21 → ⊥
    old_at i = go (ltb i (length (rows_before t))) refl
      where
        go : (x : Bool) → ltb i (length (rows_before t)) ≡ x → kind_at t (row_at (rows_before t) i) ≡ 21 → ⊥
        go true e h = found.old i (ltb-true _ _ e) h
        go false e h =
            found.old 0 (old_rows whole).1
            (ap (kind_at t) (found.first (old_rows whole).1 ∙ octet-past (rows_before t) i (ltb-false _ _ e)) ∙ h)

    -- ---- the types
    members-same : (f g : ℕ → Ty) → ((j : ℕ) → f j ≡ g j) → (i n : ℕ) → members_from f t (rows_before t) i n ≡ members_before g t (rows_before t) i n
    unfolding members_from members_before
    members-same f g e i zero = refl
    members-same f g e i (suc n) =
        let p = row_at (rows_before t) i in
        ap₂ (λ (m : Member) (ms : Members). more m (f (named_at t p)) ms) (member-same t p (old_at i) i) (members-same f g e (i + 1) n)
        ∙ ap (λ (ty : Ty). more (member_before t i p) ty (members_before g t (rows_before t) (i + 1) n)) (e (named_at t p) ∙ ap g (named-same t p (old_at i)))

    bits-same : (i n : ℕ) → bits_from t (rows_before t) i n ≡ bits_before t (rows_before t) i n
    unfolding bits_from bits_before
    bits-same i zero = refl
    bits-same i (suc n) =
        let p = row_at (rows_before t) i in
        ap₂ (λ (x : List ℕ) (bs : List NamedBit). record { name = x; number = bit_number_at t p } ∷ bs) (name-same t p (old_at i)) (bits-same (i + 1) n)

    types_same : (n i : ℕ) → type_from n t (rows_before t) i ≡ type_from_before n t (rows_before t) i
    unfolding type_from type_from_before typed
    types_same zero i = refl
    types_same (suc n) i =
        let p = row_at (rows_before t) i in
        rw (
          members-same (type_from n t (rows_before t)) (type_from_before n t (rows_before t)) (types_same n) (i + 1) (members_at t p),
          types_same n (named_at t p),
          named-same t p (old_at i),
          bits-same (i + 1) (bit_names_at t p),
        )

    pub type-same : (i : ℕ) → type_at table_limits t i ≡ type_before t i
    unfolding type_at type_before
    type-same i = ap (λ (s : List ℕ). type_from table_limits.chain t s i) rows_same ∙ types_same table_limits.chain i

-- ---- the theorems
-- "A table admitted before this reads as it did": the table check gives the same answer, and the type of each row is the same
module _ (t : List ℕ) (done : (table_before t).done ≡ true) where
  stood : (fits_before t ≡ true) × (admitted_before t ≡ true)
  unfolding table_before
  stood = go (fits_before t) (admitted_before t) done
    where
      go : (x y : Bool) → (pick x (pick y (table.admits (length (rows_before t))) (table.refused 2)) (table.refused 1)).done ≡ true → (x ≡ true) × (y ≡ true)
      go true true e = (refl, refl)
      go true false e = absurd (false≢true e)
      go false y e = absurd (false≢true e)

  clauses : (whole_rows table_limits.rows (rows_before t) ≡ true) × (admitted table_limits t ≡ true)
  unfolding admitted_before
  clauses = both_true (whole_rows table_limits.rows (rows_before t)) (admitted table_limits t) stood.1

  fits : table_fits table_limits t ≡ true
  unfolding table_fits fits_before
  fits =
      let w = both_true (leb 1 (length t)) (leb (length t) 4992) stood.0 in
      let l = leb-true (length t) 4992 w.1 in
      ap₂ both w.0 (le-leb (length t) 8064 (omega arith))

  pub reads_as_before : (table_report table_limits t ≡ table_before t) × ((i : ℕ) → type_at table_limits t i ≡ type_before t i)
  unfolding table_report table_before
  reads_as_before = (
    rw (fits, clauses.1, stood.0, stood.1) (ap (λ (s : List ℕ). table.admits (length s)) (rows_same t clauses.0)),
    type-same t clauses.0,
  )

  -- so every answer is what it was
  pub checks_as_before : (v : List ℕ) → value_report table_limits value_limits t v ≡ value_before t v
  unfolding value_report storage is_stored value_before
  checks_as_before v = rw (fits, clauses.1, stood.0, stood.1, type-same t clauses.0 0)

  pub answers_as_before : (v s : List ℕ) (budget : ℕ) → ask_report limits known_rules t v s budget ≡ ask_before t v s budget
  unfolding ask_report question_fits question_of ask_before
  answers_as_before v s budget = rw (fits, clauses.1, stood.0, stood.1, type-same t clauses.0 0)

  pub lists_as_before : (v : List ℕ) (given : Bool) (r : List ℕ) (defaults : Bool) (room : List ℕ)
      → list_report limits t v given r defaults room ≡ list_before t v given r defaults room
  unfolding list_report listing_fits listing_of list_before
  lists_as_before v given r defaults room = rw (fits, clauses.1, stood.0, stood.1, type-same t clauses.0 0)

-- "an engine from before refuses a table with the new kind, by size with 1, else with 2"
pub refused-before : (t : List ℕ) (i : ℕ) → i < length (rows table_limits.rows t) → kind_at t (row_at (rows table_limits.rows t) i) ≡ 21
    → table_before t ≡ pick (fits_before t) (table.refused 2) (table.refused 1)
unfolding table_before admitted_before
refused-before t i here new = go (whole_rows table_limits.rows (rows_before t)) refl
  where
    go : (x : Bool) → whole_rows table_limits.rows (rows_before t) ≡ x
        → pick (fits_before t) (pick (both x (admitted table_limits t)) (table.admits (length (rows_before t))) (table.refused 2)) (table.refused 1)
        ≡ pick (fits_before t) (table.refused 2) (table.refused 1)
    go true e = absurd (old_at t e i (ap (λ (s : List ℕ). kind_at t (row_at s i)) (sym (rows_same t e)) ∙ new))
    go false e = refl

-- "so that each member still has one form": in admitted tables, members of one name are of one kind
pub one_form : (t u : List ℕ) (i j : ℕ) → admitted table_limits t ≡ true → admitted table_limits u ≡ true
    → i < length (rows table_limits.rows t) → j < length (rows table_limits.rows u)
    → is_member (kind_at t (row_at (rows table_limits.rows t) i)) ≡ true → is_member (kind_at u (row_at (rows table_limits.rows u) j)) ≡ true
    → unfilled (name_at t (row_at (rows table_limits.rows t) i)) ≡ unfilled (name_at u (row_at (rows table_limits.rows u) j))
    → kind_at t (row_at (rows table_limits.rows t) i) ≡ kind_at u (row_at (rows table_limits.rows u) j)
one_form t u i j ad bd here there one other same =
    kinds_same table_limits t u ad bd i j here there one other (ap length same)
