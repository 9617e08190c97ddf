-- The second pass over all rows, and what it leaves.
use mathlib.Core.Path.{◌≡◌, refl, sym, ap, ap₂, ◌∙◌}
use mathlib.Core.Bool.{Bool, true, false, not, false≢true}
use mathlib.Core.Logic.{⊎_elim}
use mathlib.Core.List.{List, [], ◌∷◌}
use Prim.Native.Nat.{ℕ, zero, suc, ◌≤◌, ◌<◌, ◌+◌, ◌-◌, ◌*◌, ◌^◌}
use native.Mathlib.Omega.{arith}
use native.Mathlib.Nat.{eq-or-lt_of_le}
use borrow.Author.Tests.{not-true, not-false}
use lib.ListN.{length, get_or, set, length-set}
use lib.Seq.{get_or-set_same, get_or-set_other}
use lib.Dec.{eqb}
use Rattle.std.specs.Prelude.{Option, None, Some}
use Rattle.octets.specs.Pick.{pick, both, is_some}
use Rattle.octets.specs.Octets.{base_from}
use Rattle.octets.proofs.Laws.{all-is, all_not}
use Rattle.der.specs.Tag.{universal}
use Rattle.rows.specs.Limits.{table_fits}
use Rattle.rows.specs.Paper.{table_limits}
use Rattle.rows.proofs.KindLaws.{member-names}
use Rattle.rows.specs.Row.{rows, kind_at, is_member, named_at, presence_at, default_at}
use Rattle.clauses.specs.Inner.Work.{first_pass, Placed}
use Rattle.types.specs.Types.{type_from}
use Rattle.types.specs.Begins.{begins}
use Rattle.types.specs.Admitted.{admitted}
use Rattle.types.specs.Inner.Work.{bit_of, row_fits, second_pass, row_count, Masked}
use Rattle.types.specs.Check.{refused, admits, table_report}
use Rattle.types.proofs.AdmitSteps.{in_passes}
use Rattle.types.proofs.Laws.{row_count_lem}
use Rattle.types.proofs.TagLaws.{bits-one}
use Rattle.rows.specs.declared.Table.{Table}
use Rattle.table.specs.Inner.Rows.{table_rows, place_at, MemberRow, TypeRow}
use Rattle.table.specs.Inner.Words.{second_of, Worded}
use Rattle.table.specs.Inner.Pass.{first_at, second_at, member_second, RowWords, Going, Next, Says, Leaves}
use Rattle.table.proofs.KindLaws.{is_false_lem, choice_no_member}
use Rattle.table.proofs.PassLaws.{Named, some_rows, few-rows, is-named, fits_points, fits-chain, points_row}
use Rattle.table.proofs.Reading.{ready}

-- ---- one row more
pub going-few : (t w : List ℕ) (n i : ℕ) → Going t w i → n ≡ length (table_rows t) → n ≤ 128
going-few t w n i going e = let a = few-rows t going.first in omega arith

keep : (t w v : List ℕ) (j x y : ℕ) → RowWords t w j x y → (MemberRow t j → second_at v (named_at t (place_at t j)) ≡ second_at w (named_at t (place_at t j))) → RowWords t v j x y
keep t w v j x y k e = record {
  shape = k.shape;
  chain = k.chain;
  small = k.small;
  tags = k.tags;
  stored = λ h. k.stored h ∙ ap (member_second t (place_at t j)) (sym (e h));
}

names-later : (t : List ℕ) (j : ℕ) → row_fits 16 t (table_rows t) j ≡ true → MemberRow t j → Named t j (named_at t (place_at t j))
names-later t j e h = is-named t j _ (sym (points_row 16 t (table_rows t) j (member-names t (place_at t j) h)) ∙ fits_points 16 t (table_rows t) j e)

module _ (t w : List ℕ) (n i : ℕ) (going : Going t w i) (count : n ≡ length (table_rows t)) (inside : i ≤ n) (pos : 0 < i) where
  one_down : i - 1 + 1 ≡ i
  one_down = omega arith

  below : i - 1 < length (table_rows t)
  below = omega arith

  pub going_next : (p : ℕ) → p ≡ first_at w (i - 1) → Next t w n (i - 1) p
  going_next p e = record {
    going = rw one_down going;
    here = below;
    count = count;
    placed = e ∙ going.places (i - 1) (omega arith);
  }

  module _ (r : Option (ℕ × ℕ)) (says : Says t w (i - 1) r) where
    pub going-bad : r ≡ None → false ≡ second_pass table_limits.chain t (table_rows t)
    unfolding second_pass
    going-bad e = sym (all_not (row_fits 16 t (table_rows t)) (length (table_rows t)) (i - 1) below (sym says.fits ∙ ap is_some e))

    module _ (x y : ℕ) (made : r ≡ Some (x, y)) where
      fits-here : row_fits 16 t (table_rows t) (i - 1) ≡ true
      fits-here = sym says.fits ∙ ap is_some made

      few : 2 * (i - 1) + 1 < length w
      few = let a = going.size in let b = few-rows t going.first in omega arith

      apart : (k : ℕ) → (k ≡ 2 * (i - 1) → ⊥) → (k ≡ 2 * (i - 1) + 1 → ⊥) → get_or (set (set w (2 * (i - 1)) x) (2 * (i - 1) + 1) y) k 0 ≡ get_or w k 0
      apart k a b = get_or-set_other (set w (2 * (i - 1)) x) (2 * (i - 1) + 1) k y 0 b ∙ get_or-set_other w (2 * (i - 1)) k x 0 a

      first-new : first_at (set (set w (2 * (i - 1)) x) (2 * (i - 1) + 1) y) (i - 1) ≡ x
      first-new = let g : 2 * (i - 1) < length w = let a = few in omega arith in
          get_or-set_other (set w (2 * (i - 1)) x) (2 * (i - 1) + 1) (2 * (i - 1)) y 0 (λ z. omega arith) ∙ get_or-set_same w (2 * (i - 1)) x 0 g

      second-new : second_at (set (set w (2 * (i - 1)) x) (2 * (i - 1) + 1) y) (i - 1) ≡ y
      second-new = get_or-set_same (set w (2 * (i - 1)) x) (2 * (i - 1) + 1) y 0 (rw length-set few)

      second-kept : (j : ℕ) → i - 1 < j → second_at (set (set w (2 * (i - 1)) x) (2 * (i - 1) + 1) y) j ≡ second_at w j
      second-kept j l = apart (2 * j + 1) (λ z. omega arith) (λ z. omega arith)

      here-words : RowWords t (set (set w (2 * (i - 1)) x) (2 * (i - 1) + 1) y) (i - 1) (first_at (set (set w (2 * (i - 1)) x) (2 * (i - 1) + 1) y) (i - 1)) (second_at (set (set w (2 * (i - 1)) x) (2 * (i - 1) + 1) y) (i - 1))
      here-words = rw (first-new, second-new) (keep t w (set (set w (2 * (i - 1)) x) (2 * (i - 1) + 1) y) (i - 1) x y (says.words x y made) (λ h. second-kept _ (names-later t (i - 1) fits-here h).0))

      there-words : (j : ℕ) → i - 1 < j → j < length (table_rows t) → RowWords t (set (set w (2 * (i - 1)) x) (2 * (i - 1) + 1) y) j (first_at (set (set w (2 * (i - 1)) x) (2 * (i - 1) + 1) y) j) (second_at (set (set w (2 * (i - 1)) x) (2 * (i - 1) + 1) y) j)
      there-words j l b =
          let v : i ≤ j = omega arith in
          rw (apart (2 * j) (λ z. omega arith) (λ z. omega arith), second-kept j l)
          (keep t w (set (set w (2 * (i - 1)) x) (2 * (i - 1) + 1) y) j (first_at w j) (second_at w j) (going.words j v b)
          (λ h. second-kept _ (let a = (names-later t j (going.fits j v b) h).0 in omega arith)))

      pub going_again : Going t (set (set w (2 * (i - 1)) x) (2 * (i - 1) + 1) y) (i - 1)
      going_again = record {
        size = length-set (set w (2 * (i - 1)) x) (2 * (i - 1) + 1) y ∙ length-set w (2 * (i - 1)) x ∙ going.size;
        first = going.first;
        places = λ j l. apart (2 * j) (λ z. omega arith) (λ z. omega arith) ∙ going.places j (omega arith);
        fits = λ j a b. ⊎_elim (λ q. rw (← q) fits-here) (λ l. going.fits j (omega arith) b) (eq-or-lt_of_le a);
        words = λ j a b. ⊎_elim (λ q. rw (← q) here-words) (λ l. there-words j l b) (eq-or-lt_of_le a);
      }

-- ---- all rows
-- the list of what f gives for the numbers below n
unfoldable listed : (ℕ → ℕ) → ℕ → List ℕ
listed f zero = []
listed f (suc n) = f 0 ∷ listed (λ j. f (suc j)) n

listed_at : (f : ℕ → ℕ) (n j : ℕ) → j < n → get_or (listed f n) j 0 ≡ f j
unfolding listed
listed_at f zero j h = absurd (omega arith)
listed_at f (suc n) zero h = refl
listed_at f (suc n) (suc j) h = listed_at (λ j. f (suc j)) n j (omega arith)

-- the set of tags of row j: of a type row its second word; a member row's is not asked for
unfoldable set_of : List ℕ → List ℕ → ℕ → ℕ
set_of t w j = pick (is_member (kind_at t (place_at t j))) (2 ^ universal (kind_at t (place_at t j))) (second_at w j)

set_of-member : (t w : List ℕ) (j : ℕ) → MemberRow t j → set_of t w j ≡ 2 ^ universal (kind_at t (place_at t j))
unfolding set_of
set_of-member t w j h = rw h

set_of-type : (t w : List ℕ) (j : ℕ) → TypeRow t j → set_of t w j ≡ second_at w j
unfolding set_of
set_of-type t w j h = rw (is_false_lem (is_member (kind_at t (place_at t j))) h)

-- where the sets of type rows are right, all are
all-masked : (t w m : List ℕ) → ((j : ℕ) → j < length (table_rows t) → get_or m j 0 ≡ set_of t w j)
    → ((j : ℕ) → j < length (table_rows t) → TypeRow t j → (g : ℕ) → g < 64 → bit_of (second_at w j) g ≡ begins (type_from 16 t (table_rows t) j) g)
    → Masked 16 t (table_rows t) m
all-masked t w m is typed = record { says = λ j l g b. go j l g b (is_member (kind_at t (place_at t j))) refl }
  where
    go : (j : ℕ) → j < length (table_rows t) → (g : ℕ) → g < 64 → (x : Bool) → is_member (kind_at t (place_at t j)) ≡ x → bit_of (get_or m j 0) g ≡ begins (type_from 16 t (table_rows t) j) g
    go j l g b true q =
        ap (λ (x : ℕ). bit_of x g) (is j l ∙ set_of-member t w j q) ∙ bits-one t (table_rows t) j 15 (λ y. choice_no_member (kind_at t (place_at t j)) y q) g
    go j l g b false q =
        let h : TypeRow t j = λ e. false≢true (sym q ∙ e) in
        ap (λ (x : ℕ). bit_of x g) (is j l ∙ set_of-type t w j h) ∙ typed j l h g b

module _ (t w : List ℕ) (i : ℕ) (going : Going t w i) (z : i ≤ 0) where
  pub going_done : true ≡ second_pass table_limits.chain t (table_rows t)
  unfolding second_pass
  going_done = sym (all-is (row_fits 16 t (table_rows t)) (length (table_rows t)) (λ j l. going.fits j (omega arith) l))

  unfoldable sets : List ℕ
  sets = listed (set_of t w) (length (table_rows t))

  sets-at : (j : ℕ) → j < length (table_rows t) → get_or sets j 0 ≡ set_of t w j
  unfolding sets
  sets-at j l = listed_at (set_of t w) (length (table_rows t)) j l

  masked : Masked 16 t (table_rows t) sets
  masked = all-masked t w sets sets-at (λ j l h g b. let v : i ≤ j = omega arith in (going.words j v l).tags h 16 (fits-chain 16 t (table_rows t) j (going.fits j v l)) g b)

  is-admitted : admitted table_limits t ≡ true
  unfolding admitted
  is-admitted = in_passes t (table_rows t) table_limits ∙ ap₂ both going.first (sym going_done)

  second_is : (j : ℕ) → j < length (table_rows t) → second_at w j ≡ second_of t (table_rows t) sets j
  unfolding second_of member_second
  second_is j l = go (is_member (kind_at t (place_at t j))) refl
    where
      v : i ≤ j
      v = omega arith

      go : (x : Bool) → is_member (kind_at t (place_at t j)) ≡ x
          → second_at w j ≡ pick x (pick (eqb (presence_at t (place_at t j)) 2) (base_from 0 (default_at t (place_at t j))) (get_or sets (named_at t (place_at t j)) 0)) (get_or sets j 0)
      go true q =
          let k = names-later t j (going.fits j v l) q in
          (going.words j v l).stored q ∙ ap (pick (eqb (presence_at t (place_at t j)) 2) (base_from 0 (default_at t (place_at t j)))) (sym (sets-at (named_at t (place_at t j)) k.1 ∙ set_of-type t w (named_at t (place_at t j)) k.2))
      go false q = sym (sets-at j l ∙ set_of-type t w j (λ e. false≢true (sym q ∙ e)))

  pub going-worded : Worded t w
  going-worded = record {
    m = sets;
    ready = ready table_limits t sets is-admitted (omega arith) masked;
    filled = record { shape = λ j l. (going.words j (omega arith) l).shape; second = second_is };
  }

pub not_worded : (t w : List ℕ) → false ≡ true → Worded t w
not_worded t w e = absurd (false≢true e)

-- ---- admission
module _ (t w : List ℕ) (n : ℕ) (count : n ≡ pick (first_pass table_limits t (table_rows t)) (length (table_rows t)) 0) where
  passed : (n ≡ 0 → ⊥) → first_pass table_limits t (table_rows t) ≡ true
  passed z = go (first_pass table_limits t (table_rows t)) refl
    where
      go : (x : Bool) → first_pass table_limits t (table_rows t) ≡ x → x ≡ true
      go true q = refl
      go false q = absurd (z (rw q at count))

  failed : n ≡ 0 → first_pass table_limits t (table_rows t) ≡ false
  failed z = go (first_pass table_limits t (table_rows t)) refl
    where
      go : (x : Bool) → first_pass table_limits t (table_rows t) ≡ x → x ≡ false
      go true q = absurd (let a = some_rows t q in let b : n ≡ length (table_rows t) = (rw q at count) in omega arith)
      go false q = refl

  by-passes : admitted table_limits t ≡ both (first_pass table_limits t (table_rows t)) (second_pass table_limits.chain t (table_rows t))
  unfolding admitted
  by-passes = in_passes t (table_rows t) table_limits

  pub admit_none : n ≡ 0 → 0 ≡ row_count table_limits t
  unfolding row_count
  admit_none z = rw (by-passes, failed z)

  module _ (z : n ≡ 0 → ⊥) where
    pub admit_count : n ≡ length (table_rows t)
    admit_count = rw (passed z) at count

    pub admit_start : length w ≡ 256 → Placed t w n → Going t w n
    admit_start size places = record {
      size = size;
      first = passed z;
      places = λ j l. places.at j l;
      fits = λ j a b. absurd (let e = admit_count in omega arith);
      words = λ j a b. absurd (let e = admit_count in omega arith);
    }

    module _ (r : Bool) (told : r ≡ second_pass table_limits.chain t (table_rows t)) where
      pub admit_not : not r ≡ true → 0 ≡ row_count table_limits t
      unfolding row_count
      admit_not e = rw (by-passes, passed z, sym told ∙ not-true r e)

      pub admit_is : not r ≡ false → n ≡ row_count table_limits t
      unfolding row_count
      admit_is e = rw (by-passes, passed z, sym told ∙ not-false r e) admit_count

pub leaves_none : (t w : List ℕ) → Leaves t w 0
leaves_none t w = record { worded = λ h. absurd (omega arith) }

pub leaves : (t w : List ℕ) (n : ℕ) (r : Bool) → not r ≡ false → (r ≡ true → Worded t w) → Leaves t w n
leaves t w n r e f = record { worded = λ _. f (not-false r e) }

-- ---- the answer
module _ (t : List ℕ) (x : Bool) (fits : x ≡ table_fits table_limits t) where
  pub check_size : not x ≡ true → refused 1 ≡ table_report table_limits t
  unfolding table_report
  check_size e = rw (sym fits ∙ not-true x e)

  module _ (e : not x ≡ false) (n : ℕ) (count : n ≡ row_count table_limits t) where
    pub check_not : n ≡ 0 → refused 2 ≡ table_report table_limits t
    unfolding table_report row_count
    check_not z = rw (sym fits ∙ not-false x e) (go (admitted table_limits t) refl)
      where
        go : (y : Bool) → admitted table_limits t ≡ y → refused 2 ≡ pick y (admits (length (rows table_limits.rows t))) (refused 2)
        go true q = absurd (let w = (row_count_lem table_limits t q).0 in let k : n ≡ length (rows table_limits.rows t) = (rw q at count) in omega arith)
        go false q = refl

    pub check_is : (table : Table) → (n ≡ 0 → ⊥) → table.rows ≡ n → admits table.rows ≡ table_report table_limits t
    unfolding table_report row_count
    check_is table z is = ap admits is ∙ rw (sym fits ∙ not-false x e) (go (admitted table_limits t) refl)
      where
        go : (y : Bool) → admitted table_limits t ≡ y → admits n ≡ pick y (admits (length (rows table_limits.rows t))) (refused 2)
        go true q = ap admits (rw q at count)
        go false q = absurd (z (rw q at count))
