-- What the layers above use of an admitted table. s below is its list of rows.
use mathlib.Core.Path.{◌≡◌}
use mathlib.Core.Bool.{true}
use mathlib.Core.List.{List}
use Prim.Native.Nat.{ℕ, ◌≤◌, ◌<◌, ◌+◌}
use borrow.Author.Tests.{leb-true}
use lib.ListN.{length}
use Rattle.octets.proofs.Laws.{both_true, all-at}
use Rattle.rows.specs.Limits.{Limits}
use Rattle.rows.specs.Row.{rows, row_at, kind_at, is_member, bit_number_at, named_at, members_at, bit_names_at}
use Rattle.rows.proofs.Laws.{MemberFacts, member_facts, bit_facts}
use Rattle.clauses.specs.Clauses.{every_row, whole_rows, body_formed, points_later, followers_stand, member_place, names_differ, numbers_differ}
use Rattle.clauses.specs.Clauses.{alternatives_mandatory, no_implicit_choice, default_legal, chain_fits, is_type, first_is_type}
use Rattle.clauses.specs.Inner.Work.{Later}
use Rattle.clauses.proofs.LaterSteps.{is_later, member-follows, bit_follows}
use Rattle.types.specs.Types.{members_from, typed, type_at}
use Rattle.types.specs.Admitted.{rows_formed, rows_named, members_agree, types_fit, admitted_rows, admitted}
use Rattle.types.proofs.TypeLaws.{step}
use Rattle.types.proofs.AdmitSteps.{named_points, named-stand}

module _ (l : Limits) (t : List ℕ) (ok : admitted l t ≡ true) where
  abbrev s : List ℕ
  s = rows l.rows t

  whole : admitted_rows l t s ≡ true
  unfolding admitted
  whole = ok

  formed : rows_formed l.rows l.members t s ≡ true
  unfolding admitted_rows
  formed = (both_true (rows_formed l.rows l.members t s) _ whole).0

  named : rows_named t s ≡ true
  unfolding admitted_rows
  named = (both_true (rows_named t s) _ (both_true (rows_formed l.rows l.members t s) _ whole).1).0

  agree : members_agree t s ≡ true
  unfolding admitted_rows
  agree = (both_true (members_agree t s) _ (both_true (rows_named t s) _ (both_true (rows_formed l.rows l.members t s) _ whole).1).1).0

  fit : types_fit l.chain t s ≡ true
  unfolding admitted_rows
  fit = (both_true (members_agree t s) _ (both_true (rows_named t s) _ (both_true (rows_formed l.rows l.members t s) _ whole).1).1).1

  -- ---- the facts of a row
  -- at least one row, at most as many as the limit
  pub row_count_lem : (1 ≤ length s) × (length s ≤ l.rows)
  unfolding rows_formed whole_rows
  row_count_lem = let w = both_true _ _ (both_true (whole_rows l.rows s) _ formed).0 in (leb-true _ _ w.0, leb-true _ _ w.1)

  pub row_0_is_type : is_type t s 0 ≡ true
  unfolding rows_formed first_is_type
  row_0_is_type = (both_true (every_row (body_formed l.members t s) s) _ (both_true (whole_rows l.rows s) _ formed).1).1

  points : every_row (points_later t s) s ≡ true
  points = named_points t s named

  stands : followers_stand t s ≡ true
  stands = named-stand t s named

  chains : every_row (chain_fits l.chain t s) s ≡ true
  unfolding types_fit
  chains = (both_true (every_row (chain_fits l.chain t s) s) _ fit).0

  -- the rows of elements and of members' types come later and are there
  pub names-later : Later t s
  names-later = is_later t s points stands

  module _ (i : ℕ) (here : i < length s) where
    pub body_formed_lem : body_formed l.members t s i ≡ true
    unfolding rows_formed
    body_formed_lem = all-at (body_formed l.members t s) (length s) i (both_true (every_row (body_formed l.members t s) s) _ (both_true (whole_rows l.rows s) _ formed).1).0 here

    pub member-formed : is_member (kind_at t (row_at s i)) ≡ true → MemberFacts t (row_at s i)
    unfolding body_formed
    member-formed k = member_facts l.members t (row_at s i) body_formed_lem k

    pub points_later_lem : points_later t s i ≡ true
    points_later_lem = all-at (points_later t s) (length s) i points here

    -- the members of a row follow it directly
    pub member-stands : (j : ℕ) → j < members_at t (row_at s i) → (i + 1 + j < length s) × (is_member (kind_at t (member_place s i j)) ≡ true)
    member-stands j h = member-follows t s stands i here j h

    pub names-differ : names_differ t s i ≡ true
    unfolding members_agree
    names-differ = all-at (names_differ t s) (length s) i (both_true (every_row (names_differ t s) s) _ agree).0 here

    pub default-legal : default_legal t s i ≡ true
    unfolding members_agree
    default-legal =
        let after-names = (both_true (every_row (numbers_differ t s) s) _ (both_true (every_row (names_differ t s) s) _ agree).1).1 in
        let rest = (both_true (every_row (alternatives_mandatory t s) s) _ after-names).1 in
        all-at (default_legal t s) (length s) i (both_true (every_row (no_implicit_choice t s) s) _ rest).1 here

    -- ---- the type of a row: by the types of the rows that it names, with no depth to speak of
    pub type-step : type_at l t i ≡ typed t s i (type_at l t (named_at t (row_at s i))) (members_from (type_at l t) t s (i + 1) (members_at t (row_at s i)))
    unfolding type_at
    type-step = step t s l.chain names-later chains i here

  -- the names of bits of a row follow it directly, with low numbers
  pub bit_stands : (i : ℕ) → i < length s → (j : ℕ) → j < bit_names_at t (row_at s i) → (i + 1 + j < length s) × (bit_number_at t (member_place s i j) ≤ 63)
  unfolding body_formed
  bit_stands i here j h =
      let f = bit_follows t s stands i here j h in
      (f.0, (bit_facts l.members t (member_place s i j) (body_formed_lem (i + 1 + j) f.0) f.1).1)
