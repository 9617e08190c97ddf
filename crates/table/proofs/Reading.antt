-- What the words of an admitted table say, and that they are there.
use mathlib.Core.Path.{◌≡◌, refl, sym, ◌∙◌}
use mathlib.Core.Bool.{Bool, true, false, true≢false}
use mathlib.Core.List.{List}
use Prim.Native.Nat.{ℕ, ◌≤◌, ◌<◌, ◌+◌, ◌*◌}
use native.Mathlib.Omega.{arith}
use lib.ListN.{length, get_or}
use Rattle.octets.specs.Octets.{base_from}
use Rattle.rows.specs.Limits.{Limits}
use Rattle.rows.specs.Row.{rows, row_at, kind_at, is_member, named_at, members_at, mode_at, presence_at, default_at}
use Rattle.rows.proofs.KindLaws.{member_no_group}
use Rattle.clauses.specs.Clauses.{is_type, later_type}
use Rattle.clauses.proofs.LaterSteps.{type_row, later-row, points_named}
use Rattle.types.specs.Types.{untagged}
use Rattle.types.specs.Admitted.{admitted}
use Rattle.types.specs.Inner.Work.{Masked}
use Rattle.types.proofs.Laws.{bit_stands, row_count_lem, row_0_is_type, member-formed, points_later_lem}
use Rattle.types.proofs.SoundLaws.{sound}
use Rattle.table.proofs.Places.{row-place}
use Rattle.table.specs.Inner.Rows.{table_rows, place_at, MemberRow, TypeRow, tagging_at, member_kind_at}
use Rattle.table.specs.Inner.Fields.{kind_of, first_of, count_of, target_of, type_of, how_of, presence_of, length_of, place_of}
use Rattle.table.specs.Inner.Words.{first_octet, how, second_of, Shaped, Ready, Worded}
use Rattle.rows.specs.Paper.{table_limits}

-- ---- an admitted table is ready for its words
is-type : (t s : List ℕ) (j : ℕ) → is_type t s j ≡ true → is_member (kind_at t (row_at s j)) ≡ true → ⊥
is-type t s j e h = (type_row t s j e).1 h

later-type : (t s : List ℕ) (i j : ℕ) → later_type t s i j ≡ true → (j < length s) × (is_member (kind_at t (row_at s j)) ≡ true → ⊥)
later-type t s i j e = type_row t s j (later-row t s i j e).1

pub ready : (l : Limits) (t m : List ℕ) → admitted l t ≡ true → l.rows ≤ table_limits.rows → Masked l.chain t (rows l.rows t) m
    → Ready l.chain t (rows l.rows t) m
ready l t m ok few masked = record {
  sound = sound l t m ok masked;
  rooted = (row_count_lem l t ok).0;
  root = is-type t _ 0 (row_0_is_type l t ok);
  few = let a = (row_count_lem l t ok).1 in omega arith;
  place = λ i h. let a = row-place l.rows t i h in let b = (row_count_lem l t ok).1 in omega arith;
  number = λ i h k. (member-formed l t ok i h k).number;
  size = λ i h k. (member-formed l t ok i h k).length;
  target = λ i h k. (later-type t _ i _ (points_named t _ i k (points_later_lem l t ok i h))).0;
  typed = λ i h k. (later-type t _ i _ (points_named t _ i k (points_later_lem l t ok i h))).1;
  bits = λ i h j q. bit_stands l t ok i h j q;
}

-- ---- reading
module _ (t w : List ℕ) (i : ℕ) (ok : Worded t w) (here : i < length (table_rows t)) where
  pub row_small : i < table_limits.rows
  row_small = let a = ok.ready.few in omega arith

  module _ (x r : ℕ) (read : x ≡ get_or w (2 * i) 0) where
    shaped : Shaped t (table_rows t) i x
    shaped = rw read (ok.filled.shape i here)

    by_kind : (P : ℕ → Type 0) → (MemberRow t i → P r) → (TypeRow t i → P r) → P r
    by_kind P f g = go (is_member (kind_at t (place_at t i))) refl
      where
        go : (b : Bool) → is_member (kind_at t (place_at t i)) ≡ b → P r
        go true q = f q
        go false q = g (λ h. true≢false (sym h ∙ q))

    pub read-kind : r ≡ kind_of x → r ≡ kind_at t (place_at t i)
    read-kind e = by_kind (λ r. r ≡ kind_at t (place_at t i)) (λ h. e ∙ (shaped.of-member h).kind) (λ h. e ∙ (shaped.of-type h).kind)

    pub read-place : r ≡ place_of x → r ≡ place_at t i
    read-place e = by_kind (λ r. r ≡ place_at t i) (λ h. e ∙ (shaped.of-member h).placed) (λ h. e ∙ (shaped.of-type h).placed)

    no-members : MemberRow t i → 0 ≡ members_at t (place_at t i)
    unfolding members_at
    no-members h = rw (member_no_group (kind_at t (place_at t i)) h)

    pub read-members : r ≡ count_of x → r ≡ members_at t (place_at t i)
    read-members e = by_kind (λ r. r ≡ members_at t (place_at t i)) (λ h. e ∙ (shaped.of-member h).members ∙ no-members h) (λ h. e ∙ (shaped.of-type h).members)

    pub read-own : TypeRow t i → r ≡ first_of x → r ≡ first_octet untagged (kind_at t (place_at t i))
    read-own h e = e ∙ (shaped.of-type h).opens

    pub read_named : r ≡ target_of x → r ≡ named_at t (place_at t i)
    read_named e = by_kind (λ r. r ≡ named_at t (place_at t i)) (λ h. e ∙ (shaped.of-member h).leads) (λ h. e ∙ (shaped.of-type h).leads)

    module _ (member : MemberRow t i) where
      pub read_first : r ≡ first_of x → r ≡ first_octet (tagging_at t i) (member_kind_at t i)
      read_first e = e ∙ (shaped.of-member member).opens

      pub read-type_kind : r ≡ type_of x → r ≡ member_kind_at t i
      read-type_kind e = e ∙ (shaped.of-member member).typed

      pub read-how : r ≡ how_of x → r ≡ how (member_kind_at t i) (mode_at t (place_at t i))
      read-how e = e ∙ (shaped.of-member member).tagged

      pub read-presence : r ≡ presence_of x → r ≡ presence_at t (place_at t i)
      read-presence e = e ∙ (shaped.of-member member).needed

      pub read_length : r ≡ length_of x → r ≡ length (default_at t (place_at t i))
      read_length e = e ∙ (shaped.of-member member).sized

  pub read_number : (r : ℕ) → MemberRow t i → presence_at t (place_at t i) ≡ 2 → r ≡ get_or w (2 * i + 1) 0
      → r ≡ base_from 0 (default_at t (place_at t i))
  unfolding second_of
  read_number r h g e = e ∙ ok.filled.second i here ∙ rw (h, g)
