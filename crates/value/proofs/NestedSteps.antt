-- CHOICEs that are alternatives in no wrapper: one lemma for each return and the turn of the loop.
use mathlib.Core.Path.{◌≡◌, refl, sym, ap, ◌∙◌}
use mathlib.Core.Bool.{Bool, true, false, not, false≢true}
use mathlib.Core.List.{List}
use Prim.Native.Nat.{ℕ, ◌≤◌, ◌<◌, ◌+◌, ◌-◌, ◌*◌}
use native.Mathlib.Omega.{arith}
use borrow.Author.Tests.{not-false, eq-eqb, ne_eqb, eqb-true, eqb-false}
use lib.ListN.{length}
use lib.Dec.{eqb}
use Rattle.std.specs.Prelude.{Option, None, Some}
use Rattle.octets.specs.Pick.{no}
use Rattle.octets.proofs.Laws.{both_true}
use Rattle.rows.specs.Paper.{table_limits}
use Rattle.rows.proofs.KindLaws.{member-names}
use Rattle.rows.specs.Row.{named_at, members_at, mode_at, number_at}
use Rattle.table.specs.Inner.Rows.{table_rows, place_at, MemberRow, members_after, member_type_at, tagging_at, member_kind_at}
use Rattle.table.specs.Inner.Words.{how, Worded}
use Rattle.value.specs.Decode.{alternative_from, decode}
use Rattle.value.specs.Inner.Work.{checked, first, starts_of, is_nested, ChosenRow, Chooses}
use Rattle.value.proofs.CheckSteps.{check_by_choice, bare-decode}
use Rattle.value.proofs.ChoiceSteps.{choice-none, choice-here, choice-member, choice-is}
use Rattle.value.proofs.ModeSteps.{is-explicit, not_explicit}

not_no : (x : Bool) → not x ≡ no x
not_no true = refl
not_no false = refl

module _ (k mode : ℕ) where
  pub nested-other : (x : ℕ) → x ≡ k → (x ≡ 13 → ⊥) → eqb x 13 ≡ is_nested k mode
  unfolding is_nested
  nested-other x e h = ne_eqb x 13 h ∙ rw (ne_eqb k 13 (λ z. h (e ∙ z)))

  pub nested-choice : (x h : ℕ) → x ≡ k → x ≡ 13 → h ≡ how k mode → not (eqb h 1) ≡ is_nested k mode
  unfolding is_nested
  nested-choice x h e g q = rw (eq-eqb k 13 (sym e ∙ g)) (not_no (eqb h 1) ∙ ap no (go (eqb h 1) refl))
    where
      go : (y : Bool) → eqb h 1 ≡ y → eqb h 1 ≡ eqb mode 1
      go true p = p ∙ sym (eq-eqb mode 1 (is-explicit k mode h q (eqb-true h 1 p)))
      go false p = p ∙ sym (ne_eqb mode 1 (λ z. not_explicit k mode h q (eqb-false h 1 p) z))

  is-nested : is_nested k mode ≡ true → (k ≡ 13) × (mode ≡ 1 → ⊥)
  unfolding is_nested
  is-nested e =
      let b = both_true (eqb k 13) (no (eqb mode 1)) e in
      (eqb-true k 13 b.0, λ z. false≢true (sym (ap no (eq-eqb mode 1 z)) ∙ b.1))

module _ (t w v : List ℕ) (row at end : ℕ) (ok : Worded t w) (here : row < length (table_rows t))
    (n j : ℕ) (counted : n ≡ members_at t (place_at t row)) (found : j ≡ first (starts_of table_limits.chain t (table_rows t) row v end at) n 0) where
  pub choose_none : n ≤ j → Chooses t v row at end None
  unfolding Chooses
  choose_none h = choice-none table_limits.chain t (table_rows t) ok.m row ok.ready.sound here v at end n j counted found h

  pub choose_this : j < n → Chooses t v row at end (Some (row + 1 + j))
  unfolding Chooses
  choose_this l = record {
    here = choice-here table_limits.chain t (table_rows t) ok.m row ok.ready.sound here v at end n j counted found l;
    member = choice-member table_limits.chain t (table_rows t) ok.m row ok.ready.sound here v at end n j counted found l;
    later = (ok.ready.sound.later.of-member row here j (rw (← counted) l)).0;
    same = choice-is table_limits.chain t (table_rows t) ok.m row ok.ready.sound here v at end n j counted found l _ refl;
  }

-- ---- the alternative that is chosen
module _ (t v : List ℕ) (row at end : ℕ) (a : Option ℕ) (chooses : Chooses t v row at end a) where
  pub missing_is : a ≡ None → None ≡ checked (alternative_from (members_after t row) v at end)
  unfolding Chooses
  missing_is e = rw e at chooses

  module _ (r : ℕ) (found : a ≡ Some r) where
    the_row : ChosenRow t v row at end r
    unfolding Chooses
    the_row = rw found at chooses

    pub row_here : r < length (table_rows t)
    row_here = the_row.here

    pub row-member : MemberRow t r
    row-member = the_row.member

    pub row_falls : (w : List ℕ) (k : ℕ) → Worded t w → 5 * (length (table_rows t) - row) + 2 ≡ k → 5 * (length (table_rows t) - named_at t (place_at t r)) + 5 < k
    row_falls w k ok e = let l = the_row.later in let b = ok.ready.target r row_here (member-names t (place_at t r) row-member) in omega arith

    pub row_is : (c : Option ℕ) → c ≡ checked (decode (member_type_at t r) (tagging_at t r) v at end) → c ≡ checked (alternative_from (members_after t row) v at end)
    row_is c e = e ∙ the_row.same

-- ---- the loop: the value of the row's CHOICE is that of the CHOICE that it has come to
pub record Descends (t v : List ℕ) (row at end choice : ℕ) : Type 0 where
  pub within : choice < length (table_rows t)
  pub later : row ≤ choice
  pub same : checked (alternative_from (members_after t choice) v at end) ≡ checked (alternative_from (members_after t row) v at end)

pub descends_start : (t v : List ℕ) (row at end : ℕ) → row < length (table_rows t) → Descends t v row at end row
descends_start t v row at end h = record { within = h; later = omega arith; same = refl }

module _ (t v : List ℕ) (row at end choice : ℕ) (so_far : Descends t v row at end choice) (a : Option ℕ) (chooses : Chooses t v choice at end a) where
  pub inner_none : a ≡ None → Chooses t v row at end None
  unfolding Chooses
  inner_none e = missing_is t v choice at end a chooses e ∙ so_far.same

  module _ (r : ℕ) (found : a ≡ Some r) where
    this : ChosenRow t v choice at end r
    this = the_row t v choice at end a chooses r found

    pub inner_this : Chooses t v row at end (Some r)
    unfolding Chooses
    inner_this = record { here = this.here; member = this.member; later = let x = so_far.later in let y = this.later in omega arith; same = this.same ∙ so_far.same }

    module _ (w : List ℕ) (ok : Worded t w) (next : ℕ) (read : next ≡ named_at t (place_at t r)) where
      target : next < length (table_rows t)
      target = rw read (ok.ready.target r this.here (member-names t (place_at t r) this.member))

      pub inner_less : length (table_rows t) - next < length (table_rows t) - choice
      inner_less = let x = this.later in let y = target in omega arith

      pub inner_again : (b : Bool) → b ≡ is_nested (member_kind_at t r) (mode_at t (place_at t r)) → not b ≡ false → Descends t v row at end next
      inner_again b tested nested = record { within = target; later = let x = so_far.later in let y = this.later in omega arith; same = rw read (inner ∙ this.same ∙ so_far.same) }
        where
          is : (member_kind_at t r ≡ 13) × (mode_at t (place_at t r) ≡ 1 → ⊥)
          is = is-nested _ _ (sym tested ∙ not-false b nested)

          inner : checked (alternative_from (members_after t (named_at t (place_at t r))) v at end) ≡ checked (decode (member_type_at t r) (tagging_at t r) v at end)
          inner =
              check_by_choice table_limits.chain t (table_rows t) ok.m (named_at t (place_at t r)) ok.ready.sound
              (ok.ready.target r this.here (member-names t (place_at t r) this.member)) (member_kind_at t r) refl v at end (mode_at t (place_at t r)) (number_at t (place_at t r)) _ is.0 refl
              ∙ ap checked (sym (bare-decode (member_type_at t r) v at end (mode_at t (place_at t r)) (number_at t (place_at t r)) is.1))
