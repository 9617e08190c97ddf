-- Members and alternatives: one lemma for each return and each turn of a loop; its premises are the facts as the code has them.
use mathlib.Core.Path.{◌≡◌, refl, sym, ap, ap₂, ◌∙◌}
use mathlib.Core.Bool.{Bool, true, false, not}
use Rattle.std.specs.Prelude.{Option, None, Some}
use mathlib.Core.List.{List}
use Prim.Native.Nat.{ℕ, suc, ◌≤◌, ◌<◌, ◌+◌, ◌-◌, ◌*◌}
use native.Mathlib.Omega.{arith}
use borrow.Author.Tests.{not-true, not-false, eq-eqb, ne_eqb, eqb-true, eqb-false, leb-true, le-ltb}
use lib.ListN.{length}
use lib.Dec.{leb, eqb}
use Rattle.octets.specs.Pick.{pick, both, no, bind, is_some}
use Rattle.octets.specs.Octets.{part, same}
use Rattle.octets.proofs.Laws.{both_true}
use Rattle.der.specs.Header.{inside_at}
use Rattle.rows.specs.Row.{row_at, kind_at, is_member, named_at, members_at, mode_at, number_at, presence_at, default_at}
use Rattle.clauses.specs.Clauses.{type_kind, default_allowed, default_legal}
use Rattle.types.specs.Types.{Tagging, untagged, explicit, implicit, mandatory, optional, default, tagging_of, presence_of, Member, member_of, NamedBit, Ty}
use Rattle.types.specs.Types.{basic, Members, no_more, more, members_from, bits_after, type_from}
use Rattle.types.specs.Begins.{is_mandatory}
use Rattle.types.specs.Inner.Work.{Sound}
use Rattle.table.specs.Inner.Words.{is_basic, how, Ready}
use Rattle.table.proofs.KindLaws.{basic_kind, small_basic}
use Rattle.types.proofs.TagLaws.{mandatory_as, presence_as}
use Rattle.value.specs.Value.{spot_at, spot_of, Fields, end_fields, present, absent}
use Rattle.value.specs.Decode.{Decoded, after_of, tag_octet, in_wrapper, starts_here, is_default, unless_default, present_then, absent_then, unwrapped, fields_from, decode}
use Rattle.value.specs.Inner.Work.{checked, up_to, within, contents_at, holds, stored_default, plain_checked, absent_checked, none_mandatory, rest_absent, member_checked, fields_checked}
use Rattle.value.proofs.Views.{leaf_view, wrapper_view}
use Rattle.rows.proofs.KindLaws.{member-names}
use Rattle.types.proofs.TypeCases.{typed_basic}
use Rattle.value.proofs.ModeSteps.{plain_basic}
use Rattle.value.proofs.PlainSteps.{plain-decoded}

-- ---- a default that is stored: the contents of a basic value under a tag mode
contents_are : (g : Tagging) (k : ℕ) (names : List NamedBit) (v : List ℕ) (at end : ℕ) (d : Decoded) → decode (basic k names) g v at end ≡ Some d
    → (start : ℕ) × (n : ℕ) × (contents_at g k v at end ≡ Some (start, n)) × ((spot_of d.value).contents ≡ part v start n)
unfolding decode in_wrapper contents_at spot_at
contents_are untagged k names v at end d e = let w = leaf_view v at end d k names untagged e in
    (w.0, w.1, w.2, ap (λ (y : Decoded). (spot_of y.value).contents) (sym w.4))
contents_are (implicit n) k names v at end d e = let w = leaf_view v at end d k names (implicit n) e in
    (w.0, w.1, w.2, ap (λ (y : Decoded). (spot_of y.value).contents) (sym w.4))
contents_are (explicit n) k names v at end d e =
    let u = wrapper_view after_of v at end d n (unwrapped (basic k names) (explicit n) v) e in
    let w = leaf_view v u.0 (u.0 + u.1) d k names (explicit n) u.3 in
    (w.0, w.1, ap (within (inside_at (tag_octet (explicit n) k) v)) u.2 ∙ w.2, ap (λ (y : Decoded). (spot_of y.value).contents) (sym w.4))

few : (n : ℕ) → n ≤ 2 → (n ≡ 0 → ⊥) → (n ≡ 1 → ⊥) → (n ≡ 2 → ⊥) → ⊥
few n h a b c = omega arith

-- BOOLEAN, INTEGER, ENUMERATED are basic
small-kind : (k : ℕ) → leb k 3 ≡ true → is_basic k ≡ true
small-kind k h = small_basic k (let l = leb-true k 3 h in omega arith)

-- ---- numbers of rows
module _ (chain : ℕ) (t s m : List ℕ) (row : ℕ) (ok : Ready chain t s m) (here : row < length s) where
  pub row_fits_lem : row + 1 < 18446744073709551616
  row_fits_lem = let a = ok.few in omega arith

  module _ (n j : ℕ) (count : n ≤ members_at t (row_at s row)) (l : j < n) where
    in_group : j < members_at t (row_at s row)
    in_group = omega arith

    pub alternative-here : row + 1 + j < length s
    alternative-here = ok.sound.stands row here j in_group

    pub alternative-member : is_member (kind_at t (row_at s (row + 1 + j))) ≡ true
    alternative-member = ok.sound.members row here j in_group

    pub alternative-fits : row + 1 + j < 18446744073709551616
    alternative-fits = let a = ok.few in let b = alternative-here in omega arith

  pub member-fits : (n j : ℕ) → n ≡ members_at t (row_at s row) → j < n → row + 1 + j < 18446744073709551616
  member-fits n j e l = alternative-fits n j (omega arith) l

pub count-le : (n m : ℕ) → n ≡ m → n ≤ m
count-le n m e = omega arith

module _ (chain : ℕ) (t s m : List ℕ) (row : ℕ) (ok : Ready chain t s m) (here : row < length s) (member : is_member (kind_at t (row_at s row)) ≡ true) where
  target : named_at t (row_at s row) < length s
  target = ok.target row here (member-names t (row_at s row) member)

  abbrev place : ℕ
  place = row_at s row

  abbrev target_row : ℕ
  target_row = named_at t (row_at s row)

  abbrev target-type : Ty
  target-type = type_from chain t s (named_at t (row_at s row))

  abbrev the_member : Member
  the_member = member_of t row (row_at s row)

  abbrev tagging : Tagging
  tagging = tagging_of (mode_at t (row_at s row)) (number_at t (row_at s row))

  basic_type : is_basic (kind_at t (row_at s target_row)) ≡ true → target-type ≡ basic (kind_at t (row_at s target_row)) (bits_after t s target_row)
  basic_type h = let b = basic_kind _ h in ok.sound.step target_row target ∙ typed_basic t s target_row _ _ b.0 b.1 b.2

  -- a default is one of a basic type
  default-kind : presence_at t place ≡ 2 → target-type ≡ basic (kind_at t (row_at s target_row)) (bits_after t s target_row)
  unfolding default_legal default_allowed
  default-kind e =
      let legal = rw (member, e) at (ok.sound.defaults row here) in
      let w = both_true _ _ legal in
      let b = both_true (leb 1 (kind_at t (row_at s target_row))) (leb (kind_at t (row_at s target_row)) 3) w.0 in
      basic_type (small-kind (kind_at t (row_at s target_row)) b.1)

  module _ (v : List ℕ) (i stop : ℕ) where
    is-default : (d : Decoded) → decode target-type tagging v i stop ≡ Some d → is_default (presence_of (presence_at t place) (default_at t place)) (spot_of d.value).contents ≡ stored_default t s place v i stop
    unfolding presence_of stored_default
    is-default d e = go (eqb (presence_at t place) 0) refl (eqb (presence_at t place) 1) refl (eqb (presence_at t place) 2) refl
      where
        go : (x : Bool) → eqb (presence_at t place) 0 ≡ x → (y : Bool) → eqb (presence_at t place) 1 ≡ y → (z : Bool) → eqb (presence_at t place) 2 ≡ z
            → is_default (pick x mandatory (pick y optional (default (default_at t place)))) (spot_of d.value).contents
            ≡ both z (holds v (default_at t place) (contents_at tagging (kind_at t (row_at s target_row)) v i stop))
        go true p y q false u = refl
        go true p y q true u = absurd (let a = eqb-true (presence_at t place) 0 p in let b = eqb-true (presence_at t place) 2 u in omega arith)
        go false p true q false u = refl
        go false p true q true u = absurd (let a = eqb-true (presence_at t place) 1 q in let b = eqb-true (presence_at t place) 2 u in omega arith)
        go false p false q true u =
            let f : decode (basic (kind_at t (row_at s target_row)) (bits_after t s target_row)) tagging v i stop ≡ Some d = ap
            (λ (ty : Ty). decode ty tagging v i stop) (sym (default-kind (eqb-true (presence_at t place) 2 u))) ∙ e in
            let w = contents_are tagging (kind_at t (row_at s target_row)) (bits_after t s target_row) v i stop d f in
            ap (λ (x : List ℕ). same x (default_at t place)) w.3 ∙ ap (holds v (default_at t place)) (sym w.2)
        go false p false q false u =
            absurd (few (presence_at t place) (ok.sound.presence row here member) (eqb-false (presence_at t place) 0 p) (eqb-false (presence_at t place) 1 q)
            (eqb-false (presence_at t place) 2 u))

    module _ (x : Bool) (starting : x ≡ starts_here (member_of t row (row_at s row)) (type_from chain t s (named_at t (row_at s row))) v stop i) where
      pub member_absent : (r : Option ℕ) → not x ≡ true → r ≡ absent_checked t place i → r ≡ member_checked the_member target-type v stop i
      unfolding member_checked absent_checked member_of
      member_absent r h e =
          let off : starts_here the_member target-type v stop i ≡ false = sym starting ∙ not-true x h in
          rw off (e ∙ ap (λ (y : Bool). pick y None (Some i)) (sym (mandatory_as (presence_at t place) (default_at t place))))

      module _ (on : not x ≡ false) (y : Bool) (stored : y ≡ stored_default t s (row_at s row) v i stop) where
        there : member_checked the_member target-type v stop i ≡ checked (bind (decode target-type tagging v i stop) (λ d. pick (is_default (presence_of (presence_at t place) (default_at t place)) (spot_of d.value).contents) None (Some d)))
        unfolding member_checked member_of
        there = let h : starts_here the_member target-type v stop i ≡ true = sym starting ∙ not-false x on in rw h

        by_default_lem : (o : Option Decoded) → decode target-type tagging v i stop ≡ o
            → checked (bind o (λ d. pick (is_default (presence_of (presence_at t place) (default_at t place)) (spot_of d.value).contents) None (Some d))) ≡ pick y None (checked o)
        by_default_lem None q = go y
          where
            go : (z : Bool) → ◌≡◌ {A = Option ℕ} None (pick z None None)
            go true = refl
            go false = refl
        by_default_lem (Some d) q = ap (λ (z : Bool). checked (pick z None (Some d))) (is-default d q ∙ sym stored) ∙ go y
          where
            go : (z : Bool) → checked (pick z None (Some d)) ≡ pick z None (Some d.after)
            go true = refl
            go false = refl

        by-stored : member_checked the_member target-type v stop i ≡ pick y None (checked (decode target-type tagging v i stop))
        by-stored = there ∙ by_default_lem (decode target-type tagging v i stop) refl

        pub member-default : y ≡ true → None ≡ member_checked the_member target-type v stop i
        member-default h = sym (by-stored ∙ ap (λ (z : Bool). pick z None (checked (decode target-type tagging v i stop))) h)

        pub member_is : (r : Option ℕ) → y ≡ false → r ≡ checked (decode target-type tagging v i stop) → r ≡ member_checked the_member target-type v stop i
        member_is r h e = e ∙ sym (by-stored ∙ ap (λ (z : Bool). pick z None (checked (decode target-type tagging v i stop))) h)

      -- a plain member
      pub by-plain : x ≡ true → how (type_kind t s row) (mode_at t place) ≡ 0
          → plain_checked t place (type_kind t s row) tagging v i stop ≡ member_checked the_member target-type v stop i
      unfolding stored_default
      by-plain on h =
          plain-decoded (type_kind t s row) (mode_at t place) h (bits_after t s target_row) t place (number_at t place) v i stop
          ∙ ap (λ (ty : Ty). pick (stored_default t s place v i stop) None (checked (decode ty tagging v i stop)))
          (sym (basic_type (plain_basic (type_kind t s row) (mode_at t place) h)))
          ∙ sym (by-stored (ap not on) (stored_default t s place v i stop) refl)

-- ---- members in turn
abbrev then_fields : Members → List ℕ → ℕ → Option ℕ → Bool
then_fields ms v stop None = false
then_fields ms v stop (Some x) = is_some (fields_from ms v stop x)

fields_next : (mem : Member) (ty : Ty) (ms : Members) (v : List ℕ) (stop i : ℕ) → is_some (fields_from (more mem ty ms) v stop i) ≡ then_fields ms v stop (member_checked mem ty v stop i)
unfolding unwrapped member_checked decode
fields_next mem ty ms v stop i = go (starts_here mem ty v stop i) (in_wrapper after_of mem.tagging (λ a e. unwrapped ty mem.tagging v a e) v i stop)
  where
    found : (x : Bool) (d : Decoded) → is_some (bind (pick x None (Some d)) (λ d. bind (fields_from ms v stop d.after) (λ fs. Some (present mem d.value fs)))) ≡ then_fields ms v stop (checked (pick x None (Some d)))
    found true d = refl
    found false d = rest (fields_from ms v stop d.after)
      where
        rest : (o : Option Fields) → is_some (bind o (λ fs. Some (present mem d.value fs))) ≡ is_some o
        rest None = refl
        rest (Some fs) = refl

    missing : (x : Bool) → is_some (pick x None (bind (fields_from ms v stop i) (λ fs. Some (absent mem fs)))) ≡ then_fields ms v stop (pick x None (Some i))
    missing true = refl
    missing false = rest (fields_from ms v stop i)
      where
        rest : (o : Option Fields) → is_some (bind o (λ fs. Some (absent mem fs))) ≡ is_some o
        rest None = refl
        rest (Some fs) = refl

    go : (x : Bool) (o : Option Decoded) → is_some (pick x (present_then mem (λ i. fields_from ms v stop i) o) (absent_then mem (fields_from ms v stop i)))
        ≡ then_fields ms v stop (pick x (checked (bind o (unless_default mem))) (pick (is_mandatory mem.presence) None (Some i)))
    go true None = refl
    go true (Some d) = found (is_default mem.presence (spot_of d.value).contents) d
    go false o = missing (is_mandatory mem.presence)

-- ---- members none of which is there
past_end : (m : Member) (ty : Ty) (v : List ℕ) (stop i : ℕ) → stop ≤ i → member_checked m ty v stop i ≡ pick (is_mandatory m.presence) None (Some i)
unfolding member_checked starts_here
past_end m ty v stop i h = rw (le-ltb i stop h)

none_there : (ms : Members) (v : List ℕ) (stop i : ℕ) → stop ≤ i → is_some (fields_from ms v stop i) ≡ both (none_mandatory ms) (eqb i stop)
unfolding unwrapped none_mandatory
none_there no_more v stop i h = go (eqb i stop)
  where
    go : (x : Bool) → is_some (pick x (Some end_fields) None) ≡ x
    go true = refl
    go false = refl
none_there (more m ty ms) v stop i h =
    fields_next m ty ms v stop i ∙ ap (then_fields ms v stop) (past_end m ty v stop i h) ∙ go (is_mandatory m.presence) (none_there ms v stop i h)
  where
    go : (x : Bool) → is_some (fields_from ms v stop i) ≡ both (none_mandatory ms) (eqb i stop)
        → then_fields ms v stop (pick x None (Some i)) ≡ both (both (no x) (none_mandatory ms)) (eqb i stop)
    go true q = refl
    go false q = q

module _ (chain : ℕ) (t s : List ℕ) (row n : ℕ) where
  abbrev on : ℕ → Members
  on k = members_from (type_from chain t s) t s (row + 1 + k) (n - k)

  module _ (ms : Members) (stop i k : ℕ) (same : none_mandatory ms ≡ none_mandatory (members_from (type_from chain t s) t s (row + 1 + k) (n - k))) where
    module _ (l : n ≤ k) where
      all_absent : none_mandatory ms ≡ true
      unfolding members_from none_mandatory
      all_absent =
          let q : n - k ≡ 0 = omega arith in
          same ∙ ap (λ (x : ℕ). none_mandatory (members_from (type_from chain t s) t s (row + 1 + k) x)) q

      pub rest_beyond : (i ≡ stop → ⊥) → None ≡ rest_absent ms stop i
      unfolding rest_absent
      rest_beyond h = rw (all_absent, ne_eqb i stop h)

      pub rest_ends : i ≡ stop → Some stop ≡ rest_absent ms stop i
      unfolding rest_absent
      rest_ends h = rw (all_absent, eq-eqb i stop h)

    module _ (l : k < n) (p : ℕ) (read : p ≡ presence_at t (row_at s (row + 1 + k))) where
      one_absent : none_mandatory ms ≡ both (no (eqb p 0)) (none_mandatory (on (k + 1)))
      unfolding members_from none_mandatory
      one_absent =
          let q : n - k ≡ suc (n - (k + 1)) = omega arith in
          let a : row + 1 + k + 1 ≡ row + 1 + (k + 1) = omega arith in
          same
          ∙ ap (λ (x : ℕ). none_mandatory (members_from (type_from chain t s) t s (row + 1 + k) x)) q
          ∙ ap₂ (λ (x : Bool) (y : ℕ). both (no x) (none_mandatory (members_from (type_from chain t s) t s y (n - (k + 1)))))
          (presence_as t (row + 1 + k) (row_at s (row + 1 + k)) ∙ ap (λ (x : ℕ). eqb x 0) (sym read)) a

      pub rest_mandatory : p ≡ 0 → None ≡ rest_absent ms stop i
      unfolding rest_absent
      rest_mandatory h = rw (one_absent, eq-eqb p 0 h)

      pub rest_again : (p ≡ 0 → ⊥) → none_mandatory ms ≡ none_mandatory (members_from (type_from chain t s) t s (row + 1 + (k + 1)) (n - (k + 1)))
      rest_again h = one_absent ∙ ap (λ (x : Bool). both (no x) (none_mandatory (on (k + 1)))) (ne_eqb p 0 h)

-- ---- the loop over the members of a SEQUENCE
-- the members from j on at i, of n in all, have the answer of all of them
pub record Fielded (chain : ℕ) (t s : List ℕ) (row : ℕ) (v : List ℕ) (start stop n i j : ℕ) : Type 0 where
  pub count : n ≡ members_at t (row_at s row)
  pub few : j ≤ n
  pub same : is_some (fields_from (members_from (type_from chain t s) t s (row + 1 + j) (n - j)) v stop i) ≡ is_some (fields_from (members_from (type_from chain t s) t s (row + 1) n) v stop start)

module _ (chain : ℕ) (t s m : List ℕ) (row : ℕ) (ok : Sound chain t s m) (here : row < length s) (v : List ℕ) (start stop : ℕ) where
  pub fields-start : (n : ℕ) → n ≡ members_at t (row_at s row) → Fielded chain t s row v start stop n start 0
  fields-start n q =
      let a : row + 1 + 0 ≡ row + 1 = omega arith in
      let b : n - 0 ≡ n = omega arith in
      record { count = q; few = omega arith; same = ap₂ (λ (x y : ℕ). is_some (fields_from (members_from (type_from chain t s) t s x y) v stop start)) a b }

  module _ (n i j : ℕ) (w : Fielded chain t s row v start stop n i j) where
    whole : up_to stop (is_some (fields_from (members_from (type_from chain t s) t s (row + 1 + j) (n - j)) v stop i)) ≡ fields_checked (members_from (type_from chain t s) t s (row + 1) (members_at t (row_at s row))) v stop start
    unfolding fields_checked
    whole = ap (up_to stop) (w.same ∙ ap (λ (x : ℕ). is_some (fields_from (members_from (type_from chain t s) t s (row + 1) x) v stop start)) w.count)

    pub fields_absent : (r : Option ℕ) → stop ≤ i
        → r ≡ rest_absent (members_from (type_from chain t s) t s (row + 1 + j) (members_at t (row_at s row) - j)) stop i
        → r ≡ fields_checked (members_from (type_from chain t s) t s (row + 1) (members_at t (row_at s row))) v stop start
    unfolding rest_absent
    fields_absent r h e =
        e
        ∙ ap (λ (x : ℕ). rest_absent (members_from (type_from chain t s) t s (row + 1 + j) (x - j)) stop i) (sym w.count)
        ∙ ap (up_to stop) (sym (none_there (members_from (type_from chain t s) t s (row + 1 + j) (n - j)) v stop i h))
        ∙ whole

    module _ (l : j < n) where
      in_row : j < members_at t (row_at s row)
      in_row = rw (← w.count) l

      pub field_here : row + 1 + j < length s
      field_here = ok.stands row here j in_row

      pub field_member : is_member (kind_at t (row_at s (row + 1 + j))) ≡ true
      field_member = ok.members row here j in_row

      pub field_falls : (k : ℕ) → 5 * (length s - row) + 2 ≡ k → 5 * (length s - named_at t (row_at s (row + 1 + j))) + 6 < k
      field_falls k e = let a = ok.later.of-member row here j in_row in let b = a.0 in let d = a.1 in omega arith

      opens : is_some (fields_from (members_from (type_from chain t s) t s (row + 1 + j) (n - j)) v stop i)
          ≡ then_fields (members_from (type_from chain t s) t s (row + 1 + j + 1) (n - (j + 1))) v stop (member_checked (member_of t (row + 1 + j) (row_at s (row + 1 + j))) (type_from chain t s (named_at t (row_at s (row + 1 + j)))) v stop i)
      unfolding members_from
      opens =
          let q : n - j ≡ suc (n - (j + 1)) = omega arith in
          ap (λ (x : ℕ). is_some (fields_from (members_from (type_from chain t s) t s (row + 1 + j) x) v stop i)) q
          ∙ fields_next (member_of t (row + 1 + j) (row_at s (row + 1 + j))) (type_from chain t s (named_at t (row_at s (row + 1 + j)))) (members_from (type_from chain t s) t s (row + 1 + j + 1) (n - (j + 1))) v stop i

      module _ (c : Option ℕ) (told-member : c ≡ member_checked (member_of t (row + 1 + j) (row_at s (row + 1 + j))) (type_from chain t s (named_at t (row_at s (row + 1 + j)))) v stop i) where
        pub fields_bad : c ≡ None → None ≡ fields_checked (members_from (type_from chain t s) t s (row + 1) (members_at t (row_at s row))) v stop start
        fields_bad e = ap (up_to stop) (sym (opens ∙ ap (then_fields (members_from (type_from chain t s) t s (row + 1 + j + 1) (n - (j + 1))) v stop) (sym told-member ∙ e))) ∙ whole

        pub fields_again : (next : ℕ) → c ≡ Some next → Fielded chain t s row v start stop n next (j + 1)
        fields_again next e =
            let a : row + 1 + (j + 1) ≡ row + 1 + j + 1 = omega arith in
            record {
              count = w.count;
              few = omega arith;
              same = ap (λ (x : ℕ). is_some (fields_from (members_from (type_from chain t s) t s x (n - (j + 1))) v stop next)) a
                  ∙ sym (opens ∙ ap (then_fields (members_from (type_from chain t s) t s (row + 1 + j + 1) (n - (j + 1))) v stop) (sym told-member ∙ e)) ∙ w.same;
            }

    module _ (l : n ≤ j) where
      ending : is_some (fields_from (members_from (type_from chain t s) t s (row + 1 + j) (n - j)) v stop i) ≡ is_some (pick (eqb i stop) (Some end_fields) None)
      unfolding members_from unwrapped
      ending = let q : n - j ≡ 0 = omega arith in ap (λ (x : ℕ). is_some (fields_from (members_from (type_from chain t s) t s (row + 1 + j) x) v stop i)) q

      pub fields_short : (i ≡ stop → ⊥) → None ≡ fields_checked (members_from (type_from chain t s) t s (row + 1) (members_at t (row_at s row))) v stop start
      fields_short h = ap (up_to stop) (sym (ending ∙ ap (λ (x : Bool). is_some (pick x (Some end_fields) None)) (ne_eqb i stop h))) ∙ whole

      pub fields_done : i ≡ stop → Some stop ≡ fields_checked (members_from (type_from chain t s) t s (row + 1) (members_at t (row_at s row))) v stop start
      fields_done h = ap (up_to stop) (sym (ending ∙ ap (λ (x : Bool). is_some (pick x (Some end_fields) None)) (eq-eqb i stop h))) ∙ whole
