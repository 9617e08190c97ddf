-- With which octets a member can begin, by its words.
use mathlib.Core.Path.{◌≡◌, refl, sym, ap, ◌∙◌}
use mathlib.Core.Bool.{Bool, true, false}
use mathlib.Core.List.{List}
use Prim.Native.Nat.{ℕ, ◌≤◌, ◌<◌, ◌+◌, ◌*◌, ◌/◌, ◌%◌}
use native.Mathlib.Omega.{arith}
use borrow.Author.Tests.{eq-eqb, ne_eqb, eqb-true, eqb-false, leb-true, lt-ltb, le-ltb}
use lib.ListN.{length, get_or}
use lib.Dec.{leb, eqb}
use lib.Bits.{bit_and, and_mask}
use Rattle.octets.specs.Pick.{pick}
use Rattle.octets.specs.Octets.{octet}
use Rattle.octets.specs.Text.{within}
use Rattle.octets.proofs.Laws.{both_true}
use Rattle.der.specs.Tag.{class, number, context, tag_of, universal, own_octet, implicit_octet, wrapper_octet}
use Rattle.der.specs.Kind.{is_constructed}
use Rattle.der.specs.Legal.{legal}
use Rattle.der.proofs.Laws.{tag_small, universal-most, universal-first}
use Rattle.rows.specs.Row.{row_at, kind_at, is_member, named_at, mode_at, number_at, presence_at, default_at}
use Rattle.clauses.specs.Clauses.{default_allowed, default_legal}
use Rattle.rows.proofs.KindLaws.{member-names}
use Rattle.types.specs.Types.{untagged, explicit, implicit, tagging_of, member_of, Ty}
use Rattle.types.specs.Begins.{begins, member_begins}
use Rattle.types.specs.Inner.Work.{bit_of}
use Rattle.types.proofs.TagLaws.{tagged_as, typed-begins}
use Rattle.table.specs.Inner.Rows.{table_rows, place_at, member_type_at, member_kind_at}
use Rattle.table.specs.Inner.Words.{first_octet, second_of, Worded}
use Rattle.value.specs.Decode.{starts_here}
use Rattle.value.specs.Inner.Work.{same_tag, opens_by}

-- ---- the functions
module _ (a b : ℕ) where
  pub tags-apart : (bit_and a 31 ≡ bit_and b 31 → ⊥) → eqb (bit_and a 31) (bit_and b 31) ≡ same_tag a b
  unfolding same_tag number
  tags-apart h = ne_eqb (bit_and a 31) (bit_and b 31) h ∙ rw (ne_eqb (a % 32) (b % 32) (λ z. h (and_mask a 5 ∙ z ∙ sym (and_mask b 5))))

  pub tags-class : bit_and a 31 ≡ bit_and b 31 → eqb (a / 64) (b / 64) ≡ same_tag a b
  unfolding same_tag number class
  tags-class h = rw (eq-eqb (a % 32) (b % 32) (sym (and_mask a 5) ∙ h ∙ and_mask b 5))

pub opens_set : (f y o : ℕ) (r : Bool) → f ≡ 0 → r ≡ bit_of y (tag_of o) → r ≡ opens_by f y o
unfolding opens_by
opens_set f y o r h e = rw (eq-eqb f 0 h) e

pub opens-octet : (f y o u : ℕ) (r : Bool) → (f ≡ 0 → ⊥) → u ≡ o → r ≡ same_tag f u → r ≡ opens_by f y o
unfolding opens_by
opens-octet f y o u r h q e = rw (ne_eqb f 0 h) (e ∙ ap (same_tag f) q)

bool_ext : (x y : Bool) → (x ≡ true → y ≡ true) → (y ≡ true → x ≡ true) → x ≡ y
bool_ext true y f g = sym (f refl)
bool_ext false true f g = g refl
bool_ext false false f g = refl

-- ---- tags of octets
module _ (u o g : ℕ) (low : u % 32 < 31) where
  tags : same_tag u o ≡ true → (u % 32 ≡ o % 32) × (u / 64 ≡ o / 64)
  unfolding same_tag number class
  tags e = let w = both_true _ _ e in (eqb-true _ _ w.0, eqb-true _ _ w.1)

  tagged : u % 32 ≡ o % 32 → u / 64 ≡ o / 64 → same_tag u o ≡ true
  unfolding same_tag number class
  tagged a b = rw (eq-eqb (u % 32) (o % 32) a, eq-eqb (u / 64) (o / 64) b)

  in_universal : o / 64 ≡ 0 → tag_of o ≡ o % 32
  unfolding tag_of class number
  in_universal h = rw (eq-eqb (o / 64) 0 h)

  in_context : o / 64 ≡ 2 → tag_of o ≡ 32 + o % 32
  unfolding tag_of class number
  in_context h = rw (ne_eqb (o / 64) 0 (λ z. omega arith), eq-eqb (o / 64) 2 h)

  in_neither : (o / 64 ≡ 0 → ⊥) → (o / 64 ≡ 2 → ⊥) → tag_of o ≡ 31
  unfolding tag_of class number
  in_neither a b = rw (ne_eqb (o / 64) 0 a, ne_eqb (o / 64) 2 b)

  pub universal-same : u / 64 ≡ 0 → u % 32 ≡ g → same_tag u o ≡ eqb (tag_of o) g
  universal-same z e =
      bool_ext _ _ (λ h. let w = tags h in eq-eqb (tag_of o) g (in_universal (sym w.1 ∙ z) ∙ sym w.0 ∙ e))
      (λ h. go (eqb (o / 64) 0) refl (eqb (o / 64) 2) refl (eqb-true (tag_of o) g h))
    where
      go : (x : Bool) → eqb (o / 64) 0 ≡ x → (y : Bool) → eqb (o / 64) 2 ≡ y → tag_of o ≡ g → same_tag u o ≡ true
      go true p y q h = let a = eqb-true (o / 64) 0 p in let b = in_universal a in tagged (omega arith) (omega arith)
      go false p true q h = absurd (let b = in_context (eqb-true (o / 64) 2 q) in omega arith)
      go false p false q h = absurd (let b = in_neither (eqb-false (o / 64) 0 p) (eqb-false (o / 64) 2 q) in omega arith)

  pub context-same : u / 64 ≡ 2 → 32 + u % 32 ≡ g → same_tag u o ≡ eqb (tag_of o) g
  context-same z e =
      bool_ext _ _ (λ h. let w = tags h in eq-eqb (tag_of o) g (in_context (sym w.1 ∙ z) ∙ ap (λ (x : ℕ). 32 + x) (sym w.0) ∙ e))
      (λ h. go (eqb (o / 64) 0) refl (eqb (o / 64) 2) refl (eqb-true (tag_of o) g h))
    where
      go : (x : Bool) → eqb (o / 64) 0 ≡ x → (y : Bool) → eqb (o / 64) 2 ≡ y → tag_of o ≡ g → same_tag u o ≡ true
      go true p y q h = absurd (let b = in_universal (eqb-true (o / 64) 0 p) in omega arith)
      go false p true q h = let a = eqb-true (o / 64) 2 q in let b = in_context a in tagged (omega arith) (omega arith)
      go false p false q h = absurd (let b = in_neither (eqb-false (o / 64) 0 p) (eqb-false (o / 64) 2 q) in omega arith)

-- ---- first tag octets: their numbers are used, and they stand for a tag
own-opens : (k o : ℕ) → (own_octet k % 32 < 31) × (same_tag (own_octet k) o ≡ eqb (tag_of o) (universal k))
unfolding own_octet
own-opens k o = go (is_constructed k)
  where
    go : (x : Bool) → ((pick x 32 0 + universal k) % 32 < 31) × (same_tag (pick x 32 0 + universal k) o ≡ eqb (tag_of o) (universal k))
    go true = let m = universal-most k in (omega arith, universal-same (32 + universal k) o (universal k) (omega arith) (omega arith) (omega arith))
    go false = let m = universal-most k in (omega arith, universal-same (0 + universal k) o (universal k) (omega arith) (omega arith) (omega arith))

wrapper_opens : (n o : ℕ) → n ≤ 30 → (1 ≤ wrapper_octet n) × (wrapper_octet n % 32 < 31) × (same_tag (wrapper_octet n) o ≡ eqb (tag_of o) (context n))
unfolding wrapper_octet
wrapper_opens n o l = (omega arith, omega arith, context-same (160 + n) o (context n) (omega arith) (omega arith) (omega arith))

implicit-opens : (n k o : ℕ) → n ≤ 30 → (1 ≤ implicit_octet n k) × (implicit_octet n k % 32 < 31) × (same_tag (implicit_octet n k) o ≡ eqb (tag_of o) (context n))
unfolding implicit_octet
implicit-opens n k o l = go (is_constructed k)
  where
    go : (x : Bool) → (1 ≤ 128 + pick x 32 0 + n) × ((128 + pick x 32 0 + n) % 32 < 31) × (same_tag (128 + pick x 32 0 + n) o ≡ eqb (tag_of o) (context n))
    go true = (omega arith, omega arith, context-same (128 + 32 + n) o (context n) (omega arith) (omega arith) (omega arith))
    go false = (omega arith, omega arith, context-same (128 + 0 + n) o (context n) (omega arith) (omega arith) (omega arith))

-- the first three kinds have a tag octet
own_first : (k : ℕ) → 1 ≤ k → k ≤ 3 → 1 ≤ own_octet k
unfolding own_octet
own_first k h g = let u = universal-first k h g in omega arith

pub kind_usable : (k o : ℕ) → o ≡ own_octet k → number o < 31
unfolding number
kind_usable k o e = rw e (own-opens k 0).0

pub own_usable : (k f : ℕ) → f ≡ first_octet untagged k → number f < 31
unfolding number first_octet
own_usable k f e = rw e (go (eqb k 13))
  where
    go : (x : Bool) → pick x 0 (own_octet k) % 32 < 31
    go true = omega arith
    go false = (own-opens k 0).0

-- ---- a member's words say with which octets it can begin
module _ (t w : List ℕ) (row : ℕ) (ok : Worded t w) (here : row < length (table_rows t)) (member : is_member (kind_at t (place_at t row)) ≡ true) where
  abbrev p : ℕ
  p = place_at t row

  abbrev target : Ty
  target = member_type_at t row

  abbrev k : ℕ
  k = member_kind_at t row

  -- a default is one of the first three kinds
  default-kind : presence_at t p ≡ 2 → (1 ≤ k) × (k ≤ 3)
  unfolding default_legal default_allowed
  default-kind e =
      let allowed = rw (member, e) at (ok.ready.sound.defaults row here) in
      let d = both_true (within 1 3 (member_kind_at t row)) (legal (member_kind_at t row) (default_at t (place_at t row))) allowed in
      let b = both_true (leb 1 (member_kind_at t row)) (leb (member_kind_at t row) 3) d.0 in
      (leb-true 1 (member_kind_at t row) b.0, leb-true (member_kind_at t row) 3 b.1)

  pub default-small : presence_at t p ≡ 2 → k ≤ 3
  default-small e = (default-kind e).1

  set_here : (presence_at t p ≡ 2 → ⊥) → second_of t (table_rows t) ok.m row ≡ row_at ok.m (named_at t p)
  unfolding second_of
  set_here h = rw (member, ne_eqb (presence_at t p) 2 h)

  number-low : number_at t p ≤ 30
  number-low = ok.ready.number row here member

  target-here : named_at t p < length (table_rows t)
  target-here = ok.ready.target row here (member-names t p member)

  by_kind : (o : ℕ) → (k ≡ 13 → ⊥) → begins target (tag_of o) ≡ eqb (tag_of o) (universal k)
  by_kind o h = ap (λ (x : Ty). begins x (tag_of o)) (ok.ready.sound.step (named_at t p) target-here)
      ∙ typed-begins t (table_rows t) (named_at t p) _ _ (tag_of o) h

  -- the first tag octet of a type that is no CHOICE tells with which octets the member can begin
  first_as : (o : ℕ) → (k ≡ 13 → ⊥)
      → same_tag (first_octet (tagging_of (mode_at t p) (number_at t p)) k) o ≡ pick (eqb (mode_at t p) 0) (begins target (tag_of o)) (eqb (tag_of o) (context (number_at t p)))
  unfolding tagging_of first_octet
  first_as o h = go (eqb (mode_at t p) 0) (eqb (mode_at t p) 1)
    where
      go : (a b : Bool) → same_tag (first_octet (pick a untagged (pick b (explicit (number_at t p)) (implicit (number_at t p)))) k) o ≡ pick a (begins target (tag_of o)) (eqb (tag_of o) (context (number_at t p)))
      go true b = rw (ne_eqb k 13 h) ((own-opens k o).1 ∙ sym (by_kind o h))
      go false true = (wrapper_opens (number_at t p) o number-low).2
      go false false = (implicit-opens (number_at t p) k o number-low).2

  pub begins-same : (f o : ℕ) → f ≡ first_octet (tagging_of (mode_at t p) (number_at t p)) k → (k ≡ 13 → ⊥) → same_tag f o ≡ member_begins (member_of t row p) target (tag_of o)
  unfolding member_begins member_of
  begins-same f o e h = ap (λ (x : ℕ). same_tag x o) e ∙ first_as o h ∙ sym (tagged_as (mode_at t p) (number_at t p) (tag_of o) (begins target (tag_of o)))

  pub first_usable : (f : ℕ) → f ≡ first_octet (tagging_of (mode_at t (place_at t row)) (number_at t (place_at t row))) (member_kind_at t row) → number f < 31
  unfolding tagging_of first_octet number
  first_usable f e = rw e (go (eqb (mode_at t p) 0) (eqb (mode_at t p) 1))
    where
      go : (a b : Bool) → first_octet (pick a untagged (pick b (explicit (number_at t p)) (implicit (number_at t p)))) k % 32 < 31
      go true b = own_usable k _ refl
      go false true = (wrapper_opens (number_at t p) 0 number-low).1
      go false false = (implicit-opens (number_at t p) k 0 number-low).1

  module _ (f y o : ℕ) (first : f ≡ first_octet (tagging_of (mode_at t p) (number_at t p)) k) (after : y ≡ get_or w (2 * row + 1) 0) where
    abbrev g : ℕ
    g = tag_of o

    by_set : (presence_at t p ≡ 2 → ⊥) → bit_of y g ≡ begins target g
    by_set h = ap (λ (x : ℕ). bit_of x (tag_of o)) (after ∙ ok.filled.second row here ∙ set_here h)
        ∙ ok.ready.sound.masked.says (named_at t p) target-here (tag_of o) (tag_small o)

    opens_as : opens_by (first_octet (tagging_of (mode_at t p) (number_at t p)) k) y o ≡ pick (eqb (mode_at t p) 0) (begins target g) (eqb g (context (number_at t p)))
    unfolding tagging_of first_octet opens_by
    opens_as = go (eqb (mode_at t p) 0) (eqb (mode_at t p) 1) (eqb k 13) refl
      where
        by-octet : (u : ℕ) (z : Bool) → 1 ≤ u → same_tag u o ≡ z → pick (eqb u 0) (bit_of y (tag_of o)) (same_tag u o) ≡ z
        by-octet u z h e = rw (ne_eqb u 0 (λ q. omega arith)) e

        own : (x : Bool) → eqb (own_octet k) 0 ≡ x → (k ≡ 13 → ⊥) → pick x (bit_of y (tag_of o)) (same_tag (own_octet k) o) ≡ begins target (tag_of o)
        own true q h = by_set (λ z. let d = default-kind z in let u = own_first k d.0 d.1 in let e = eqb-true (own_octet k) 0 q in omega arith)
        own false q h = (own-opens k o).1 ∙ sym (by_kind o h)

        go : (a b c : Bool) → eqb k 13 ≡ c
            → opens_by (first_octet (pick a untagged (pick b (explicit (number_at t p)) (implicit (number_at t p)))) k) y o ≡ pick a (begins target (tag_of o))
            (eqb (tag_of o) (context (number_at t p)))
        go true b true e = rw e (by_set (λ z. let l = default-small z in let q = eqb-true k 13 e in omega arith))
        go true b false e = rw e (own (eqb (own_octet k) 0) refl (eqb-false k 13 e))
        go false true c e = let w = wrapper_opens (number_at t p) o number-low in by-octet (wrapper_octet (number_at t p)) _ w.0 w.2
        go false false c e = let w = implicit-opens (number_at t p) k o number-low in by-octet (implicit_octet (number_at t p) k) _ w.0 w.2

    pub begins_as : (r : Bool) → r ≡ opens_by f y o → r ≡ member_begins (member_of t row p) target (tag_of o)
    unfolding member_begins member_of
    begins_as r e = e ∙ ap (λ (x : ℕ). opens_by x y o) first ∙ opens_as ∙ sym (tagged_as (mode_at t p) (number_at t p) (tag_of o) (begins target (tag_of o)))

  module _ (v : List ℕ) (stop i : ℕ) where
    pub starts-past : stop ≤ i → false ≡ starts_here (member_of t row p) target v stop i
    unfolding starts_here
    starts-past h = rw (le-ltb i stop h)

    pub starts_is : (r : Bool) → i < stop → r ≡ member_begins (member_of t row p) target (tag_of (octet v i)) → r ≡ starts_here (member_of t row p) target v stop i
    unfolding starts_here
    starts_is r h q = rw (lt-ltb i stop h) q
