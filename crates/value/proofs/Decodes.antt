-- The families of `specs/Inner/Decodes` are made from the decoder's equations; what they say of the header at a value's place.
use mathlib.Core.Path.{◌≡◌, refl, sym, ap₂, ◌∙◌, subst}
use mathlib.Core.Bool.{Bool, true, false}
use Rattle.std.specs.Prelude.{Option, None, Some}
use mathlib.Core.List.{List}
use Prim.Native.Nat.{ℕ, zero, suc, ◌≤◌, ◌+◌}
use borrow.Author.Tests.{eqb-true, eq-eqb, ltb-true, ltb-false}
use lib.ListN.{length}
use lib.Dec.{ltb, eqb}
use Rattle.octets.specs.Pick.{pick}
use Rattle.octets.specs.Octets.{octet}
use Rattle.der.specs.Tag.{wrapper_octet}
use Rattle.der.specs.Header.{header_at, inside_at, any_tag}
use Rattle.der.proofs.Laws.{inside_view, any-view, some_triple_parts}
use Rattle.types.specs.Types.{Tagging, untagged, explicit, implicit, Ty, basic, sequence, choice, list_of, Members, no_more, more}
use Rattle.value.specs.Value.{spot_at, spot_of, Value}
use Rattle.value.specs.Value.{Fields, end_fields, Values, end_values}
use Rattle.value.specs.Decode.{Decoded, after_of, in_wrapper, starts_here, choice_of, present_then, absent_then}
use Rattle.value.specs.Decode.{many, unwrapped, fields_from, alternative_from, decode, stored_value}
pub use Rattle.value.specs.Inner.Decodes.{Behind, Decodes, is_basic_type, is-sequence, is-choice, is-list, Tagged, bare, filling}
pub use Rattle.value.specs.Inner.Decodes.{Fielded, none_left, there, lacks, Chosen, this, other, Elements, ends, goes}
use Rattle.value.proofs.Views.{none-some, some_same, bind_view, pick_view, wrapper_view}
use Rattle.value.proofs.Views.{leaf_view, fields_view, elements_view, choice_view, many-end, many_zero, many_more, next_view, present_view, absent_view}

-- ---- what is decoded at a place ends with the header there
pub record Framed (v : List ℕ) (at end after : ℕ) : Type 0 where
  pub octet : ℕ
  pub start : ℕ
  pub n : ℕ
  pub header : header_at v at end ≡ Some (octet, start, n)
  pub ends : start + n ≡ after

-- a value's own spot is that of the header at its place
pub record Own (v : List ℕ) (at end : ℕ) (x : Value) (after : ℕ) : Type 0 where
  pub octet : ℕ
  pub start : ℕ
  pub n : ℕ
  pub behind : Behind v octet at end start n (spot_of x) after

pub framed : {v : List ℕ} {at end : ℕ} {x : Value} {after : ℕ} → Own v at end x after → Framed v at end after
framed {v = v} {at = at} {end = end} w =
    let h = inside_view w.octet v at end w.start w.n w.behind.header in
    record { octet = w.octet; start = w.start; n = w.n; header = h; ends = w.behind.ends }

unfoldable pub own_behind : {v : List ℕ} {octet at end start n : ℕ} {x : Value} {after : ℕ} → Behind v octet at end start n (spot_of x) after
    → Own v at end x after
own_behind {octet = octet} {start = start} {n = n} b = record { octet = octet; start = start; n = n; behind = b }

pub own-choice : {v : List ℕ} {end at : ℕ} {ms : Members} {x : Value} {after : ℕ} → Chosen v end at ms x after → Own v at end x after
own-choice (this q t b) = own_behind b
own-choice (other q c) = own-choice c

pub own : {v : List ℕ} {ty : Ty} {g : Tagging} {at end : ℕ} {x : Value} {after : ℕ} → Decodes v ty g at end x after → Own v at end x after
own (is_basic_type b l) = own_behind b
own (is-sequence b w) = own_behind b
own (is-choice c) = own-choice c
own (is-list b w r) = own_behind b

-- under any tag mode
pub framed_by : {v : List ℕ} {ty : Ty} {g : Tagging} {at end : ℕ} {x : Value} {after : ℕ} → Tagged v ty g at end x after → Framed v at end after
framed_by (bare q d) = framed (own d)
framed_by {v = v} (filling {k = k} {at = at} {end = end} {start = start} {n = n} e d q) =
    record { octet = wrapper_octet k; start = start; n = n; header = inside_view (wrapper_octet k) v at end start n e; ends = sym q }

-- ---- made from the decoder's equations
behind : {v : List ℕ} {octet at end start n : ℕ} → inside_at octet v at end ≡ Some (start, n) → Behind v octet at end start n (spot_at v at start n) (start + n)
behind e = record { header = e; spot = refl; ends = refl }

found-same : (a b c x y z : ℕ) → ◌≡◌ {A = Option (ℕ × ℕ × ℕ)} (Some (a, b, c)) (Some (x, y, z)) → b + c ≡ y + z
found-same a b c x y z e = let p = some_triple_parts a x b y c z e in ap₂ ◌+◌ p.1 p.2

-- any header there, where what is decoded ends with it
behind_any : (v : List ℕ) (at end start n after : ℕ) → any_tag (header_at v at end) ≡ Some (start, n) → Framed v at end after
    → Behind v (octet v at) at end start n (spot_at v at start n) after
unfolding inside_at
behind_any v at end start n after e w =
    let h = any-view v at end start n e in
    let ends = found-same _ start n _ w.start w.n (sym h ∙ w.header) ∙ w.ends in
    record { header = rw (h, eq-eqb (octet v at) (octet v at) refl); spot = refl; ends = ends }

-- what is decoded inside a wrapper, at any place, is made; the same under a tag mode, at a place
abbrev Made : List ℕ → Ty → Tagging → Decoded → Type 0
Made v ty g d = (a e : ℕ) → unwrapped ty g v a e ≡ Some d → Decodes v ty g a e d.value d.after

abbrev MadeTagged : List ℕ → Ty → Tagging → ℕ → ℕ → Decoded → Type 0
MadeTagged v ty g at end d = in_wrapper after_of g (λ a e. unwrapped ty g v a e) v at end ≡ Some d → Tagged v ty g at end d.value d.after

tagged-by : (ty : Ty) (g : Tagging) (v : List ℕ) (at end : ℕ) (d : Decoded) → Made v ty g d → MadeTagged v ty g at end d
unfolding in_wrapper
tagged-by ty untagged v at end d one e = bare refl (one at end e)
tagged-by ty (implicit n) v at end d one e = bare refl (one at end e)
tagged-by ty (explicit n) v at end d one e =
    let w = wrapper_view after_of v at end d n (λ a e. unwrapped ty (explicit n) v a e) e in filling w.2 (one w.0 (w.0 + w.1) w.3) w.4

-- elements, where one is made
elements_by : (v : List ℕ) (ty : Ty) → ((d : Decoded) → Made v ty untagged d)
    → (k stop i : ℕ) (xs : Values) → many (λ i stop. unwrapped ty untagged v i stop) k stop i ≡ Some xs → Elements v ty stop k i xs
elements_by v ty one k stop i xs e = go k i xs e
  where
    f : ℕ → ℕ → Option Decoded
    f i stop = unwrapped ty untagged v i stop

    over : (k i : ℕ) (xs : Values) → many f k stop i ≡ Some xs → stop ≤ i → Elements v ty stop k i xs
    over k i xs e q = subst (Elements v ty stop k i) (some_same end_values xs (sym (many-end f stop i k q) ∙ e)) (ends q)

    go : (k i : ℕ) (xs : Values) → many f k stop i ≡ Some xs → Elements v ty stop k i xs
    go zero i xs e = by (ltb i stop) refl
      where
        by : (x : Bool) → ltb i stop ≡ x → Elements v ty stop zero i xs
        by true q = none-some xs (sym (many_zero f stop i (ltb-true i stop q)) ∙ e)
        by false q = over zero i xs e (ltb-false i stop q)
    go (suc k) i xs e = by (ltb i stop) refl (λ j ys. go k j ys)
      where
        by : (x : Bool) → ltb i stop ≡ x → ((j : ℕ) (ys : Values) → many f k stop j ≡ Some ys → Elements v ty stop k j ys) → Elements v ty stop (suc k) i xs
        by false q rest = over (suc k) i xs e (ltb-false i stop q)
        by true q rest =
            let w = next_view (λ j. many f k stop j) (f i stop) xs (sym (many_more f stop i k (ltb-true i stop q)) ∙ e) in
            subst (Elements v ty stop (suc k) i) w.4 (goes (ltb-true i stop q) (one w.0 i stop w.2) (rest w.0.after w.1 w.3))

mutual
  unfolding unwrapped

  pub decodes : (ty : Ty) (g : Tagging) (v : List ℕ) (at end : ℕ) (d : Decoded) → unwrapped ty g v at end ≡ Some d → Decodes v ty g at end d.value d.after
  decodes (basic k names) g v at end d e =
      let w = leaf_view v at end d k names g e in
      subst (λ (y : Decoded). Decodes v (basic k names) g at end y.value y.after) w.4 (is_basic_type (behind w.2) w.3)
  decodes (sequence ms) g v at end d e =
      let w = fields_view v at end d ms g e in
      let members = decodes-fields ms v (w.0 + w.1) w.0 w.2 w.4 in
      subst (λ (y : Decoded). Decodes v (sequence ms) g at end y.value y.after) w.5 (is-sequence (behind w.3) members)
  decodes (choice ms) g v at end d e = is-choice (decodes-choice ms v at end d e)
  decodes (list_of k ty) g v at end d e =
      let w = elements_view v at end d k ty g e in
      let turn = elements_by v ty (λ x i stop q. decodes ty untagged v i stop x q) w.1 (w.0 + w.1) w.0 w.2 w.4 in
      subst (λ (y : Decoded). Decodes v (list_of k ty) g at end y.value y.after) w.6 (is-list (behind w.3) turn w.5)

  decodes-fields : (ms : Members) (v : List ℕ) (stop i : ℕ) (fs : Fields) → fields_from ms v stop i ≡ Some fs → Fielded v stop ms i fs
  decodes-fields no_more v stop i fs e =
      let w = pick_view (eqb i stop) end_fields fs e in subst (Fielded v stop no_more i) w.1 (none_left (eqb-true i stop w.0))
  decodes-fields (more m ty ms) v stop i fs e =
      go (starts_here m ty v stop i) refl (λ d q. tagged-by ty m.tagging v i stop d (λ a z r. decodes ty m.tagging v a z d r) q)
      (λ j gs r. decodes-fields ms v stop j gs r) e
    where
      member : Option Decoded
      member = in_wrapper after_of m.tagging (λ a e. unwrapped ty m.tagging v a e) v i stop

      rest : ℕ → Option Fields
      rest i = fields_from ms v stop i

      go : (b : Bool) → starts_here m ty v stop i ≡ b → ((d : Decoded) → MadeTagged v ty m.tagging i stop d)
          → ((j : ℕ) (gs : Fields) → rest j ≡ Some gs → Fielded v stop ms j gs)
          → pick b (present_then m rest member) (absent_then m (rest i)) ≡ Some fs → Fielded v stop (more m ty ms) i fs
      go true q one others f =
          let w = present_view m rest member fs f in
          subst (Fielded v stop (more m ty ms) i) w.5 (there q (one w.0 w.2) w.3 (others w.0.after w.1 w.4))
      go false q one others f = let w = absent_view m (rest i) fs f in subst (Fielded v stop (more m ty ms) i) w.3 (lacks q w.1 (others i w.0 w.2))

  decodes-choice : (ms : Members) (v : List ℕ) (at end : ℕ) (d : Decoded) → alternative_from ms v at end ≡ Some d → Chosen v end at ms d.value d.after
  decodes-choice no_more v at end d e = none-some d e
  decodes-choice (more m ty ms) v at end d e =
      go (starts_here m ty v end at) refl (λ x q. tagged-by ty m.tagging v at end x (λ a z r. decodes ty m.tagging v a z x r) q)
      (λ q. decodes-choice ms v at end d q) e
    where
      alternative : Option Decoded
      alternative = in_wrapper after_of m.tagging (λ a e. unwrapped ty m.tagging v a e) v at end

      go : (b : Bool) → starts_here m ty v end at ≡ b → ((x : Decoded) → MadeTagged v ty m.tagging at end x)
          → (alternative_from ms v at end ≡ Some d → Chosen v end at ms d.value d.after)
          → pick b (choice_of m v at end alternative) (alternative_from ms v at end) ≡ Some d → Chosen v end at (more m ty ms) d.value d.after
      go true q one others f =
          let w = choice_view v at end d m alternative f in
          let t = one w.0 w.3 in
          subst (λ (y : Decoded). Chosen v end at (more m ty ms) y.value y.after) w.5
          (this q t (behind_any v at end w.1 w.2 w.0.after w.4 (framed_by t)))
      go false q one others f = other q (others f)

-- under a tag mode
pub decodes-tagged : (ty : Ty) (g : Tagging) (v : List ℕ) (at end : ℕ) (d : Decoded) → decode ty g v at end ≡ Some d
    → Tagged v ty g at end d.value d.after
unfolding decode
decodes-tagged ty g v at end d e = tagged-by ty g v at end d (λ a z. decodes ty g v a z d) e

-- a stored value, from the first octet to the last
pub decodes-stored : (ty : Ty) (v : List ℕ) (x : Value) → stored_value ty v ≡ Some x → Decodes v ty untagged 0 (length v) x (length v)
unfolding stored_value decode in_wrapper
decodes-stored ty v x e =
    let w = bind_view (unwrapped ty untagged v 0 (length v)) (λ d. pick (eqb d.after (length v)) (Some d.value) None) x e in
    let p = pick_view (eqb w.0.after (length v)) w.0.value x w.2 in
    subst (λ (y : Value). Decodes v ty untagged 0 (length v) y (length v)) p.1
    (subst (Decodes v ty untagged 0 (length v) w.0.value) (eqb-true w.0.after (length v) p.0) (decodes ty untagged v 0 (length v) w.0 w.1))
