-- Views of the decoder's equations: what each part of it says, where it gives a value. The families of `Decodes` are made of these.
use mathlib.Core.Path.{◌≡◌, refl, sym, ap, ◌∙◌}
use mathlib.Core.Bool.{Bool, true, false, false≢true}
use Rattle.std.specs.Prelude.{Option, None, Some}
use mathlib.Core.List.{List}
use Prim.Native.Nat.{ℕ, zero, suc, ◌≤◌, ◌<◌, ◌+◌}
use native.Mathlib.Omega.{arith}
use borrow.Author.Tests.{eqb-true, lt-ltb, le-ltb}
use lib.Dec.{eqb}
use Rattle.octets.specs.Pick.{pick, either, bind}
use Rattle.octets.specs.Octets.{part}
use Rattle.der.specs.Kind as kind
use Rattle.der.specs.Tag.{wrapper_octet}
use Rattle.der.specs.Header.{header_at, inside_at, any_tag, opened}
use Rattle.der.specs.Legal.{legal}
use Rattle.types.specs.Types.{Tagging, untagged, explicit, implicit, Member, NamedBit, Ty, basic, sequence, list_of, Members}
use Rattle.types.specs.Begins.{is_mandatory}
use Rattle.value.specs.Inner.Decodes.{is_bare}
use Rattle.value.specs.Value.{spot_at, spot_of, leaf, fields, chosen, elements, Fields, present, absent, Values, end_values, next}
use Rattle.value.specs.Order.{rising}
use Rattle.value.specs.Decode.{Decoded, decoded, tag_octet, inside, in_wrapper, leaf_of, fields_of, elements_of, choice_of, is_default, unless_default}
use Rattle.value.specs.Decode.{present_then, absent_then, next_then, many, unwrapped, fields_from}

-- ---- things that are there
pub none-some : {A B : Type 0} (a : A) → ◌≡◌ {A = Option A} None (Some a) → B
none-some a e = absurd (let z : ◌≡◌ {A = ℕ} 0 1 = cc in omega arith)

pub some_same : {A : Type 0} (a b : A) → ◌≡◌ {A = Option A} (Some a) (Some b) → a ≡ b
some_same a b e = cc

pub bind_view : {A B : Type 0} (o : Option A) (f : A → Option B) (b : B) → bind o f ≡ Some b → (a : A) × (o ≡ Some a) × (f a ≡ Some b)
bind_view None f b e = none-some b e
bind_view (Some a) f b e = (a, refl, e)

pub pick_view : {A : Type 0} (t : Bool) (a b : A) → pick t (Some a) None ≡ Some b → (t ≡ true) × (a ≡ b)
pick_view true a b e = (refl, some_same a b e)
pick_view false a b e = none-some b e

pub opened_view : {A : Type 0} (i : Option (ℕ × ℕ)) (f : ℕ → ℕ → Option A) (a : A) → opened i f ≡ Some a → (start : ℕ) × (n : ℕ) × (i ≡ Some (start, n)) × (f start n ≡ Some a)
opened_view None f a e = none-some a e
opened_view (Some (start, n)) f a e = (start, n, refl, e)

-- ---- values
module _ (v : List ℕ) (at end : ℕ) (d : Decoded) where
  -- a basic value: its header, legal contents, its spot
  pub leaf_view : (k : ℕ) (names : List NamedBit) (g : Tagging) → unwrapped (basic k names) g v at end ≡ Some d
      → (start : ℕ) × (n : ℕ) × (inside_at (tag_octet g k) v at end ≡ Some (start, n)) × (legal k (part v start n) ≡ true) × (record { value = leaf k (spot_at v at start n); after = start + n } ≡ d)
  unfolding unwrapped
  leaf_view k names g e =
      let w = opened_view (inside_at (tag_octet g k) v at end) (leaf_of k v at) d e in
      let p = pick_view (legal k (part v w.0 w.1)) _ d w.3 in
      (w.0, w.1, w.2, p.0, p.1)

  -- a SEQUENCE: its header, its members, its spot
  pub fields_view : (ms : Members) (g : Tagging) → unwrapped (sequence ms) g v at end ≡ Some d
      → (start : ℕ) × (n : ℕ) × (fs : Fields) × (inside_at (tag_octet g kind.sequence) v at end ≡ Some (start, n)) × (fields_from ms v (start + n) start ≡ Some fs) × (record { value = fields (spot_at v at start n) fs; after = start + n } ≡ d)
  unfolding unwrapped
  fields_view ms g e =
      let w = opened_view (inside_at (tag_octet g kind.sequence) v at end) (fields_of v at (λ stop i. fields_from ms v stop i)) d e in
      let b = bind_view (fields_from ms v (w.0 + w.1) w.0) (λ fs. decoded (fields (spot_at v at w.0 w.1) fs) (w.0 + w.1)) d w.3 in
      (w.0, w.1, b.0, w.2, b.1, some_same _ d b.2)

  -- a SEQUENCE OF or SET OF: its header, its elements in order, its spot
  pub elements_view : (k : ℕ) (ty : Ty) (g : Tagging) → unwrapped (list_of k ty) g v at end ≡ Some d
      → (start : ℕ) × (n : ℕ) × (xs : Values) × (inside_at (tag_octet g k) v at end ≡ Some (start, n)) × (many (λ i stop. unwrapped ty untagged v i stop) n (start + n) start ≡ Some xs)
      × (either (eqb k kind.sequence_of) (rising v xs) ≡ true) × (record { value = elements (spot_at v at start n) xs; after = start + n } ≡ d)
  unfolding unwrapped
  elements_view k ty g e =
      let w = opened_view (inside_at (tag_octet g k) v at end) (elements_of k v at (many (λ i stop. unwrapped ty untagged v i stop))) d e in
      let b = bind_view (many (λ i stop. unwrapped ty untagged v i stop) w.1 (w.0 + w.1) w.0) (λ xs. pick (either (eqb k kind.sequence_of) (rising v xs)) (decoded (elements (spot_at v at w.0 w.1) xs) (w.0 + w.1)) None) d w.3 in
      let p = pick_view (either (eqb k kind.sequence_of) (rising v b.0)) _ d b.2 in
      (w.0, w.1, b.0, w.2, b.1, p.0, p.1)

  -- a CHOICE is its alternative, behind any header
  pub choice_view : (m : Member) (alternative : Option Decoded) → choice_of m v at end alternative ≡ Some d
      → (x : Decoded) × (start : ℕ) × (n : ℕ) × (alternative ≡ Some x) × (any_tag (header_at v at end) ≡ Some (start, n)) × (record { value = chosen (spot_at v at start n) m x.value; after = x.after } ≡ d)
  choice_view m alternative e =
      let b = bind_view alternative (λ x. opened (any_tag (header_at v at end)) (λ start n. decoded (chosen (spot_at v at start n) m x.value) x.after)) d e in
      let w = opened_view (any_tag (header_at v at end)) (λ start n. decoded (chosen (spot_at v at start n) m b.0.value) b.0.after) d b.2 in
      (b.0, w.0, w.1, b.1, w.2, some_same _ d w.3)

-- what is read under a tag mode; `after` is the place after it
module _ {A : Type 0} (after : A → ℕ) where
  pub in_bare : (g : Tagging) (f : ℕ → ℕ → Option A) (v : List ℕ) (at end : ℕ) → is_bare g ≡ true → in_wrapper after g f v at end ≡ f at end
  unfolding in_wrapper
  in_bare untagged f v at end q = refl
  in_bare (implicit n) f v at end q = refl
  in_bare (explicit n) f v at end q = absurd (false≢true q)

  pub in_explicit : (n : ℕ) (f : ℕ → ℕ → Option A) (v : List ℕ) (at end : ℕ)
      → in_wrapper after (explicit n) f v at end ≡ opened (inside_at (wrapper_octet n) v at end) (inside after f)
  unfolding in_wrapper
  in_explicit n f v at end = refl

  -- under an explicit tag: a wrapper that the value fills
  pub wrapper_view : (v : List ℕ) (at end : ℕ) (d : A) (k : ℕ) (f : ℕ → ℕ → Option A) → in_wrapper after (explicit k) f v at end ≡ Some d
      → (start : ℕ) × (n : ℕ) × (inside_at (wrapper_octet k) v at end ≡ Some (start, n)) × (f start (start + n) ≡ Some d) × (after d ≡ start + n)
  unfolding in_wrapper
  wrapper_view v at end d k f e =
      let w = opened_view (inside_at (wrapper_octet k) v at end) (inside after f) d e in
      let b = bind_view (f w.0 (w.0 + w.1)) (λ a. pick (eqb (after a) (w.0 + w.1)) (Some a) None) d w.3 in
      let p = pick_view (eqb (after b.0) (w.0 + w.1)) b.0 d b.2 in
      (w.0, w.1, w.2, b.1 ∙ ap Some p.1, ap after (sym p.1) ∙ eqb-true (after b.0) (w.0 + w.1) p.0)

-- ---- elements in turn
module _ (f : ℕ → ℕ → Option Decoded) (stop i : ℕ) where
  pub many-end : (k : ℕ) → stop ≤ i → many f k stop i ≡ Some end_values
  unfolding many
  many-end zero h = rw (le-ltb i stop h)
  many-end (suc k) h = rw (le-ltb i stop h)

  pub many_zero : i < stop → many f 0 stop i ≡ None
  unfolding many
  many_zero h = rw (lt-ltb i stop h)

  pub many_more : (k : ℕ) → i < stop → many f (suc k) stop i ≡ next_then (λ j. many f k stop j) (f i stop)
  unfolding many
  many_more k h = rw (lt-ltb i stop h)

-- the first of some elements, and those after it
pub next_view : (rest : ℕ → Option Values) (element : Option Decoded) (xs : Values) → next_then rest element ≡ Some xs
    → (d : Decoded) × (ys : Values) × (element ≡ Some d) × (rest d.after ≡ Some ys) × (next d.value ys ≡ xs)
next_view rest element xs e =
    let b = bind_view element (λ d. bind (rest d.after) (λ ys. Some (next d.value ys))) xs e in
    let c = bind_view (rest b.0.after) (λ ys. Some (next b.0.value ys)) xs b.2 in
    (b.0, c.0, b.1, c.1, some_same _ xs c.2)

-- ---- members in turn: one that is there, and those after it; one that isn't
pub present_view : (m : Member) (rest : ℕ → Option Fields) (member : Option Decoded) (fs : Fields) → present_then m rest member ≡ Some fs
    → (d : Decoded) × (gs : Fields) × (member ≡ Some d) × (is_default m.presence (spot_of d.value).contents ≡ false) × (rest d.after ≡ Some gs)
    × (present m d.value gs ≡ fs)
present_view m rest member fs e =
    let b = bind_view member (λ any. bind (unless_default m any) (λ d. bind (rest d.after) (λ gs. Some (present m d.value gs)))) fs e in
    let c = bind_view (unless_default m b.0) (λ d. bind (rest d.after) (λ gs. Some (present m d.value gs))) fs b.2 in
    let u = unless_view (is_default m.presence (spot_of b.0.value).contents) b.0 c.0 c.1 in
    let r = bind_view (rest c.0.after) (λ gs. Some (present m c.0.value gs)) fs c.2 in
    let same : b.0 ≡ c.0 = u.1 in
    let other = ap (λ (d : Decoded). is_default m.presence (spot_of d.value).contents) same in
    (c.0, r.0, b.1 ∙ ap Some same, sym other ∙ u.0, r.1, some_same _ fs r.2)
  where
    unless_view : (t : Bool) (a b : Decoded) → pick t None (Some a) ≡ Some b → (t ≡ false) × (a ≡ b)
    unless_view true a b e = none-some b e
    unless_view false a b e = (refl, some_same a b e)

pub absent_view : (m : Member) (rest : Option Fields) (fs : Fields) → absent_then m rest ≡ Some fs
    → (gs : Fields) × (is_mandatory m.presence ≡ false) × (rest ≡ Some gs) × (absent m gs ≡ fs)
absent_view m rest fs e = go (is_mandatory m.presence) refl e
  where
    go : (t : Bool) → is_mandatory m.presence ≡ t → pick t None (bind rest (λ gs. Some (absent m gs))) ≡ Some fs
        → (gs : Fields) × (is_mandatory m.presence ≡ false) × (rest ≡ Some gs) × (absent m gs ≡ fs)
    go true q e = none-some fs e
    go false q e = let b = bind_view rest (λ gs. Some (absent m gs)) fs e in (b.0, q, b.1, some_same _ fs b.2)
