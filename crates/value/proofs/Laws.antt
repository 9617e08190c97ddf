-- Laws of decoded values, for the check and for the layers above.
use mathlib.Core.Path.{◌≡◌, refl, sym, ap, ap₂, ◌∙◌, subst}
use mathlib.Core.Bool.{Bool, true, false}
use Rattle.std.specs.Prelude.{Some}
use mathlib.Core.List.{List}
use Prim.Native.Nat.{ℕ, ◌≤◌, ◌+◌, ◌-◌}
use native.Mathlib.Omega.{arith}
use lib.Dec.{ltb}
use lib.ListN.{length}
use Rattle.octets.specs.Pick.{either}
use Rattle.octets.specs.Octets.{octet, part}
use Rattle.octets.proofs.Laws.{both_true}
use Rattle.der.specs.Tag.{tag_of, wrapper_octet}
use Rattle.der.proofs.Laws.{header-long, header-within, inside-long}
use Rattle.types.specs.Types.{Tagging, Ty, choice, Members}
use Rattle.types.specs.Begins.{as_tagged, begins, some_begins, member_begins}
use Rattle.value.specs.Value.{Spot, spot_at, spot_of, encoding, Value, leaf, fields, chosen, elements}
use Rattle.value.specs.Value.{Fields, end_fields, present, absent, Values, end_values, next}
use Rattle.value.specs.Inner.Lies.{InSpot, end_of, Lies, LieInFields, LieInTurn}
use Rattle.value.specs.Decode.{starts_here, stored_value}
use Rattle.value.proofs.Decodes.{Decodes, is_basic_type, is-sequence, is-choice, is-list, Tagged, bare, filling}
use Rattle.value.proofs.Decodes.{Fielded, none_left, there, lacks, Chosen, this, other, Elements, ends, goes}
use Rattle.value.proofs.Decodes.{Framed, Own, own, framed, own_behind, framed_by, decodes-stored}

-- a CHOICE can begin with the tag of its alternative
pub begins_chosen : {v : List ℕ} {end at : ℕ} {ms : Members} {x : Value} {after : ℕ} → Chosen v end at ms x after
    → begins (choice ms) (tag_of (octet v at)) ≡ true
unfolding begins member_begins starts_here
begins_chosen (this {end = end} {at = at} q t b) = rw (both_true (ltb at end) _ q).1
begins_chosen {v = v} (other {at = at} {m = m} {ty = ty} {ms = ms} q c) =
    last (as_tagged m.tagging (begins ty (tag_of (octet v at))) (tag_of (octet v at))) (begins_chosen c)
  where
    last : (b : Bool) → some_begins ms (tag_of (octet v at)) ≡ true → either b (some_begins ms (tag_of (octet v at))) ≡ true
    last true e = refl
    last false e = e

-- ---- a decoded value lies from its place on, within its end, and takes at least two octets
module _ {v : List ℕ} {at end after : ℕ} where
  pub framed_long : Framed v at end after → at + 2 ≤ after
  framed_long w = let h = header-long v at end w.octet w.start w.n w.header in let e = w.ends in omega arith

  pub framed_within : Framed v at end after → after ≤ end
  framed_within w = let h = header-within v at end w.octet w.start w.n w.header in let e = w.ends in omega arith

  module _ {x : Value} (w : Own v at end x after) where
    own-place : at ≡ (spot_of x).place
    unfolding spot_at
    own-place = ap (λ (s : Spot). s.place) w.behind.spot

    own-size : w.start + w.n - at ≡ (spot_of x).size
    unfolding spot_at
    own-size = ap (λ (s : Spot). s.size) w.behind.spot

    -- contents start behind the header's two octets at least
    own-start : (spot_of x).place + 2 ≤ w.start
    own-start = let h = inside-long w.octet v at end w.start w.n w.behind.header in let p = own-place in omega arith

    own-end : end_of x ≡ after
    own-end = let h = own-start in let e = w.behind.ends in let p = own-place in let q = own-size in omega arith

    own-spot : InSpot at after (spot_of x)
    own-spot =
        let h = own-start in
        let e = w.behind.ends in
        let p = own-place in
        let q = own-end in
        record { from = omega arith; long = omega arith; to = omega arith }

    pub own-encoding : part v at (after - at) ≡ encoding v x
    unfolding encoding
    own-encoding = let e : after - at ≡ w.start + w.n - at = ap (λ (y : ℕ). y - at) (sym w.behind.ends) in ap₂ (part v) own-place (e ∙ own-size)

-- ---- where its parts lie
pub lies_wider : (a b lo hi : ℕ) (x : Value) → a ≤ lo → hi ≤ b → Lies lo hi x → Lies a b x
unfolding Lies
lies_wider a b lo hi x p q w = go x w
  where
    spot : (s : Spot) → InSpot lo hi s → InSpot a b s
    spot s i = let f = i.from in let t = i.to in record { from = omega arith; long = i.long; to = omega arith }

    go : (x : Value) → Lies lo hi x → Lies a b x
    go (leaf k s) w = spot s w
    go (fields s fs) w = (spot s w.0, w.1)
    go (chosen s m x) w = (spot s w.0, w.1)
    go (elements s xs) w = (spot s w.0, w.1)

fields_wider : (a lo hi : ℕ) (fs : Fields) → a ≤ lo → LieInFields lo hi fs → LieInFields a hi fs
unfolding Lies
fields_wider a lo hi end_fields p w = let h : lo ≤ hi = w in omega arith
fields_wider a lo hi (present m x fs) p w = let h : hi ≤ hi = omega arith in (lies_wider a hi lo hi x p h w.0, w.1)
fields_wider a lo hi (absent m fs) p w = fields_wider a lo hi fs p w

turn_wider : (a lo hi : ℕ) (xs : Values) → a ≤ lo → LieInTurn lo hi xs → LieInTurn a hi xs
unfolding Lies
turn_wider a lo hi end_values p w = let h : lo ≤ hi = w in omega arith
turn_wider a lo hi (next x xs) p w = let h : hi ≤ hi = omega arith in (lies_wider a hi lo hi x p h w.0, w.1)

-- what is decoded at a place, before an end
pub record Placed (at end : ℕ) (x : Value) (after : ℕ) : Type 0 where
  pub long : at + 2 ≤ after
  pub within : after ≤ end
  pub last : end_of x ≡ after
  pub lies : Lies at after x

placed-own : {v : List ℕ} {at end : ℕ} {x : Value} {after : ℕ} → Own v at end x after → Lies at after x → Placed at end x after
placed-own o w = record { long = framed_long (framed o); within = framed_within (framed o); last = own-end o; lies = w }

module _ {v : List ℕ} where
  mutual
    unfolding Lies own_behind

    pub lies : {ty : Ty} {g : Tagging} {at end : ℕ} {x : Value} {after : ℕ} → Decodes v ty g at end x after → Lies at after x
    lies (is_basic_type {k = k} {s = s} b l) = own-spot (own_behind {x = leaf k s} b)
    lies (is-sequence {at = at} {end = end} {start = start} {after = after} {s = s} {fs = fs} b w) =
        let o : Own v at end (fields s fs) after = own_behind b in
        let members = fields_wider (s.place + 2) start after fs (own-start o) (lies-fields w) in
        (own-spot o, subst (λ (z : ℕ). LieInFields (s.place + 2) z fs) (sym (own-end o)) members)
    lies (is-choice c) = lies-choice c
    lies (is-list {at = at} {end = end} {start = start} {after = after} {s = s} {xs = xs} b w r) =
        let o : Own v at end (elements s xs) after = own_behind b in
        let z = b.ends in
        let turn = turn_wider (s.place + 2) start after xs (own-start o) (lies_elements w (omega arith)) in
        (own-spot o, subst (λ (z : ℕ). LieInTurn (s.place + 2) z xs) (sym (own-end o)) turn)

    -- under any tag mode
    pub placed : {ty : Ty} {g : Tagging} {at end : ℕ} {x : Value} {after : ℕ} → Tagged v ty g at end x after → Placed at end x after
    placed (bare q d) = placed-own (own d) (lies d)
    placed (filling {k = k} {at = at} {end = end} {start = start} {n = n} {after = after} {x = x} e d q) =
        let f = framed_by (filling e d q) in
        let h = inside-long (wrapper_octet k) v at end start n e in
        let inner = lies_wider at after start after x (omega arith) (omega arith) (lies d) in
        record { long = framed_long f; within = framed_within f; last = own-end (own d); lies = inner }

    lies-choice : {end at : ℕ} {ms : Members} {x : Value} {after : ℕ} → Chosen v end at ms x after → Lies at after x
    lies-choice (this {end = end} {at = at} {m = m} {after = after} {s = s} {x = x} q t b) =
        let o : Own v at end (chosen s m x) after = own_behind b in
        let p = own-place o in
        let l = own-end o in
        (own-spot o, lies_wider s.place (s.place + s.size) at after x (omega arith) (omega arith) (placed t).lies)
    lies-choice (other q c) = lies-choice c

    lies-fields : {stop : ℕ} {ms : Members} {i : ℕ} {fs : Fields} → Fielded v stop ms i fs → LieInFields i stop fs
    lies-fields (none_left q) = omega arith
    lies-fields (there {stop = stop} {i = i} {after = after} {x = x} {fs = fs} q t d w) =
        let p = placed t in
        let l = p.last in
        (lies_wider i stop i after x (omega arith) p.within p.lies, fields_wider (end_of x) after stop fs (omega arith) (lies-fields w))
    lies-fields (lacks q m w) = lies-fields w

    lies_elements : {ty : Ty} {stop k i : ℕ} {xs : Values} → Elements v ty stop k i xs → i ≤ stop → LieInTurn i stop xs
    lies_elements (ends q) h = h
    lies_elements (goes {stop = stop} {i = i} {after = after} {x = x} {xs = xs} q d w) h =
        let p = placed-own (own d) (lies d) in
        let l = p.last in
        (lies_wider i stop i after x (omega arith) p.within p.lies, turn_wider (end_of x) after stop xs (omega arith) (lies_elements w p.within))

-- a stored value lies from the first octet on, up to the last
pub stored-lies : (ty : Ty) (v : List ℕ) (x : Value) → stored_value ty v ≡ Some x → Lies 0 (length v) x
stored-lies ty v x e = lies (decodes-stored ty v x e)
