-- What the walk reaches is what the reference names: for a value that decodes, the trail has no fault, and its components are those of `named`.
use mathlib.Core.Path.{◌≡◌, refl, sym, ap, ap₂, ◌∙◌, subst}
use mathlib.Core.Bool.{Bool, true, false}
use Rattle.std.specs.Prelude.{Some}
use mathlib.Core.List.{List, [], ◌∷◌, ◌++◌}
use Prim.Native.Nat.{ℕ, zero, suc, ◌≤◌, ◌+◌, ◌-◌}
use native.Mathlib.Omega.{arith}
use borrow.Author.Tests.{lt-ltb, le-ltb}
use lib.Dec.{leb, eqb}
use Rattle.octets.specs.Pick.{pick, either}
use Rattle.octets.specs.Octets.{same}
use Rattle.der.specs.Header.{header_at}
use Rattle.types.specs.Types.{Tagging, untagged, Presence, mandatory, optional, default, Member, Ty, Members}
use Rattle.types.specs.Begins.{is_mandatory}
use Rattle.value.specs.Value.{Spot, spot_at, spot_of, Value, leaf, fields, elements, Fields, Values}
use Rattle.value.specs.Decode.{stored_value}
use Rattle.value.proofs.Decodes.{Decodes, is_basic_type, is-sequence, is-choice, is-list, bare}
use Rattle.value.proofs.Decodes.{Fielded, none_left, there, lacks, Chosen, this, other, Elements, ends, goes, decodes-stored}
use Rattle.value.proofs.Before.{choice-before}
use Rattle.reference.specs.Reference.{Index, position, from_end, count, all, Id, name, index}
use Rattle.reference.specs.Named.{Held, value, default_value, count_value, absent_names, member_named, size, each, element_at, indexed_by, step, replaced, held, named}
use Rattle.reference.specs.Numbers.{stored, by_default, by_count, component}
use Rattle.reference.proofs.HeldLaws.{held_none, held-append, held-step}
use Rattle.misfit.specs.Opened.{Opened, after, open_at}
use Rattle.misfit.specs.Trail.{Trail, done, reach, then, each_from, count_from, position_from, found, lacking, nothing, find_member}
use Rattle.misfit.specs.Trail.{find_alternative, ending, lacking_trail, on_found, in_members, along_index, in_list, in_value, along, trail, has_misfit}
use Rattle.misfit.proofs.Standing.{Stands, open_decoded, same_start, same_span}

-- ---- the walk that reaches the components of held values and ends well
unfoldable pub laid : List Held → Trail
laid [] = done
laid (h ∷ hs) = reach (component h) (laid hs)

pub laid-sound : (hs : List Held) → has_misfit (laid hs) ≡ false
unfolding has_misfit laid
laid-sound [] = refl
laid-sound (h ∷ hs) = laid-sound hs

laid_then : (a b : List Held) → then (laid a) (laid b) ≡ laid (a ++ b)
unfolding then laid
laid_then [] b = refl
laid_then (x ∷ a) b = ap (reach (component x)) (laid_then a b)

none_left-default : (defaults : Bool) (place : ℕ) (m : Member) → ending [] (by_default place m) ≡ laid (held defaults [] (default_value place m ∷ []))
unfolding held laid
none_left-default defaults place m = refl

some_left_default : (defaults : Bool) (j : Id) (js : List Id) (place : ℕ) (m : Member) → ending (j ∷ js) (by_default place m) ≡ laid (held defaults (j ∷ js) (default_value place m ∷ []))
unfolding held replaced step laid
some_left_default defaults j js place m = ap laid (sym (held_none defaults js))

none_left-count : (defaults : Bool) (place n : ℕ) → ending [] (by_count place n) ≡ laid (held defaults [] (count_value place n ∷ []))
unfolding held laid
none_left-count defaults place n = refl

some_left_count : (defaults : Bool) (j : Id) (js : List Id) (place n : ℕ) → ending (j ∷ js) (by_count place n) ≡ laid (held defaults (j ∷ js) (count_value place n ∷ []))
unfolding held replaced step laid
some_left_count defaults j js place n = ap laid (sym (held_none defaults js))

-- ---- one identifier; f walks along the others, and is right wherever a value stands
module _ (defaults : Bool) (is : List Id) (v : List ℕ) (f : Ty → Opened → Trail) (right : (u : Ty) (p : Opened) (y : Value) → Stands u v p y → f u p ≡ laid (held defaults is (value y ∷ []))) where
  nothing-held : done ≡ laid (held defaults is [])
  unfolding laid
  nothing-held = ap laid (sym (held_none defaults is))

  -- a default and a count have no components of their own
  ends-default : (place : ℕ) (m : Member) → ending is (by_default place m) ≡ laid (held defaults is (default_value place m ∷ []))
  ends-default place m = go is
    where
      go : (js : List Id) → ending js (by_default place m) ≡ laid (held defaults js (default_value place m ∷ []))
      go [] = none_left-default defaults place m
      go (j ∷ js) = some_left_default defaults j js place m

  ends-count : (place n : ℕ) → ending is (by_count place n) ≡ laid (held defaults is (count_value place n ∷ []))
  ends-count place n = go is
    where
      go : (js : List Id) → ending js (by_count place n) ≡ laid (held defaults js (count_value place n ∷ []))
      go [] = none_left-count defaults place n
      go (j ∷ js) = some_left_count defaults j js place n

  -- members of a SEQUENCE
  lacking-named : (place : ℕ) (m : Member) (pr : Presence) → lacking_trail defaults is place m pr ≡ laid (held defaults is (absent_names defaults place m pr))
  lacking-named place m mandatory = nothing-held
  lacking-named place m optional = nothing-held
  lacking-named place m (default c) = go defaults refl
    where
      go : (x : Bool) → defaults ≡ x → pick x (ending is (by_default place m)) done ≡ laid (held defaults is (pick x (default_value place m ∷ []) []))
      go true q = ends-default place m
      go false q = nothing-held

  member-named : (x : List ℕ) (place : ℕ) {stop : ℕ} {ms : Members} {i : ℕ} {fs : Fields} → Fielded v stop ms i fs
      → on_found defaults is place f (find_member x ms v stop i) ≡ laid (held defaults is (member_named defaults place x fs))
  unfolding find_member member_named
  member-named x place (none_left q) = nothing-held
  member-named x place (there {stop = stop} {m = m} {ty = ty} {ms = ms} {after = last} {x = y} {fs = fs} q t d rest) =
      let s = open_decoded t in
      rw (q, either-there (is_mandatory m.presence), s.1, s.3) (go s.0 s.2 (same m.name x) (member-named x place rest))
    where
      either-there : (b : Bool) → either b true ≡ true
      either-there true = refl
      either-there false = refl

      go : (o : Opened) → Stands ty v o y → (b : Bool)
          → on_found defaults is place f (find_member x ms v stop last) ≡ laid (held defaults is (member_named defaults place x fs))
          → on_found defaults is place f (pick b (found ty o) (find_member x ms v stop last))
          ≡ laid (held defaults is (pick b (value y ∷ []) (member_named defaults place x fs)))
      go o s true r = right ty o y s
      go o s false r = r
  member-named x place (lacks {stop = stop} {m = m} {ms = ms} {i = i} {fs = fs} q mandatory-not rest) =
      rw (mandatory-not, q) (go (same m.name x) (member-named x place rest))
    where
      go : (b : Bool) → on_found defaults is place f (find_member x ms v stop i) ≡ laid (held defaults is (member_named defaults place x fs))
          → on_found defaults is place f (pick b (lacking m) (find_member x ms v stop i)) ≡ laid (held defaults is (pick b (absent_names defaults place m m.presence) (member_named defaults place x fs)))
      go true r = lacking-named place m m.presence
      go false r = r

  -- the alternative of a CHOICE
  alternative-named : (x : List ℕ) (place : ℕ) {stop at : ℕ} {ms : Members} {y : Value} {last : ℕ} → Chosen v stop at ms y last
      → on_found defaults is place f (find_alternative x ms v stop at) ≡ laid (held defaults is (step defaults (name x) (value y)))
  unfolding find_alternative step
  alternative-named x place (this {m = m} {ty = ty} {x = y} q t b) = let s = open_decoded t in rw (q, s.1) (go s.0 s.2 (same m.name x))
    where
      go : (o : Opened) → Stands ty v o y → (b : Bool)
          → on_found defaults is place f (pick b (found ty o) nothing) ≡ laid (held defaults is (pick b (value y ∷ []) []))
      go o s true = right ty o y s
      go o s false = nothing-held
  alternative-named x place (other q c) = rw q (alternative-named x place c)

  no_index : (j : Index) {stop at : ℕ} {ms : Members} {y : Value} {last : ℕ} → Chosen v stop at ms y last → step defaults (index j) (value y) ≡ []
  unfolding step
  no_index j (this q t b) = refl
  no_index j (other q c) = no_index j c

  -- the elements of a list
  each-named : {ty : Ty} {stop k i : ℕ} {xs : Values} → Elements v ty stop k i xs
      → each_from (open_at ty untagged v) (f ty) k stop i ≡ laid (held defaults is (each xs))
  unfolding each_from each
  each-named (ends {ty = ty} {stop = stop} {k = k} {i = i} h) = each-end k h
    where
      each-end : (k : ℕ) → stop ≤ i → each_from (open_at ty untagged v) (f ty) k stop i ≡ laid (held defaults is [])
      each-end zero h = rw (le-ltb i stop h) nothing-held
      each-end (suc k) h = rw (le-ltb i stop h) nothing-held
  each-named (goes {ty = ty} {stop = stop} {i = i} {x = x} {xs = xs} h d rest) =
      let s = open_decoded (bare refl d) in
      rw (lt-ltb i stop h, s.1, s.3)
      (ap₂ then (right ty s.0 x s.2) (each-named rest)
      ∙ laid_then (held defaults is (value x ∷ [])) (held defaults is (each xs)) ∙ ap laid (sym (held-append defaults is (value x ∷ []) (each xs))))

  count-named : (n : ℕ) {ty : Ty} {stop k i : ℕ} {xs : Values} → Elements v ty stop k i xs → count_from (open_at ty untagged v) k stop n i ≡ Some (n + size xs)
  unfolding count_from size
  count-named n (ends {ty = ty} {stop = stop} {k = k} {i = i} h) = count-end k h
    where
      none_more : Some n ≡ Some (n + 0)
      none_more = let q : n ≡ n + 0 = omega arith in ap Some q

      count-end : (k : ℕ) → stop ≤ i → count_from (open_at ty untagged v) k stop n i ≡ Some (n + 0)
      count-end zero h = rw (le-ltb i stop h) none_more
      count-end (suc k) h = rw (le-ltb i stop h) none_more
  count-named n (goes {ty = ty} {stop = stop} {i = i} {xs = xs} h d rest) =
      let s = open_decoded (bare refl d) in
      let q : n + 1 + size xs ≡ n + suc (size xs) = omega arith in
      rw (lt-ltb i stop h, s.1, s.3) (count-named (n + 1) rest ∙ ap Some q)

  count-all : {ty : Ty} {stop k i : ℕ} {xs : Values} → Elements v ty stop k i xs → count_from (open_at ty untagged v) k stop 0 i ≡ Some (size xs)
  count-all {xs = xs} es = let q : 0 + size xs ≡ size xs = omega arith in count-named 0 es ∙ ap Some q

  position-named : (n : ℕ) {ty : Ty} {stop k i : ℕ} {xs : Values} → Elements v ty stop k i xs
      → position_from (open_at ty untagged v) (f ty) k stop n i ≡ laid (held defaults is (element_at n xs))
  unfolding position_from element_at
  position-named n (ends {ty = ty} {stop = stop} {k = k} {i = i} h) = position-end k h
    where
      position-end : (k : ℕ) → stop ≤ i → position_from (open_at ty untagged v) (f ty) k stop n i ≡ laid (held defaults is [])
      position-end zero h = rw (le-ltb i stop h) nothing-held
      position-end (suc k) h = rw (le-ltb i stop h) nothing-held
  position-named n (goes {ty = ty} {stop = stop} {k = k} {i = i} {after = last} {x = x} {xs = xs} h d rest) =
      let s = open_decoded (bare refl d) in
      rw (lt-ltb i stop h, s.1, s.3) (go s.0 s.2 (eqb n 1) (position-named (n - 1) rest))
    where
      go : (o : Opened) → Stands ty v o x → (b : Bool)
          → position_from (open_at ty untagged v) (f ty) k stop (n - 1) last ≡ laid (held defaults is (element_at (n - 1) xs))
          → pick b (f ty o) (position_from (open_at ty untagged v) (f ty) k stop (n - 1) last)
          ≡ laid (held defaults is (pick b (value x ∷ []) (element_at (n - 1) xs)))
      go o s true r = right ty o x s
      go o s false r = r

  -- an index on a list that is opened
  index-named : (i : Index) (ty : Ty) (l : Opened) (xs : Values) → Elements v ty (after l) l.span l.start xs
      → along_index i is (open_at ty untagged v) l (f ty) ≡ laid (held defaults is (indexed_by i l.place xs))
  index-named (position n) ty l xs es = position-named n es
  index-named (from_end n) ty l xs es = rw (count-all es) (go (leb n (size xs)))
    where
      go : (b : Bool) → pick b (position_from (open_at ty untagged v) (f ty) l.span (after l) (size xs + 1 - n) l.start) done ≡ laid (held defaults is (pick b (element_at (size xs + 1 - n) xs) []))
      go true = position-named (size xs + 1 - n) es
      go false = nothing-held
  index-named count ty l xs es = rw (count-all es) (ends-count l.place (size xs))
  index-named all ty l xs es = each-named es

  leaf_names : (i : Id) (k : ℕ) (s : Spot) → done ≡ laid (held defaults is (step defaults i (value (leaf k s))))
  unfolding step
  leaf_names i k s = nothing-held

  fields_name : (i : Id) (ms : Members) (o : Opened) (s : Spot) (fs : Fields) → o.place ≡ s.place → Fielded v (after o) ms o.start fs
      → in_members defaults i is (λ x. find_member x ms v (after o) o.start) o.place f ≡ laid (held defaults is (step defaults i (value (fields s fs))))
  unfolding step
  fields_name (name x) ms o s fs e w = member-named x o.place w ∙ ap (λ (p : ℕ). laid (held defaults is (member_named defaults p x fs))) e
  fields_name (index j) ms o s fs e w = nothing-held

  choice-names : (i : Id) (ms : Members) (o : Opened) (x : Value) (last : ℕ) → Chosen v (after o) o.place ms x last
      → in_members defaults i is (λ x. find_alternative x ms v (after o) o.place) o.place f ≡ laid (held defaults is (step defaults i (value x)))
  choice-names (name x) ms o y last c = alternative-named x o.place c
  choice-names (index j) ms o y last c = nothing-held ∙ ap (λ (hs : List Held). laid (held defaults is hs)) (sym (no_index j c))

  elements_name : (i : Id) (ty : Ty) (o : Opened) (s : Spot) (xs : Values) → o.place ≡ s.place → Elements v ty (after o) o.span o.start xs
      → in_list i is (open_at ty untagged v) o (f ty) ≡ laid (held defaults is (step defaults i (value (elements s xs))))
  unfolding step
  elements_name (name x) ty o s xs e w = nothing-held
  elements_name (index j) ty o s xs e w = index-named j ty o xs w ∙ ap (λ (p : ℕ). laid (held defaults is (indexed_by j p xs))) e

  -- what one identifier names in a value that is decoded and opened at a place
  step-decoded : (i : Id) {ty : Ty} {g : Tagging} {at end : ℕ} {x : Value} {last : ℕ} → Decodes v ty g at end x last
      → (o : Opened) (octet : ℕ) → header_at v at end ≡ Some (octet, o.start, o.span) → at ≡ o.place → last ≡ after o → o.place ≡ (spot_of x).place
      → in_value defaults i is ty v o f ≡ laid (held defaults is (step defaults i (value x)))
  step-decoded i (is_basic_type {k = k} {s = s} b l) o octet h at_place at-end place = leaf_names i k s
  step-decoded i (is-sequence {ms = ms} {after = last} {s = s} {fs = fs} b w) o octet h at_place at-end place =
      let from_start = subst (λ (y : ℕ). Fielded v last ms y fs) (same_start b h) w in
      fields_name i ms o s fs place (subst (λ (y : ℕ). Fielded v y ms o.start fs) at-end from_start)
  step-decoded i (is-choice {ms = ms} {after = last} {x = x} c) o octet h at_place at-end place =
      choice-names i ms o x last (subst (λ (y : ℕ). Chosen v (after o) y ms x last) at_place (choice-before (after o) c (omega arith)))
  step-decoded i (is-list {ty = ty} {start = start} {after = last} {s = s} {xs = xs} b w r) o octet h at_place at-end place =
      let so-many = subst (λ (y : ℕ). Elements v ty last y start xs) (same_span b h) w in
      let from_start = subst (λ (y : ℕ). Elements v ty last o.span y xs) (same_start b h) so-many in
      elements_name i ty o s xs place (subst (λ (y : ℕ). Elements v ty y o.span o.start xs) at-end from_start)

  -- in a value that stands
  step-named : (i : Id) (ty : Ty) (o : Opened) (x : Value) → Stands ty v o x → in_value defaults i is ty v o f ≡ laid (held defaults is (step defaults i (value x)))
  unfolding spot_at
  step-named i ty o x s = step-decoded i s.decodes o s.octet s.header refl refl (ap (λ (y : Spot). y.place) s.spot)

-- ---- along all identifiers
pub along-named : (defaults : Bool) (is : List Id) (ty : Ty) (v : List ℕ) (o : Opened) (x : Value) → Stands ty v o x → along defaults is ty v o ≡ laid (held defaults is (value x ∷ []))
unfolding along held laid
along-named defaults [] ty v o x s = ap (λ (y : Spot). reach (stored y) done) s.spot
along-named defaults (i ∷ is) ty v o x s =
    step-named defaults is v (λ u p. along defaults is u v p) (λ u p y q. along-named defaults is u v p y q) i ty o x s ∙ ap laid (sym (held-step defaults i is (value x)))

-- a value that is stored: the walk from its first octet has no fault, and reaches what the reference names
pub trail-named : (defaults : Bool) (is : List Id) (ty : Ty) (v : List ℕ) (x : Value) → stored_value ty v ≡ Some x → trail defaults is ty v ≡ laid (named defaults is x)
unfolding trail named
trail-named defaults is ty v x e = let s = open_decoded (bare refl (decodes-stored ty v x e)) in rw s.1 (along-named defaults is ty v s.0 x s.2)
