-- Each value that a reference names fits what the reference leads to; so the code's acceptance is the definition's, for what is named in a stored value.
use mathlib.Core.Path.{◌≡◌, refl, sym, ap, ap₂, ◌∙◌, subst}
use mathlib.Core.Bool.{Bool, true, false, false≢true}
use Rattle.std.specs.Prelude.{Option, Some}
use mathlib.Core.List.{List, [], ◌∷◌, ◌++◌}
use Prim.Native.Nat.{ℕ, ◌≤◌, ◌+◌, ◌-◌}
use native.Mathlib.Omega.{arith}
use lib.ListN.{length, length-take, drop}
use lib.Dec.{leb, eqb}
use Rattle.octets.specs.Pick.{pick, bind}
use Rattle.octets.specs.Octets.{part, same}
use Rattle.octets.proofs.TextLaws.{same-is}
use Rattle.octets.proofs.Laws.{rest-length}
use Rattle.der.specs.Tag.{wrapper_octet}
use Rattle.der.proofs.Laws.{inside-within}
use Rattle.types.specs.Types.{Tagging, Presence, mandatory, optional, default, Member, Ty, sequence, choice, list_of, Members}
use Rattle.value.specs.Value.{Spot, spot_at, spot_of, Value, fields, elements, Fields, Values}
use Rattle.value.specs.Decode.{stored_value}
use Rattle.value.proofs.Views.{none-some, some_same, bind_view}
use Rattle.value.proofs.Decodes.{Behind, Decodes, is_basic_type, is-sequence, is-choice, is-list, Tagged, bare, filling}
use Rattle.value.proofs.Decodes.{Fielded, none_left, there, lacks, Chosen, this, other, Elements, ends, goes, decodes-stored}
use Rattle.reference.specs.Reference.{position, from_end, count, all, Id, name, index}
use Rattle.reference.specs.Allowed.{Target, of_type, of_count, member_type, under, allowed_from, allowed}
use Rattle.reference.specs.Named.{Held, value, default_value, count_value, absent_names, member_named, size, each, element_at, step, replaced, held, named}
use Rattle.reference.specs.Numbers.{Component, component, contents_of}
use Rattle.rules.specs.Rule.{Rule}
use Rattle.rules.specs.Suits.{suits}
use Rattle.rules.specs.Asserted.{Asserted}
use Rattle.rules.specs.Accepts.{accepts_contents, accepts}
use Rattle.rules.specs.Inner.Answers.{read_by_target, conforms, said}
use Rattle.plan.specs.Inner.Test.{Test, accepted, test_for}
use Rattle.plan.specs.Inner.Operand.{operand_of}
use Rattle.plan.specs.Inner.Task as task
use Rattle.plan.specs.Inner.Task.{passes_contents, passes_count, passes}
use Rattle.plan.proofs.BitsAccepting.{Accepting, bits_no_sequence, bits_no_choice, bits_no_list, bits_no_count}
use Rattle.plan.proofs.Accepting.{basic_passes, choice-passes, sequence-passes, list-passes, count-passes}
use Rattle.evaluation.specs.Truth.{TRUE}
use Rattle.evaluation.specs.Reading.{Outcome, settled}
use Rattle.evaluation.specs.Assertion.{testing}
use Rattle.evaluation.proofs.Typed.{Defaulted, DefaultFine, Fresh, Fine, FineIn}

-- a value of a type is decoded somewhere among the octets
pub record Is (ty : Ty) (v : List ℕ) (x : Value) : Type 0 where
  pub tagging : Tagging
  pub at : ℕ
  pub end : ℕ
  pub after : ℕ
  pub decodes : Decodes v ty tagging at end x after
  pub inside : end ≤ length v

decoded-is : {ty : Ty} {g : Tagging} {v : List ℕ} {at end : ℕ} {x : Value} {after : ℕ} → Decodes v ty g at end x after → end ≤ length v → Is ty v x
decoded-is {g = g} {at = at} {end = end} {after = after} d l = record { tagging = g; at = at; end = end; after = after; decodes = d; inside = l }

tagged_is : {ty : Ty} {g : Tagging} {v : List ℕ} {at end : ℕ} {x : Value} {after : ℕ} → Tagged v ty g at end x after → end ≤ length v → Is ty v x
tagged_is (bare q d) l = decoded-is d l
tagged_is {v = v} {at = at} {end = end} (filling {k = k} {start = start} {n = n} e d q) l = decoded-is d (omega (arith, inside-within (wrapper_octet k) v at end start n e))

-- a held value fits a target
unfoldable pub Fits : List ℕ → Held → Target → Type 0
Fits v (value x) (of_type ty) = Is ty v x × Fine ty
Fits v (value x) of_count = ⊥
Fits v (default_value p m) (of_type ty) = Defaulted ty (contents_of m.presence)
Fits v (default_value p m) of_count = ⊥
Fits v (count_value p n) (of_type ty) = ⊥
Fits v (count_value p n) of_count = n ≤ length v

unfoldable pub AllFit : List ℕ → Target → List Held → Type 0
AllFit v g [] = Unit {0}
AllFit v g (h ∷ hs) = Fits v h g × AllFit v g hs

append-fit : (v : List ℕ) (g : Target) (a b : List Held) → AllFit v g a → AllFit v g b → AllFit v g (a ++ b)
unfolding AllFit
append-fit v g [] b p q = q
append-fit v g (h ∷ a) b p q = (p.0, append-fit v g a b p.1 q)

none-fit : (v : List ℕ) (g : Target) → AllFit v g []
unfolding AllFit
none-fit v g = tt

one-fits : (v : List ℕ) (g : Target) (ty : Ty) (y : Value) → Some (of_type ty) ≡ Some g → Is ty v y → Fine ty → AllFit v g (value y ∷ [])
unfolding AllFit Fits
one-fits v g ty y e s f = subst (λ (k : Target). AllFit v k (value y ∷ [])) (some_same (of_type ty) g e) ((s, f), tt)

missing_fits : (v : List ℕ) (g : Target) (ty : Ty) (place : ℕ) (m : Member) → Some (of_type ty) ≡ Some g → Defaulted ty (contents_of m.presence) → AllFit v g (default_value place m ∷ [])
unfolding AllFit Fits
missing_fits v g ty place m e h = subst (λ (k : Target). AllFit v k (default_value place m ∷ [])) (some_same (of_type ty) g e) (h, tt)

count_fits : (v : List ℕ) (g : Target) (place n : ℕ) → Some of_count ≡ Some g → n ≤ length v → AllFit v g (count_value place n ∷ [])
unfolding AllFit Fits
count_fits v g place n e h = subst (λ (k : Target). AllFit v k (count_value place n ∷ [])) (some_same of_count g e) (h, tt)

-- ---- members of a SEQUENCE
abbrev type_named : List ℕ → Members → Option Target
type_named x ms = bind (member_type x ms) (λ ty. Some (of_type ty))

absent_fit : (v : List ℕ) (g : Target) (ty : Ty) (defaults : Bool) (place : ℕ) (m : Member) → Some (of_type ty) ≡ Some g → (pr : Presence) → m.presence ≡ pr → DefaultFine ty pr
    → AllFit v g (absent_names defaults place m pr)
absent_fit v g ty defaults place m e mandatory q h = none-fit v g
absent_fit v g ty defaults place m e optional q h = none-fit v g
absent_fit v g ty defaults place m e (default c) q h = go defaults
  where
    go : (b : Bool) → AllFit v g (pick b (default_value place m ∷ []) [])
    go true = missing_fits v g ty place m e (subst (λ (y : Presence). Defaulted ty (contents_of y)) (sym q) h)
    go false = none-fit v g

module _ (defaults : Bool) (place : ℕ) (x v : List ℕ) (g : Target) where
  member-fits : {stop : ℕ} {ms : Members} {i : ℕ} {fs : Fields} → Fielded v stop ms i fs → stop ≤ length v → FineIn ms → type_named x ms ≡ Some g
      → AllFit v g (member_named defaults place x fs)
  unfolding member_named member_type Fine
  member-fits (none_left q) l w e = none-some g e
  member-fits (there {m = m} {ty = ty} {ms = ms} {x = y} {fs = fs} q t d rest) l w e = go (same m.name x) (λ h. member-fits rest l w.1.1.1 h) e
    where
      go : (b : Bool) → (type_named x ms ≡ Some g → AllFit v g (member_named defaults place x fs))
          → bind (pick b (Some ty) (member_type x ms)) (λ ty. Some (of_type ty)) ≡ Some g
          → AllFit v g (pick b (value y ∷ []) (member_named defaults place x fs))
      go true f h = one-fits v g ty y h (tagged_is t l) w.1.1.0
      go false f h = f h
  member-fits (lacks {m = m} {ty = ty} {ms = ms} {fs = fs} q d rest) l w e = go (same m.name x) (λ h. member-fits rest l w.1.1.1 h) e
    where
      go : (b : Bool) → (type_named x ms ≡ Some g → AllFit v g (member_named defaults place x fs))
          → bind (pick b (Some ty) (member_type x ms)) (λ ty. Some (of_type ty)) ≡ Some g
          → AllFit v g (pick b (absent_names defaults place m m.presence) (member_named defaults place x fs))
      go true f h = absent_fit v g ty defaults place m h m.presence refl w.0
      go false f h = f h

-- ---- the alternative of a CHOICE
module _ (defaults : Bool) (x v : List ℕ) where
  -- one of another name is not named
  not_named : {end at : ℕ} {ms : Members} {y : Value} {after : ℕ} → Chosen v end at ms y after → Fresh x ms → step defaults (name x) (value y) ≡ []
  unfolding Fresh step
  not_named (this {x = y} q t b) w = ap (λ (b : Bool). pick b (value y ∷ []) []) w.0
  not_named (other q c) w = not_named c w.1

  choice-fits : (g : Target) {end at : ℕ} {ms : Members} {y : Value} {after : ℕ} → Chosen v end at ms y after → end ≤ length v → FineIn ms → type_named x ms ≡ Some g
      → AllFit v g (step defaults (name x) (value y))
  unfolding Fine member_type step
  choice-fits g (this {m = m} {ty = ty} {ms = ms} {x = y} q t b) l w h = go (same m.name x) h
    where
      go : (b : Bool) → bind (pick b (Some ty) (member_type x ms)) (λ ty. Some (of_type ty)) ≡ Some g → AllFit v g (pick b (value y ∷ []) [])
      go true k = one-fits v g ty y k (tagged_is t l) w.1.1.0
      go false k = none-fit v g
  choice-fits g (other {m = m} {ty = ty} {ms = ms} {x = y} q c) l w h = go (same m.name x) refl h (λ k. choice-fits g c l w.1.1.1 k)
    where
      go : (b : Bool) → same m.name x ≡ b → bind (pick b (Some ty) (member_type x ms)) (λ ty. Some (of_type ty)) ≡ Some g
          → (type_named x ms ≡ Some g → AllFit v g (step defaults (name x) (value y))) → AllFit v g (step defaults (name x) (value y))
      go true r k f = subst (AllFit v g) (sym (not_named c (subst (λ (z : List ℕ). Fresh z ms) (same-is m.name x r) w.1.0))) (none-fit v g)
      go false r k f = f k

-- ---- the elements of a list
module _ (v : List ℕ) (g : Target) where
  each-fit : {ty : Ty} {stop k i : ℕ} {xs : Values} → Elements v ty stop k i xs → stop ≤ length v → Some (of_type ty) ≡ Some g → Fine ty → AllFit v g (each xs)
  unfolding each
  each-fit (ends h) l e fine = none-fit v g
  each-fit (goes {ty = ty} {x = x} {xs = xs} h d rest) l e fine =
      append-fit v g (value x ∷ []) (each xs) (one-fits v g ty x e (decoded-is d l) fine) (each-fit rest l e fine)

  element-fits : (n : ℕ) {ty : Ty} {stop k i : ℕ} {xs : Values} → Elements v ty stop k i xs → stop ≤ length v → Some (of_type ty) ≡ Some g → Fine ty → AllFit v g (element_at n xs)
  unfolding element_at
  element-fits n (ends h) l e fine = none-fit v g
  element-fits n (goes {ty = ty} {x = x} {xs = xs} h d rest) l e fine = go (eqb n 1) (element-fits (n - 1) rest l e fine)
    where
      go : (b : Bool) → AllFit v g (element_at (n - 1) xs) → AllFit v g (pick b (value x ∷ []) (element_at (n - 1) xs))
      go true f = one-fits v g ty x e (decoded-is d l) fine
      go false f = f

  from_end-fits : (n : ℕ) {ty : Ty} {stop k i : ℕ} {xs : Values} → Elements v ty stop k i xs → stop ≤ length v → Some (of_type ty) ≡ Some g → Fine ty
      → AllFit v g (pick (leb n (size xs)) (element_at (size xs + 1 - n) xs) [])
  from_end-fits n {xs = xs} es l e fine = go (leb n (size xs))
    where
      go : (b : Bool) → AllFit v g (pick b (element_at (size xs + 1 - n) xs) [])
      go true = element-fits (size xs + 1 - n) es l e fine
      go false = none-fit v g

  elements_few : {ty : Ty} {stop k i : ℕ} {xs : Values} → Elements v ty stop k i xs → size xs ≤ k
  unfolding size
  elements_few (ends h) = omega arith
  elements_few (goes {xs = xs} h d rest) = omega (arith, elements_few rest)

-- ---- what one identifier names in a value
module _ (defaults : Bool) (v : List ℕ) (g : Target) where
  behind-within : {octet at end start n after : ℕ} {s : Spot} → Behind v octet at end start n s after → end ≤ length v → after ≤ length v
  behind-within {octet = octet} {at = at} {end = end} {start = start} {n = n} b l = omega (arith, inside-within octet v at end start n b.header, b.ends)

  behind-short : {octet at end start n after : ℕ} {s : Spot} → Behind v octet at end start n s after → end ≤ length v → n ≤ length v
  behind-short {octet = octet} {at = at} {end = end} {start = start} {n = n} b l = omega (arith, inside-within octet v at end start n b.header)

  fields_fit : (i : Id) (s : Spot) {stop : ℕ} {ms : Members} {from : ℕ} {fs : Fields} → Fielded v stop ms from fs → stop ≤ length v → FineIn ms
      → under i (of_type (sequence ms)) ≡ Some g → AllFit v g (step defaults i (value (fields s fs)))
  unfolding step under
  fields_fit (name x) s w l f e = member-fits defaults s.place x v g w l f e
  fields_fit (index j) s w l f e = none-some g e

  alternative-fits : (i : Id) {end at : ℕ} {ms : Members} {x : Value} {after : ℕ} → Chosen v end at ms x after → end ≤ length v → FineIn ms
      → under i (of_type (choice ms)) ≡ Some g → AllFit v g (step defaults i (value x))
  unfolding under
  alternative-fits (name x) c l f e = choice-fits defaults x v g c l f e
  alternative-fits (index j) c l f e = none-some g e

  elements_fit : (i : Id) (k : ℕ) (s : Spot) {ty : Ty} {stop n from : ℕ} {xs : Values} → Elements v ty stop n from xs → stop ≤ length v → n ≤ length v → Fine ty
      → under i (of_type (list_of k ty)) ≡ Some g → AllFit v g (step defaults i (value (elements s xs)))
  unfolding step under
  elements_fit (name x) k s w l m f e = none-some g e
  elements_fit (index (position p)) k s w l m f e = element-fits v g p w l e f
  elements_fit (index (from_end p)) k s w l m f e = from_end-fits v g p w l e f
  elements_fit (index count) k s {xs = xs} w l m f e = count_fits v g s.place (size xs) e (omega (arith, elements_few v g w))
  elements_fit (index all) k s w l m f e = each-fit v g w l e f

  step_fits : (i : Id) {ty : Ty} {t : Tagging} {at end : ℕ} {x : Value} {after : ℕ} → Decodes v ty t at end x after → end ≤ length v → Fine ty
      → under i (of_type ty) ≡ Some g → AllFit v g (step defaults i (value x))
  unfolding under Fine
  step_fits i (is_basic_type b h) l f e = none-some g e
  step_fits i (is-sequence {s = s} b w) l f e = fields_fit i s w (behind-within b l) f e
  step_fits i (is-choice c) l f e = alternative-fits i c l f e
  step_fits i (is-list {k = k} {s = s} b w r) l f e = elements_fit i k s w (behind-within b l) (behind-short b l) f e

-- ---- along the identifiers
module _ (defaults : Bool) (v : List ℕ) where
  held-step : (i : Id) (g k : Target) (h : Held) → Fits v h g → under i g ≡ Some k → AllFit v k (step defaults i h)
  unfolding Fits step
  held-step i (of_type ty) k (value x) w e = step_fits defaults v k i w.0.decodes w.0.inside w.1 e
  held-step i of_count k (value x) w e = absurd w
  held-step i (of_type ty) k (default_value p m) w e = none-fit v k
  held-step i of_count k (default_value p m) w e = absurd w
  held-step i (of_type ty) k (count_value p n) w e = absurd w
  held-step i of_count k (count_value p n) w e = none-fit v k

  replaced-fit : (i : Id) (g k : Target) (hs : List Held) → AllFit v g hs → under i g ≡ Some k → AllFit v k (replaced defaults i hs)
  unfolding AllFit replaced
  replaced-fit i g k [] w e = tt
  replaced-fit i g k (h ∷ hs) w e = append-fit v k (step defaults i h) (replaced defaults i hs) (held-step i g k h w.0 e) (replaced-fit i g k hs w.1 e)

  held-fit : (is : List Id) (g k : Target) (hs : List Held) → AllFit v g hs → allowed_from is g ≡ Some k → AllFit v k (held defaults is hs)
  unfolding held allowed_from
  held-fit [] g k hs w e = subst (λ (y : Target). AllFit v y hs) (some_same g k e) w
  held-fit (i ∷ is) g k hs w e = let b = bind_view (under i g) (λ h. allowed_from is h) k e in held-fit is b.0 k (replaced defaults i hs) (replaced-fit i g b.0 hs w b.1) b.2

  -- what is named fits what the reference leads to
  pub named-fit : (is : List Id) (ty : Ty) (k : Target) (x : Value) → Fine ty → stored_value ty v ≡ Some x → allowed is ty ≡ Some k → AllFit v k (named defaults is x)
  unfolding allowed named
  named-fit is ty k x f e h = held-fit is (of_type ty) k (value x ∷ []) (one-fits v (of_type ty) ty x refl (decoded-is (decodes-stored ty v x e) (omega arith)) f) h

-- ---- tests that say the same of what fits
all_alike : (f h : Held → Bool) (v : List ℕ) (g : Target) → ((x : Held) → Fits v x g → f x ≡ h x) → (hs : List Held) (n : ℕ) → AllFit v g hs
    → testing f n hs ≡ testing h n hs
unfolding AllFit testing
all_alike f h v g same [] n w = refl
all_alike f h v g same (x ∷ hs) n w = ap₂ (λ (b : Bool) (o : Outcome). pick b (settled TRUE (n + 1)) o) (same x w.0)
    (all_alike f h v g same hs (n + 1) w.1)

part-short : (v : List ℕ) → length v ≤ 65536 → (start n : ℕ) → length (part v start n) ≤ 65536
part-short v short start n = omega (arith, length-take n (drop start v), rest-length v start)

-- ---- a plan's test accepts what the rule accepts
module _ (t : List ℕ) (r : Rule) (budget : ℕ) (v : List ℕ) (short : length v ≤ 65536) (asserted : conforms r t ≡ true) where
  abbrev tests : Component → Bool
  tests c = passes (task.testing (test_for r (operand_of r t)) budget) (operand_of r t) c

  value_passes : {ty : Ty} {g : Tagging} {at end : ℕ} {x : Value} {after : ℕ} → Decodes v ty g at end x after → suits r (of_type ty) ≡ true
      → accepted (test_for r (operand_of r t)) (operand_of r t) (spot_of x).contents ≡ accepts_contents r (said r t) (spot_of x).contents
  unfolding spot_at
  value_passes (is_basic_type {k = k} {names = names} {start = start} {n = n} b l) h =
      subst (λ (s : Spot). accepted (test_for r (operand_of r t)) (operand_of r t) s.contents ≡ accepts_contents r (said r t) s.contents) b.spot
      (basic_passes t (part v start n) r k names h asserted l (part-short v short start n))
  value_passes (is-sequence {ms = ms} {s = s} b w) h = sequence-passes t s.contents r ms h
  value_passes (is-choice {ms = ms} {x = x} c) h = choice-passes t (spot_of x).contents r ms h
  value_passes (is-list {k = k} {ty = ty} {s = s} b w q) h = list-passes t s.contents r k ty h

  default-passes : (ty : Ty) (c : List ℕ) → Defaulted ty c → suits r (of_type ty) ≡ true → accepted (test_for r (operand_of r t)) (operand_of r t) c ≡ accepts_contents r (said r t) c
  default-passes ty c d h = basic_passes t c r d.kind d.names (subst (λ (y : Ty). suits r (of_type y) ≡ true) d.is_basic_type h) asserted d.legal
      (omega (arith, d.short))

  held-passes : (g : Target) (h : Held) → suits r g ≡ true → Fits v h g → tests (component h) ≡ accepts r (said r t) h
  unfolding Fits passes passes_contents passes_count accepts
  held-passes (of_type ty) (value x) e w = value_passes w.0.decodes e
  held-passes of_count (value x) e w = absurd w
  held-passes (of_type ty) (default_value p m) e w = default-passes ty (contents_of m.presence) w e
  held-passes of_count (default_value p m) e w = absurd w
  held-passes (of_type ty) (count_value p n) e w = absurd w
  held-passes of_count (count_value p n) e w = count-passes t n (omega (arith, short, w)) r e asserted

  -- with a rule that is for what the reference leads to and a text that conforms
  pub named-tests : (defaults : Bool) (is : List Id) (ty : Ty) (k : Target) (x : Value) (n : ℕ) → Fine ty → stored_value ty v ≡ Some x → allowed is ty ≡ Some k → suits r k ≡ true
      → testing (λ h. tests (component h)) n (named defaults is x) ≡ testing (accepts r (said r t)) n (named defaults is x)
  named-tests defaults is ty k x n f e h q = all_alike _ _ v k (λ y w. held-passes k y q w) (named defaults is x) n (named-fit defaults v is ty k x f e h)

-- ---- a test of bits accepts what the rule accepts
module _ (r : Rule) (bits : read_by_target r ≡ true) (x : List ℕ) (test : Test) (a : Asserted) (agrees : Accepting r x test a) (budget : ℕ) (v : List ℕ)
    (short : length v ≤ 65536) where
  bits-value : {ty : Ty} {g : Tagging} {at end : ℕ} {y : Value} {after : ℕ} → Decodes v ty g at end y after → suits r (of_type ty) ≡ true
      → accepted test x (spot_of y).contents ≡ accepts_contents r a (spot_of y).contents
  unfolding spot_at
  bits-value (is_basic_type {start = start} {n = n} b l) h =
      subst (λ (s : Spot). accepted test x s.contents ≡ accepts_contents r a s.contents) b.spot
      (agrees.contents (part v start n) (part-short v short start n))
  bits-value (is-sequence {ms = ms} b w) h = absurd (false≢true (sym (bits_no_sequence r bits ms) ∙ h))
  bits-value (is-choice {ms = ms} c) h = absurd (false≢true (sym (bits_no_choice r bits ms) ∙ h))
  bits-value (is-list {k = k} {ty = ty} b w q) h = absurd (false≢true (sym (bits_no_list r bits k ty) ∙ h))

  bits-held : (g : Target) (h : Held) → suits r g ≡ true → Fits v h g → passes (task.testing test budget) x (component h) ≡ accepts r a h
  unfolding Fits passes passes_contents accepts
  bits-held (of_type ty) (value y) e w = bits-value w.0.decodes e
  bits-held of_count (value y) e w = absurd w
  bits-held (of_type ty) (default_value p m) e w = agrees.contents (contents_of m.presence) (omega (arith, w.short))
  bits-held of_count (default_value p m) e w = absurd w
  bits-held (of_type ty) (count_value p n) e w = absurd w
  bits-held of_count (count_value p n) e w = absurd (false≢true (sym (bits_no_count r bits) ∙ e))

  pub bits-tests : (defaults : Bool) (is : List Id) (ty : Ty) (k : Target) (y : Value) (n : ℕ) → Fine ty → stored_value ty v ≡ Some y → allowed is ty ≡ Some k
      → suits r k ≡ true
      → testing (λ h. passes (task.testing test budget) x (component h)) n (named defaults is y) ≡ testing (accepts r a) n (named defaults is y)
  bits-tests defaults is ty k y n f e h q = all_alike _ _ v k (λ z w. bits-held k z q w) (named defaults is y) n (named-fit defaults v is ty k y f e h)
