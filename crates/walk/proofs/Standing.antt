-- Decoded values on the octets: a value that is decoded stands where headers that are not doubted put it.
use mathlib.Core.Path.{◌≡◌, refl, sym, ap, ap₂, ◌∙◌, subst}
use mathlib.Core.Bool.{true, false≢true}
use mathlib.Core.List.{List}
use Prim.Native.Nat.{ℕ, ◌≤◌, ◌+◌}
use native.Mathlib.Omega.{arith}
use lib.ListN.{length}
use Rattle.der.specs.Tag.{wrapper_octet}
use Rattle.der.proofs.Laws.{inside_view, header-within}
use Rattle.types.specs.Types.{Tagging, untagged, explicit, implicit, Ty, sequence, choice, list_of, Members}
use Rattle.value.specs.Value.{Spot, spot_at, spot_of, Value, fields, elements, Fields, Values}
use Rattle.value.specs.Inner.Decodes.{is_bare, Behind, Decodes, is-sequence, is-choice, is-list, Tagged, bare, filling, Fielded, Chosen, Elements}
use Rattle.value.proofs.Decodes.{Framed, Own, own, framed, framed_by}
use Rattle.value.proofs.Laws.{framed_within}
use Rattle.value.proofs.Before.{before}
use Rattle.walk.specs.Inner.Raw.{start_of, next_after}
use Rattle.walk.specs.Inner.Stands.{Stands, within}
use Rattle.walk.proofs.RawLaws.{raw_header}

-- the place after what is decoded is the raw header's
framed_next : {v : List ℕ} {at end after : ℕ} → Framed v at end after → next_after v at ≡ after
framed_next {v = v} {at = at} {end = end} w = (raw_header v at end w.octet w.start w.n w.header).1 ∙ w.ends

pub decodes_next : {v : List ℕ} {ty : Ty} {g : Tagging} {at end : ℕ} {x : Value} {after : ℕ} → Decodes v ty g at end x after → next_after v at ≡ after
decodes_next d = framed_next (framed (own d))

-- ---- what is decoded stands
pub decodes-stands : {v : List ℕ} {ty : Ty} {g : Tagging} {at end : ℕ} {x : Value} {after : ℕ} → Decodes v ty g at end x after → end ≤ length v → Stands ty v at x
decodes-stands {v = v} {ty = ty} {g = g} {at = at} {x = x} d h =
    let w = framed_within (framed (own d)) in
    record { tagging = g; decoded = subst (Decodes v ty g at (length v) x) (sym (decodes_next d)) (before (length v) d (omega arith)) }

within-bare : (g : Tagging) (v : List ℕ) (at : ℕ) → is_bare g ≡ true → within g v at ≡ at
within-bare untagged v at q = refl
within-bare (implicit n) v at q = refl
within-bare (explicit n) v at q = absurd (false≢true q)

-- under a tag mode: behind its wrapper
pub tagged-stands : {v : List ℕ} {ty : Ty} {g : Tagging} {at end : ℕ} {x : Value} {after : ℕ} → Tagged v ty g at end x after → end ≤ length v
    → Stands ty v (within g v at) x
tagged-stands {v = v} {ty = ty} {g = g} {at = at} {x = x} (bare q d) h = subst (λ (y : ℕ). Stands ty v y x) (sym (within-bare g v at q)) (decodes-stands d h)
tagged-stands {v = v} {ty = ty} {x = x} (filling {k = k} {at = at} {end = end} {start = start} {n = n} e d q) h =
    let hd = inside_view (wrapper_octet k) v at end start n e in
    let i = header-within v at end _ start n hd in
    subst (λ (y : ℕ). Stands ty v y x) (sym (raw_header v at end _ start n hd).0) (decodes-stands d (omega arith))

-- the place after it is the wrapper's
pub tagged_next : {v : List ℕ} {ty : Ty} {g : Tagging} {at end : ℕ} {x : Value} {after : ℕ} → Tagged v ty g at end x after → next_after v at ≡ after
tagged_next t = framed_next (framed_by t)

pub tagged-within : {v : List ℕ} {ty : Ty} {g : Tagging} {at end : ℕ} {x : Value} {after : ℕ} → Tagged v ty g at end x after → end ≤ length v
    → next_after v at ≤ length v
tagged-within t h = let w = framed_within (framed_by t) in let e = tagged_next t in omega arith

-- ---- a value that stands
module _ {ty : Ty} {v : List ℕ} {at : ℕ} {x : Value} (s : Stands ty v at x) where
  mine : Own v at (length v) x (next_after v at)
  mine = own s.decoded

  pub stands-within : next_after v at ≤ length v
  stands-within = framed_within (framed mine)

  pub stands-spot : (n : ℕ) → start_of v at + n ≡ next_after v at → spot_at v at (start_of v at) n ≡ spot_of x
  stands-spot n e =
      let w = mine in
      let r = raw_header v at (length v) w.octet w.start w.n (inside_view w.octet v at (length v) w.start w.n w.behind.header) in
      let a : start_of v at ≡ w.start = r.0 in
      let b : next_after v at ≡ w.start + w.n = r.1 in
      let c : n ≡ w.n = omega arith in
      ap₂ (λ (y z : ℕ). spot_at v at y z) a c ∙ w.behind.spot

  pub stands-place : (spot_of x).place ≡ at
  unfolding spot_at
  stands-place = sym (ap (λ (y : Spot). y.place) mine.behind.spot)

-- ---- by its type
behind-start : {v : List ℕ} {o at end start n : ℕ} {s : Spot} {after : ℕ} → Behind v o at end start n s after → start_of v at ≡ start
behind-start {v = v} {o = o} {at = at} {end = end} {start = start} {n = n} b = (raw_header v at end _ start n (inside_view o v at end start n b.header)).0

fields_from_lem : {v : List ℕ} {ms : Members} {g : Tagging} {at end : ℕ} {x : Value} {after : ℕ} → Decodes v (sequence ms) g at end x after
    → (s : Spot) × (fs : Fields) × (Fielded v after ms (start_of v at) fs) × (fields s fs ≡ x)
fields_from_lem {v = v} {ms = ms} {after = after} (is-sequence {s = s} {fs = fs} b w) = (s, fs, subst (λ (y : ℕ). Fielded v after ms y fs) (sym (behind-start b)) w, refl)

elements_from_lem : {v : List ℕ} {k : ℕ} {ty : Ty} {g : Tagging} {at end : ℕ} {x : Value} {after : ℕ} → Decodes v (list_of k ty) g at end x after
    → (s : Spot) × (xs : Values) × (n : ℕ) × (Elements v ty after n (start_of v at) xs) × (elements s xs ≡ x)
elements_from_lem {v = v} {ty = ty} {after = after} (is-list {n = n} {s = s} {xs = xs} b w r) = (s, xs, n, subst (λ (y : ℕ). Elements v ty after n y xs) (sym (behind-start b)) w, refl)

choice-from : {v : List ℕ} {ms : Members} {g : Tagging} {at end : ℕ} {x : Value} {after : ℕ} → Decodes v (choice ms) g at end x after → Chosen v end at ms x after
choice-from (is-choice c) = c

module _ {v : List ℕ} {at : ℕ} {x : Value} where
  pub fields_stand : {ms : Members} → Stands (sequence ms) v at x → (s : Spot) × (fs : Fields) × (Fielded v (next_after v at) ms (start_of v at) fs) × (fields s fs ≡ x)
  fields_stand s = fields_from_lem s.decoded

  pub elements_stand : {k : ℕ} {ty : Ty} → Stands (list_of k ty) v at x
      → (s : Spot) × (xs : Values) × (n : ℕ) × (Elements v ty (next_after v at) n (start_of v at) xs) × (elements s xs ≡ x)
  elements_stand s = elements_from_lem s.decoded

  pub choice-stands : {ms : Members} → Stands (choice ms) v at x → Chosen v (length v) at ms x (next_after v at)
  choice-stands s = choice-from s.decoded
