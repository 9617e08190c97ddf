-- Stored names against the operand, RDN by RDN.
use Rattle.std.specs.Prelude.{Option, Some, None}
use mathlib.Core.Path.{◌≡◌, refl, sym, ap, ap₂, ◌∙◌}
use mathlib.Core.Bool.{Bool, true, false, not}
use mathlib.Core.List.{List, [], ◌∷◌, map}
use Prim.Native.Nat.{ℕ, zero, suc, ◌≤◌, ◌<◌, ◌+◌, ◌-◌}
use native.Mathlib.Omega.{arith}
use native.Mathlib.Numerals.{add-one}
use borrow.Author.Tests.{eq-eqb, ne_eqb, eqb-true, eqb-false, not-true, not-false}
use lib.ListN.{length}
use lib.Dec.{eqb}
use Rattle.octets.specs.Pick.{pick, both}
use Rattle.octets.specs.Octets.{octet, part}
use Rattle.octets.proofs.Laws.{never}
use Rattle.der.specs.Header.{inside_at}
use Rattle.der.specs.Names.{Element, element_at, elements_from, elements_of}
use Rattle.names.specs.Compared.{Compared, stored_rdn, stored_name, same_rdn, same_name}
use Rattle.names.specs.Inner.Operand.{type_start, start_back, rdn_back, rdn_start, rdns_back, operand_name}
use Rattle.namematch.specs.Inner.Names.{behind, rdn_at, operand_at, rdn_count, rdn_of, same_from}
use Rattle.namematch.proofs.Laws.{name_elements, none_left, next_element, few_elements}
use Rattle.namematch.proofs.Steps.{always, no_length}

-- ---- places
at_next : (c : List ℕ) (i start len : ℕ) → inside_at 49 c (rdn_at c i) (length c) ≡ Some (start, len) → rdn_at c (i + 1) ≡ start + len
unfolding rdn_at
at_next c i start len e = ap (rdn_at c) (add-one i) ∙ ap behind e

operand_next : (x : List ℕ) (i : ℕ) → operand_at x (i + 1) ≡ rdn_start x (operand_at x i)
unfolding operand_at
operand_next x i = ap (operand_at x) (add-one i)

start_none : (n : ℕ) (x : List ℕ) → start_back n x 0 ≡ 0
unfolding start_back
start_none zero x = refl
start_none (suc n) x = let e : type_start x 0 ≡ 0 = omega arith in ap (start_back n x) e ∙ start_none n x

-- the operand has no RDN behind its last
none-behind : (x : List ℕ) (i k : ℕ) → operand_at x i ≡ 0 → operand_at x (k + i) ≡ 0
unfolding operand_at
none-behind x i zero e = let z : 0 + i ≡ i = omega arith in ap (operand_at x) z ∙ e
none-behind x i (suc k) e =
    let z : suc k + i ≡ suc (k + i) = omega arith in
    ap (operand_at x) z ∙ ap (rdn_start x) (none-behind x i k e) ∙ start_none (octet x 0) x

module _ (c : List ℕ) where
  -- ---- how many RDNs are left
  few : rdn_count c ≤ 16
  few = few_elements 16 49 c 0

  abbrev left : ℕ → List Element
  left i = elements_of (elements_from (16 - i) 49 c (rdn_at c i))

  module _ (i : ℕ) (h : i < rdn_count c) (known : i + length (left i) ≡ rdn_count c) where
    no-misfit : inside_at 49 c (rdn_at c i) (length c) ≡ None → ⊥
    no-misfit e = let z = none_left (16 - i) 49 c (rdn_at c i) e in omega arith

    left_next : (start len : ℕ) → inside_at 49 c (rdn_at c i) (length c) ≡ Some (start, len) → left i ≡ element_at c (rdn_at c i) start len ∷ left (i + 1)
    left_next start len e =
        next_element 16 49 c (rdn_count c) i (rdn_at c i) start len h few known e
        ∙ ap (λ (p : ℕ). element_at c (rdn_at c i) start len ∷ elements_of (elements_from (16 - (i + 1)) 49 c p)) (sym (at_next c i start len e))

    more_left : i + 1 + length (left (i + 1)) ≡ rdn_count c
    more_left = go (inside_at 49 c (rdn_at c i) (length c)) refl
      where
        go : (v : Option (ℕ × ℕ)) → inside_at 49 c (rdn_at c i) (length c) ≡ v → i + 1 + length (left (i + 1)) ≡ rdn_count c
        go None e = absurd (no-misfit e)
        go (Some (start, len)) e = let q : length (left i) ≡ suc (length (left (i + 1))) = ap length (left_next start len e) in omega arith

  left-count : (i : ℕ) → i ≤ rdn_count c → i + length (left i) ≡ rdn_count c
  unfolding rdn_at
  left-count zero h = omega arith
  left-count (suc i) h = let e = more_left i (omega arith) (left-count i (omega arith)) in (rw (add-one i) at e)

  -- ---- the RDNs from RDN i on
  module _ (x : List ℕ) where
    pub whole : same_from c x 0 ≡ same_name (stored_name c) (operand_name x)
    unfolding same_from rdn_at operand_at
    whole = ap (λ (l : List (List Compared)). same_name l (operand_name x)) (sym (name_elements c))

    -- the operand has none, and the name has
    from-none : (i : ℕ) → i < rdn_count c → operand_at x i ≡ 0 → same_from c x i ≡ false
    unfolding same_from same_name rdns_back
    from-none i h e =
        ap (λ (u : Bool). same_name (map rdn_of (left i)) (pick u [] (rdn_back x (operand_at x i) ∷ rdns_back (16 - i) x (rdn_start x (operand_at x i)))))
        (eq-eqb (operand_at x i) 0 e)
        ∙ go (left i) (let k = left-count i (omega arith) in omega arith)
      where
        go : (l : List Element) → 0 < length l → same_name (map rdn_of l) [] ≡ false
        go [] k = absurd (omega arith)
        go (a ∷ l) k = refl

    -- one RDN of both
    from_next : (i start len : ℕ) → i < rdn_count c → (operand_at x i ≡ 0 → ⊥) → inside_at 49 c (rdn_at c i) (length c) ≡ Some (start, len)
        → same_from c x i ≡ both (same_rdn (stored_rdn (part c start len)) (rdn_back x (operand_at x i))) (same_from c x (i + 1))
    unfolding same_from same_name rdns_back
    from_next i start len h d e =
        let f = few in
        let z : 16 - i ≡ suc (16 - (i + 1)) = omega arith in
        ap₂ (λ (l : List Element) (u : Bool). same_name (map rdn_of l) (pick u [] (rdn_back x (operand_at x i) ∷ rdns_back (16 - i) x (rdn_start x (operand_at x i)))))
        (left_next i h (left-count i (omega arith)) start len e) (ne_eqb (operand_at x i) 0 d)
        ∙ ap₂ (λ (k p : ℕ). both (same_rdn (stored_rdn (part c start len)) (rdn_back x (operand_at x i))) (same_name (map rdn_of (left (i + 1))) (rdns_back k x p)))
        z (sym (operand_next x i))

    -- the name has no more
    from_end : (i : ℕ) → i ≡ rdn_count c → same_from c x i ≡ eqb (operand_at x i) 0
    unfolding same_from same_name rdns_back
    from_end i h =
        ap (λ (l : List Element). same_name (map rdn_of l) (rdns_back (suc (16 - i)) x (operand_at x i)))
        (no_length (left i) (let k = left-count i (omega arith) in omega arith))
        ∙ go (eqb (operand_at x i) 0)
      where
        go : (u : Bool) → same_name [] (pick u [] (rdn_back x (operand_at x i) ∷ rdns_back (16 - i) x (rdn_start x (operand_at x i)))) ≡ u
        go true = refl
        go false = refl

    -- names that differ from RDN i on differ
    from_false : (i : ℕ) → i < rdn_count c → same_from c x (i + 1) ≡ false → same_from c x i ≡ false
    from_false i h f = go (eqb (operand_at x i) 0) refl (inside_at 49 c (rdn_at c i) (length c)) refl
      where
        go : (u : Bool) → eqb (operand_at x i) 0 ≡ u → (v : Option (ℕ × ℕ)) → inside_at 49 c (rdn_at c i) (length c) ≡ v → same_from c x i ≡ false
        go true q v e = from-none i h (eqb-true (operand_at x i) 0 q)
        go false q None e = absurd (no-misfit i h (left-count i (omega arith)) e)
        go false q (Some (start, len)) e =
            from_next i start len h (eqb-false (operand_at x i) 0 q) e
            ∙ ap (both (same_rdn (stored_rdn (part c start len)) (rdn_back x (operand_at x i)))) f
            ∙ never (same_rdn (stored_rdn (part c start len)) (rdn_back x (operand_at x i)))

    pub all-differ : (i : ℕ) → i ≤ rdn_count c → same_from c x i ≡ false → same_name (stored_name c) (operand_name x) ≡ false
    all-differ zero h f = sym whole ∙ f
    all-differ (suc i) h f = all-differ i (omega arith) (from_false i (omega arith) (ap (same_from c x) (add-one i) ∙ f))

-- ---- RDN i of both lies at these places
pub record Placed (c x : List ℕ) (at end i : ℕ) : Type 0 where
  pub here : at ≡ rdn_at c i
  pub there : end ≡ operand_at x i

pub placed-start : (c x : List ℕ) → Placed c x 0 (length x) 0
unfolding rdn_at operand_at
placed-start c x = record { here = refl; there = refl }

module _ (c x : List ℕ) (at end i : ℕ) (s : Placed c x at end i) where
  opens : (v : Option (ℕ × ℕ)) → v ≡ inside_at 49 c at (length c) → (w : Option (ℕ × ℕ)) → v ≡ w → inside_at 49 c (rdn_at c i) (length c) ≡ w
  opens v read w e = ap (λ (p : ℕ). inside_at 49 c p (length c)) (sym s.here) ∙ sym read ∙ e

  some_there : (end ≡ 0 → ⊥) → operand_at x i ≡ 0 → ⊥
  some_there d e = d (s.there ∙ e)

  placed_next : (v : Option (ℕ × ℕ)) (start len m : ℕ) → v ≡ inside_at 49 c at (length c) → v ≡ Some (start, len) → m ≡ rdn_start x end
      → Placed c x (start + len) m (i + 1)
  placed_next v start len m read e g = record {
    here = sym (at_next c i start len (opens v read (Some (start, len)) e));
    there = g ∙ ap (rdn_start x) s.there ∙ sym (operand_next x i);
  }

-- ---- the last RDN
pub record Reaching (c x : List ℕ) (n place reached i : ℕ) : Type 0 where
  pub short : i < n
  pub counted : n ≡ rdn_count c
  pub placed : Placed c x place reached i

pub reach-start : (c x : List ℕ) (n : ℕ) → 0 < n → n ≡ rdn_count c → Reaching c x n 0 (length x) 0
reach-start c x n h e = record { short = h; counted = e; placed = placed-start c x }

module _ (c x : List ℕ) (n place reached i : ℕ) (s : Reaching c x n place reached i) where
  within : i < rdn_count c
  within = let a = s.short in let b = s.counted in omega arith

  pub reach-none : reached ≡ 0 → false ≡ same_from c x (n - 1)
  reach-none e =
      let a = s.short in
      let b = s.counted in
      let k : n - 1 - i + i ≡ n - 1 = omega arith in
      sym (from-none c x (n - 1) (omega arith) (ap (operand_at x) (sym k) ∙ none-behind x i (n - 1 - i) (sym s.placed.there ∙ e)))

  module _ (v : Option (ℕ × ℕ)) (read : v ≡ inside_at 49 c place (length c)) where
    pub reach-misfit : v ≡ None → false ≡ same_from c x (n - 1)
    reach-misfit e =
        let w = within in
        absurd (no-misfit c i within (left-count c i (omega arith)) (opens c x place reached i s.placed v read None e))

    module _ (start len : ℕ) (e : v ≡ Some (start, len)) where
      pub reach-more : (last m : ℕ) → last ≡ n - 1 → i < last → m ≡ rdn_start x reached → Reaching c x n (start + len) m (i + 1)
      reach-more last m k h g = record {
        short = omega arith;
        counted = s.counted;
        placed = placed_next c x place reached i s.placed v start len m read e g;
      }

      -- the last of both: RDN n - 1, as n - 1 ≤ i
      module _ (d : reached ≡ 0 → ⊥) (last m : ℕ) (k : last ≡ n - 1) (h : last ≤ i) (g : m ≡ rdn_start x reached) where
        is_last : n - 1 ≡ i
        is_last = let a = s.short in omega arith

        ends : same_from c x (i + 1) ≡ eqb m 0
        ends =
            let a = s.short in
            let b = s.counted in
            from_end c x (i + 1) (omega arith)
            ∙ ap (λ (y : ℕ). eqb y 0) (sym (placed_next c x place reached i s.placed v start len m read e g).there)

        splits : same_from c x (n - 1) ≡ both (same_rdn (stored_rdn (part c start len)) (rdn_back x reached)) (eqb m 0)
        splits =
            ap (same_from c x) is_last
            ∙ from_next c x i start len within (some_there c x place reached i s.placed d)
            (opens c x place reached i s.placed v read (Some (start, len)) e)
            ∙ ap₂ (λ (y : ℕ) (u : Bool). both (same_rdn (stored_rdn (part c start len)) (rdn_back x y)) u) (sym s.placed.there) ends

        pub reach-fewer : (m ≡ 0 → ⊥) → false ≡ same_from c x (n - 1)
        reach-fewer f =
            sym (splits ∙ ap (both (same_rdn (stored_rdn (part c start len)) (rdn_back x reached))) (ne_eqb m 0 f)
            ∙ never (same_rdn (stored_rdn (part c start len)) (rdn_back x reached)))

        pub reach-last : (p : List ℕ) (r : Bool) → m ≡ 0 → p ≡ part c start len → r ≡ same_rdn (stored_rdn p) (rdn_back x reached) → r ≡ same_from c x (n - 1)
        reach-last p r f q told =
            told
            ∙ ap (λ (y : List ℕ). same_rdn (stored_rdn y) (rdn_back x reached)) q
            ∙ sym (splits ∙ ap (both (same_rdn (stored_rdn (part c start len)) (rdn_back x reached))) (eq-eqb m 0 f)
            ∙ always (same_rdn (stored_rdn (part c start len)) (rdn_back x reached)))

-- ---- the RDNs before those that are the same
pub record Before (c x : List ℕ) (k at end i : ℕ) : Type 0 where
  pub low : i ≤ k
  pub placed : Placed c x at end i
  pub so_far : same_from c x i ≡ same_name (stored_name c) (operand_name x)

pub before-start : (c x : List ℕ) (k : ℕ) → Before c x k 0 (length x) 0
before-start c x k = record { low = omega arith; placed = placed-start c x; so_far = whole c x }

pub before-done : (c x : List ℕ) (k at end i : ℕ) → Before c x k at end i → k ≤ i → same_from c x k ≡ true → true ≡ same_name (stored_name c) (operand_name x)
before-done c x k at end i s h e = let l = s.low in let z : i ≡ k = omega arith in sym e ∙ ap (same_from c x) (sym z) ∙ s.so_far

module _ (c x : List ℕ) (k at end i : ℕ) (s : Before c x k at end i) (h : i < k) (l : k ≤ rdn_count c) where
  pub before-none : end ≡ 0 → false ≡ same_name (stored_name c) (operand_name x)
  before-none e = sym (from-none c x i (omega arith) (sym s.placed.there ∙ e)) ∙ s.so_far

  module _ (v : Option (ℕ × ℕ)) (read : v ≡ inside_at 49 c at (length c)) where
    pub before-misfit : v ≡ None → false ≡ same_name (stored_name c) (operand_name x)
    before-misfit e = absurd (no-misfit c i (omega arith) (left-count c i (omega arith)) (opens c x at end i s.placed v read None e))

    module _ (start len : ℕ) (e : v ≡ Some (start, len)) (d : end ≡ 0 → ⊥) (p : List ℕ) (q : p ≡ part c start len) (u : Bool)
        (told : u ≡ same_rdn (stored_rdn p) (rdn_back x end)) where
      by-rdn : both u (same_from c x (i + 1)) ≡ same_name (stored_name c) (operand_name x)
      by-rdn =
          ap (λ (y : Bool). both y (same_from c x (i + 1)))
          (told ∙ ap₂ (λ (y : List ℕ) (z : ℕ). same_rdn (stored_rdn y) (rdn_back x z)) q s.placed.there)
          ∙ sym (from_next c x i start len (omega arith) (some_there c x at end i s.placed d)
          (opens c x at end i s.placed v read (Some (start, len)) e))
          ∙ s.so_far

      pub before-other : not u ≡ true → false ≡ same_name (stored_name c) (operand_name x)
      before-other f = rw (not-true u f) at by-rdn

      pub before_more : (m : ℕ) → not u ≡ false → m ≡ rdn_start x end → Before c x k (start + len) m (i + 1)
      before_more m f g = record {
        low = omega arith;
        placed = placed_next c x at end i s.placed v start len m read e g;
        so_far = rw (not-false u f) at by-rdn;
      }

-- ---- the whole name
module _ (c x : List ℕ) (n : ℕ) (counted : n ≡ rdn_count c) where
  pub name-empty : n ≡ 0 → eqb (length x) 0 ≡ same_name (stored_name c) (operand_name x)
  unfolding operand_at
  name-empty e = sym (from_end c x 0 (sym e ∙ counted)) ∙ whole c x

  module _ (u : Bool) (told : u ≡ same_from c x (n - 1)) where
    pub name-other : u ≡ false → u ≡ same_name (stored_name c) (operand_name x)
    name-other f = f ∙ sym (all-differ c x (n - 1) (omega arith) (sym told ∙ f))

    pub name-last : u ≡ true → same_from c x (n - 1) ≡ true
    name-last f = sym told ∙ f

  pub name-within : n - 1 ≤ rdn_count c
  name-within = omega arith
