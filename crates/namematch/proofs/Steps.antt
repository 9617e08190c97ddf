-- Stored names against the operand: one lemma for each return and each turn of a loop.
use mathlib.Core.Path.{◌≡◌, refl, sym, ap, ap₂, ◌∙◌, subst}
use mathlib.Core.Bool.{Bool, true, false}
use Rattle.std.specs.Prelude.{Option, None, Some}
use mathlib.Core.List.{List, [], ◌∷◌, map}
use Prim.Native.Nat.{ℕ, suc, ◌≤◌, ◌<◌, ◌+◌, ◌-◌, ◌*◌, ◌/◌, ◌%◌, ◌^◌}
use native.Mathlib.Omega.{arith}
use native.Mathlib.Numerals.{add-one}
use native.Mathlib.Nat.{mul-add, pow-suc, pow-le-pow_right}
use lib.ListN.{length, length-map}
use Rattle.octets.specs.Pick.{pick, both, consed}
use Rattle.octets.specs.Octets.{part}
use Rattle.der.specs.Header.{inside_at}
use Rattle.der.specs.Names.{Element, element_at, elements_from, elements_of, pair_of}
use Rattle.der.proofs.Laws.{inside-long}
use Rattle.der.proofs.NameLaws.{elements_end, elements_full, elements_misfit, elements_next}
use Rattle.names.specs.Compared.{Compared, stored, stored_rdn, without, others, same_rdn}
use Rattle.names.specs.Inner.Operand.{type_start, attribute_back, attributes_back, start_back}
use Rattle.names.proofs.Matching.{other_length, without-length}
use Rattle.namematch.specs.Inner.Marks.{unused, same_unused, behind, marked, Near}
use Rattle.namematch.proofs.Laws.{pair_in, rdn_elements, none_left, next_element, few_elements}
use Rattle.namematch.proofs.Laws.{none-marked, taken, without-marked, above, spread, above-behind, attributes_length}

pub always : (x : Bool) → both x true ≡ x
always true = refl
always false = refl

-- ---- how many elements there are: n of them lie before place at
abbrev pub counted : ℕ → Option (List Element) → ℕ
counted n None = 0
counted n (Some es) = n + length es

pub record Counting (tag most : ℕ) (c : List ℕ) (n at : ℕ) : Type 0 where
  pub few : n ≤ most
  pub so_far : counted n (elements_from (most - n) tag c at) ≡ length (elements_of (elements_from most tag c 0))

counted_next : (n : ℕ) (b : Element) (o : Option (List Element)) → counted n (consed b o) ≡ counted (n + 1) o
counted_next n b None = refl
counted_next n b (Some es) = omega arith

module _ (tag most : ℕ) (c : List ℕ) (n at : ℕ) (s : Counting tag most c n at) where
  pub count-done : length c ≤ at → n ≡ length (elements_of (elements_from most tag c 0))
  count-done h =
      let e : n ≡ n + 0 = omega arith in
      e ∙ sym (ap (counted n) (elements_end tag c at (most - n) h)) ∙ s.so_far

  module _ (h : at < length c) where
    pub count_full : most ≤ n → 0 ≡ length (elements_of (elements_from most tag c 0))
    count_full l =
        let z : most - n ≡ 0 = omega arith in
        sym (ap (λ (m : ℕ). counted n (elements_from m tag c at)) z ∙ ap (counted n) (elements_full tag c at h)) ∙ s.so_far

    module _ (d : n < most) (i : Option (ℕ × ℕ)) (read : i ≡ inside_at tag c at (length c)) where
      step : elements_from (most - n) tag c at ≡ elements_from (suc (most - (n + 1))) tag c at
      step = let e : most - n ≡ suc (most - (n + 1)) = omega arith in ap (λ (m : ℕ). elements_from m tag c at) e

      pub count-misfit : i ≡ None → 0 ≡ length (elements_of (elements_from most tag c 0))
      count-misfit e = sym (ap (counted n) (step ∙ elements_misfit tag c at h (most - (n + 1)) (sym read ∙ e))) ∙ s.so_far

      module _ (start len : ℕ) (e : i ≡ Some (start, len)) where
        pub count_falls : length c - (start + len) < length c - at
        count_falls = omega (arith, inside-long tag c at (length c) start len (sym read ∙ e))

        pub count-more : Counting tag most c (n + 1) (start + len)
        count-more = record {
          few = omega arith;
          so_far = sym (counted_next n (element_at c at start len) (elements_from (most - (n + 1)) tag c (start + len)))
              ∙ sym (ap (counted n) (step ∙ elements_next tag c at h (most - (n + 1)) start len (sym read ∙ e))) ∙ s.so_far;
        }

-- ---- the operand
-- i of n attributes are behind
module _ (n : ℕ) (x : List ℕ) (end i start : ℕ) (inv : start_back (n - i) x start ≡ start_back n x end) where
  pub back_done : n ≤ i → start ≡ start_back n x end
  unfolding start_back
  back_done h = let z : n - i ≡ 0 = omega arith in sym (ap (λ (k : ℕ). start_back k x start) z) ∙ inv

  pub back_more : (p : ℕ) → i < n → p ≡ type_start x start → start_back (n - (i + 1)) x p ≡ start_back n x end
  unfolding start_back
  back_more p h e =
      let z : n - i ≡ suc (n - (i + 1)) = omega arith in
      ap (start_back (n - (i + 1)) x) e ∙ sym (ap (λ (k : ℕ). start_back k x start) z) ∙ inv

-- ---- an attribute for a pair: j attributes lie before, none of them unused and the same
pub record Using (a : Compared) (x : List ℕ) (end n used place rest weight j : ℕ) : Type 0 where
  pub few : j ≤ n
  pub power : weight ≡ 2 ^ j
  pub low : ℕ
  pub whole : low + weight * rest ≡ used
  pub so_far : above low weight (marked a (attributes_back (n - j) x place) rest) ≡ marked a (attributes_back n x end) used

module _ (a : Compared) (x : List ℕ) (end n used place rest weight j : ℕ) (s : Using a x end n used place rest weight j) where
  pub use_none : n ≤ j → None ≡ marked a (attributes_back n x end) used
  unfolding attributes_back marked
  use_none h =
      let z : n - j ≡ 0 = omega arith in
      sym (ap (λ (k : ℕ). above s.low weight (marked a (attributes_back k x place) rest)) z) ∙ s.so_far

  module _ (h : j < n) where
    weight-low : n ≤ 4 → weight ≤ 8
    weight-low l =
        let k : j ≤ 3 = omega arith in
        let p : 2 ^ j ≤ 2 ^ 3 = pow-le-pow_right (omega arith) k in
        let e = s.power in
        omega arith

    pub use_near : n ≤ 4 → used + weight ≤ used + 8
    use_near l = let w = weight-low l in omega arith

    module _ (u : Bool) (told : u ≡ same_unused a (attribute_back x place) rest) where
      first : above s.low weight (pick u (Some (rest + 1)) (behind (rest % 2) (marked a (attributes_back (n - (j + 1)) x (type_start x place)) (rest / 2))))
          ≡ marked a (attributes_back n x end) used
      unfolding attributes_back marked
      first =
          let z : n - j ≡ suc (n - (j + 1)) = omega arith in
          ap (λ (y : Bool). above s.low weight
          (pick y (Some (rest + 1)) (behind (rest % 2) (marked a (attributes_back (n - (j + 1)) x (type_start x place)) (rest / 2))))) told
          ∙ sym (ap (λ (k : ℕ). above s.low weight (marked a (attributes_back k x place) rest)) z)
          ∙ s.so_far

      pub use_found : u ≡ true → Some (used + weight) ≡ marked a (attributes_back n x end) used
      use_found e =
          let w = s.whole in
          let m : weight * (rest + 1) ≡ weight * rest + weight * 1 = mul-add weight rest 1 in
          let q : used + weight ≡ s.low + weight * (rest + 1) = omega arith in
          ap Some q ∙ (rw e at first)

      pub use_more : (p : ℕ) → u ≡ false → p ≡ type_start x place → Using a x end n used p (rest / 2) (weight * 2) (j + 1)
      use_more p e f = record {
        few = omega arith;
        power = ap (λ (y : ℕ). y * 2) s.power ∙ sym (ap (λ (k : ℕ). 2 ^ k) (add-one j) ∙ pow-suc 2 j);
        low = s.low + weight * (rest % 2);
        whole = halved;
        so_far = ap (λ (y : ℕ). above (s.low + weight * (rest % 2)) (weight * 2) (marked a (attributes_back (n - (j + 1)) x y) (rest / 2))) f
            ∙ sym (above-behind s.low weight (rest % 2) (marked a (attributes_back (n - (j + 1)) x (type_start x place)) (rest / 2)))
            ∙ (rw e at first);
      }
        where
          halved : s.low + weight * (rest % 2) + weight * 2 * (rest / 2) ≡ used
          halved =
              let w = s.whole in
              let d : rest % 2 + 2 * (rest / 2) ≡ rest = omega arith in
              let m : weight * rest ≡ weight * (rest % 2) + weight * 2 * (rest / 2)
              = sym (ap (λ (y : ℕ). weight * y) d) ∙ spread weight (rest % 2) (rest / 2) in
              omega arith

-- ---- a list without elements
pub no_length : {A : Type 0} (l : List A) → length l ≡ 0 → l ≡ []
no_length [] e = refl
no_length (a ∷ l) e = absurd (omega arith)

-- ---- the pairs of an RDN from a place on, before which i of them lie
abbrev pub pairs_left : List ℕ → ℕ → ℕ → List Element
pairs_left c i at = elements_of (elements_from (4 - i) 48 c at)

-- ---- an RDN: i of n pairs lie before place at, each with an attribute of its own
pub record Matching (c x : List ℕ) (end n at used i : ℕ) : Type 0 where
  pub few : i ≤ n
  pub most : n ≤ 4
  pub low : used ≤ 8 * i
  pub pairs-left : i + length (pairs_left c i at) ≡ n
  pub attributes_left : i + length (unused (attributes_back n x end) used) ≡ n
  pub so_far : same_rdn (map pair_in (pairs_left c i at)) (unused (attributes_back n x end) used)
      ≡ same_rdn (stored_rdn c) (attributes_back n x end)

pairs-length : (c : List ℕ) → length (stored_rdn c) ≡ length (elements_of (elements_from 4 48 c 0))
pairs-length c = ap length (rdn_elements c) ∙ length-map (elements_of (elements_from 4 48 c 0)) pair_in

module _ (c x : List ℕ) (end n k : ℕ) (count : k ≡ length (elements_of (elements_from 4 48 c 0))) where
  pub match_other : (k ≡ n → ⊥) → false ≡ same_rdn (stored_rdn c) (attributes_back n x end)
  match_other d =
      other_length (stored_rdn c) (attributes_back n x end) (λ e. d (count ∙ sym (pairs-length c) ∙ e ∙ attributes_length n x end))

  pub match_start : k ≡ n → Matching c x end n 0 0 0
  match_start e =
      let f : length (elements_of (elements_from 4 48 c 0)) ≤ 4 = few_elements 4 48 c 0 in
      let u : length (unused (attributes_back n x end) 0) ≡ n = ap length (none-marked (attributes_back n x end)) ∙ attributes_length n x end in
      record {
        few = omega arith;
        most = omega arith;
        low = omega arith;
        pairs-left = omega arith;
        attributes_left = omega arith;
        so_far = ap₂ (λ (y z : List Compared). same_rdn y z) (sym (rdn_elements c)) (none-marked (attributes_back n x end));
      }

module _ (c x : List ℕ) (end n at used i : ℕ) (s : Matching c x end n at used i) where
  pub match_done : n ≤ i → true ≡ same_rdn (stored_rdn c) (attributes_back n x end)
  unfolding same_rdn
  match_done h =
      sym (ap₂ (λ (y : List Element) (z : List Compared). same_rdn (map pair_in y) z) (no_length (pairs_left c i at) pairs)
      (no_length (unused (attributes_back n x end) used) attributes)) ∙ s.so_far
    where
      pairs : length (pairs_left c i at) ≡ 0
      pairs = let e = s.pairs-left in omega arith

      attributes : length (unused (attributes_back n x end) used) ≡ 0
      attributes = let e = s.attributes_left in omega arith

  module _ (h : i < n) where
    pub match_low : used ≤ 24
    match_low = let a = s.low in let b = s.most in omega arith

    module _ (v : Option (ℕ × ℕ)) (read : v ≡ inside_at 48 c at (length c)) where
      pub match_misfit : v ≡ None → false ≡ same_rdn (stored_rdn c) (attributes_back n x end)
      match_misfit e = let z = none_left (4 - i) 48 c at (sym read ∙ e) in let q = s.pairs-left in absurd (omega arith)

      module _ (start len : ℕ) (e : v ≡ Some (start, len)) where
        next : pairs_left c i at ≡ element_at c at start len ∷ pairs_left c (i + 1) (start + len)
        next = next_element 4 48 c n i at start len h s.most s.pairs-left (sym read ∙ e)

        module _ (p : List ℕ) (q : p ≡ part c start len) (r : Option ℕ) (told : r ≡ marked (stored (pair_of p)) (attributes_back n x end) used) where
          taking : taken (unused (attributes_back n x end)) r ≡ without (stored (pair_of (part c start len))) (unused (attributes_back n x end) used)
          taking =
              ap (taken (unused (attributes_back n x end))) (told ∙ ap (λ (y : List ℕ). marked (stored (pair_of y)) (attributes_back n x end) used) q)
              ∙ sym (without-marked (stored (pair_of (part c start len))) (attributes_back n x end) used)

          others-of : others (λ l. same_rdn (map pair_in (pairs_left c (i + 1) (start + len))) l) (taken (unused (attributes_back n x end)) r)
              ≡ same_rdn (stored_rdn c) (attributes_back n x end)
          unfolding same_rdn
          others-of =
              ap (λ (o : Option (List Compared)). others (λ l. same_rdn (map pair_in (pairs_left c (i + 1) (start + len))) l) o) taking
              ∙ sym (ap (λ (l : List Element). same_rdn (map pair_in l) (unused (attributes_back n x end) used)) next) ∙ s.so_far

          pub match_none : r ≡ None → false ≡ same_rdn (stored_rdn c) (attributes_back n x end)
          match_none f = rw f at others-of

          pub match_more : (m : ℕ) → r ≡ Some m → Near used r → Matching c x end n (start + len) m (i + 1)
          match_more m f g =
              let a = s.low in
              let near : m ≤ used + 8 = subst (Near used) f g in
              let b : length (pairs_left c i at) ≡ suc (length (pairs_left c (i + 1) (start + len))) = ap length next in
              let d = s.pairs-left in
              let l = attributes_back n x end in
              let k : length (unused l used) ≡ suc (length (unused l m))
              = without-length (stored (pair_of (part c start len))) (unused l used) (unused l m) (sym (rw f at taking)) in
              let o = s.attributes_left in
              record {
                few = omega arith;
                most = s.most;
                low = omega arith;
                pairs-left = omega arith;
                attributes_left = omega arith;
                so_far = rw f at others-of;
              }
