-- Braces, spaces and commas: one lemma for each return and turn; its premises are the facts as the code has them.
use mathlib.Core.Path.{◌≡◌, refl, sym, ap, ap₂, ◌∙◌}
use mathlib.Core.Bool.{Bool, true, false}
use mathlib.Core.List.{List, [], ◌∷◌}
use Prim.Native.Nat.{ℕ, zero, suc, ◌≤◌, ◌<◌, ◌+◌, ◌-◌}
use native.Mathlib.Omega.{arith}
use borrow.Author.Tests.{eq-eqb, ne_eqb, lt-ltb, le-ltb, ltb-true, ltb-false}
use lib.Dec.{ltb, eqb, leb-suc-suc}
use lib.ListN.{length, take, drop}
use lib.Seq.{length-take-le, drop-drop}
use Rattle.octets.specs.Pick.{pick, both}
use Rattle.octets.specs.Octets.{octet, part}
use Rattle.octets.proofs.Laws.{never, rest-cons, rest-none, rest-length}
use Rattle.gser.specs.Listed.{after_spaces, before_spaces, on_first, parted}
use Rattle.gser.specs.Inner.Parts.{parted_behind}

-- ---- without the spaces after a text
abbrev before : ℕ → List ℕ → List ℕ
before b t = pick (both (eqb b 32) (eqb (length t) 0)) [] (b ∷ t)

last-space : (s : List ℕ) (k : ℕ) → k < length s → octet s k ≡ 32 → before_spaces (take (suc k) s) ≡ before_spaces (take k s)
unfolding before_spaces
last-space [] k h e = absurd (omega arith)
last-space (b ∷ s) zero h e = rw (eq-eqb b 32 e)
last-space (b ∷ s) (suc k) h e = ap (before b) (last-space s k (omega arith) e)

last-other : (s : List ℕ) (k : ℕ) → k < length s → (octet s k ≡ 32 → ⊥) → before_spaces (take (suc k) s) ≡ take (suc k) s
unfolding before_spaces
last-other [] k h n = absurd (omega arith)
last-other (b ∷ s) zero h n = rw (ne_eqb b 32 n)
last-other (b ∷ s) (suc k) h n = ap (before b) (last-other s k (omega arith) n) ∙ ap (λ (u : Bool). pick u [] (b ∷ take (suc k) s)) (full ∙ never (eqb b 32))
  where
    full : both (eqb b 32) (eqb (length (take (suc k) s)) 0) ≡ both (eqb b 32) false
    full = ap (both (eqb b 32)) (ne_eqb (length (take (suc k) s)) 0 (λ e. omega (arith, length-take-le (suc k) s (omega arith))))

-- the first n octets, and nothing but spaces after them
pub record Ending (s : List ℕ) (n : ℕ) : Type 0 where
  pub within : n ≤ length s
  pub so_far : before_spaces (take n s) ≡ before_spaces s

module _ (s : List ℕ) (n : ℕ) (inv : Ending s n) where
  pub ending-none : (r : List ℕ) → n ≤ 0 → r ≡ take 0 s → r ≡ before_spaces s
  unfolding before_spaces
  ending-none r h e = let z : 0 ≡ n = omega arith in e ∙ ap (λ (k : ℕ). before_spaces (take k s)) z ∙ inv.so_far

  module _ (h : 0 < n) where
    back : suc (n - 1) ≡ n
    back = omega arith

    one : n - 1 + 1 ≡ n
    one = omega arith

    pub ending-found : (r : List ℕ) → (octet s (n - 1) ≡ 32 → ⊥) → r ≡ take (n - 1 + 1) s → r ≡ before_spaces s
    ending-found r d e =
        let whole : before_spaces (take n s) ≡ take n s = rw back at (last-other s (n - 1) (omega arith) d) in
        e ∙ ap (λ (k : ℕ). take k s) one ∙ sym whole ∙ inv.so_far

    pub ending-on : octet s (n - 1) ≡ 32 → Ending s (n - 1)
    ending-on d =
        let less : before_spaces (take n s) ≡ before_spaces (take (n - 1) s) = rw back at (last-space s (n - 1) (omega arith) d) in
        record { within = omega arith; so_far = sym less ∙ inv.so_far }

-- ---- the text before a comma
-- the number of octets before the first comma
pub to_comma : List ℕ → ℕ
to_comma [] = 0
to_comma (b ∷ s) = let r = suc (to_comma s) in pick (eqb b 44) 0 r

-- two places counted from a third
shifted : (k i n : ℕ) → k ≤ i → k ≤ n → ltb (i - k) (n - k) ≡ ltb i n
shifted k i n f g = go (ltb i n) refl
  where
    go : (u : Bool) → ltb i n ≡ u → ltb (i - k) (n - k) ≡ u
    go true e = let l : i < n = ltb-true i n e in lt-ltb (i - k) (n - k) (omega arith)
    go false e = let l : n ≤ i = ltb-false i n e in le-ltb (i - k) (n - k) (omega arith)

-- the text before the first comma, and those behind it
parted-is : (s : List ℕ) → parted s ≡ take (to_comma s) s ∷ pick (ltb (to_comma s) (length s)) (parted (drop (suc (to_comma s)) s)) []
unfolding parted to_comma
parted-is [] = refl
parted-is (b ∷ s) = go (eqb b 44) (parted-is s)
  where
    go : (u : Bool) → parted s ≡ take (to_comma s) s ∷ pick (ltb (to_comma s) (length s)) (parted (drop (suc (to_comma s)) s)) []
        → pick u ([] ∷ parted s) (on_first b (parted s))
        ≡ take (pick u 0 (suc (to_comma s))) (b ∷ s)
        ∷ pick (ltb (pick u 0 (suc (to_comma s))) (suc (length s))) (parted (drop (suc (pick u 0 (suc (to_comma s)))) (b ∷ s))) []
    go true f = rw (lt-ltb 0 (suc (length s)) (omega arith))
    go false f = rw (leb-suc-suc (suc (to_comma s)) (length s)) (ap (on_first b) f)

-- no comma from `at` up to i
pub record Parting (s : List ℕ) (at i : ℕ) : Type 0 where
  pub after : at ≤ i
  pub within : i ≤ length s
  pub so_far : i + to_comma (drop i s) ≡ at + to_comma (drop at s)

module _ (s : List ℕ) (at i : ℕ) (inv : Parting s at i) where
  found : to_comma (drop i s) ≡ 0 → parted (drop at s) ≡ part s at (i - at) ∷ parted_behind s i
  unfolding parted_behind
  found e =
      let n : to_comma (drop at s) ≡ i - at = omega arith in
      let next : at + suc (i - at) ≡ i + 1 = omega arith in
      let whole = rw n at (parted-is (drop at s)) in
      let test : ltb (i - at) (length s - at) ≡ ltb i (length s) = shifted at i (length s) (omega arith) (omega arith) in
      let more : ltb (i - at) (length (drop at s)) ≡ ltb i (length s) = ap (ltb (i - at)) (rest-length s at) ∙ test in
      let rest : drop (suc (i - at)) (drop at s) ≡ drop (i + 1) s = drop-drop (suc (i - at)) at s ∙ ap (λ (k : ℕ). drop k s) next in
      whole ∙ ap₂ (λ (u : Bool) (l : List ℕ). part s at (i - at) ∷ pick u (parted l) []) more rest

  pub parting_ends : length s ≤ i → parted (drop at s) ≡ part s at (length s - at) ∷ parted_behind s (length s)
  unfolding to_comma
  parting_ends h =
      let z : i ≡ length s = omega arith in
      found (ap to_comma (rest-none s i h)) ∙ ap (λ (k : ℕ). part s at (k - at) ∷ parted_behind s k) z

  module _ (h : i < length s) where
    pub parting_found : octet s i ≡ 44 → parted (drop at s) ≡ part s at (i - at) ∷ parted_behind s i
    unfolding to_comma
    parting_found e = found (ap to_comma (rest-cons s i h) ∙ rw (eq-eqb (octet s i) 44 e))

    pub parting_on : (octet s i ≡ 44 → ⊥) → Parting s at (i + 1)
    unfolding to_comma
    parting_on d =
        let one : to_comma (drop i s) ≡ suc (to_comma (drop (i + 1) s)) = ap to_comma (rest-cons s i h) ∙ rw (ne_eqb (octet s i) 44 d) in
        record { after = omega arith; within = omega arith; so_far = omega arith }

-- ---- the spaces before a text: nothing else from `at` up to i
pub record Skipping (s : List ℕ) (at end i : ℕ) : Type 0 where
  pub after : at ≤ i
  pub before-end : i ≤ end
  pub so_far : after_spaces (part s i (end - i)) ≡ after_spaces (part s at (end - at))

module _ (s : List ℕ) (at end i : ℕ) (inv : Skipping s at end i) where
  pub skipping_ends : end ≤ i → part s end (end - end) ≡ after_spaces (part s at (end - at))
  unfolding after_spaces
  skipping_ends h =
      let z : end - i ≡ 0 = omega arith in
      let y : end - end ≡ 0 = omega arith in
      let none : part s i (end - i) ≡ [] = ap (part s i) z in
      ap (part s end) y ∙ sym (ap after_spaces none) ∙ inv.so_far

  module _ (fits : end ≤ length s) (h : i < end) where
    front : part s i (end - i) ≡ octet s i ∷ part s (i + 1) (end - (i + 1))
    front =
        let l : i < length s = omega arith in
        let n : end - i ≡ suc (end - (i + 1)) = omega arith in
        ap₂ take n (rest-cons s i l)

    pub skipping_found : (octet s i ≡ 32 → ⊥) → part s i (end - i) ≡ after_spaces (part s at (end - at))
    unfolding after_spaces
    skipping_found d = front ∙ sym (ap after_spaces front ∙ rw (ne_eqb (octet s i) 32 d)) ∙ inv.so_far

    pub skipping_on : octet s i ≡ 32 → Skipping s at end (i + 1)
    unfolding after_spaces
    skipping_on e = record {
      after = omega arith;
      before-end = omega arith;
      so_far = sym (ap after_spaces front ∙ rw (eq-eqb (octet s i) 32 e)) ∙ inv.so_far;
    }
