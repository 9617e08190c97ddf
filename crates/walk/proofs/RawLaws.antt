-- A header that fits is the one that is read without doubt.
use Rattle.std.specs.Prelude.{Option, Some, None}
use Rattle.std.proofs.lemmas.Option.{some_pair_parts}
use Rattle.der.proofs.Laws.{some_triple_parts}
use mathlib.Core.Path.{◌≡◌, refl, sym, ap, ap₂, ◌∙◌}
use mathlib.Core.Bool.{Bool, true, false}
use mathlib.Core.List.{List}
use Prim.Native.Nat.{ℕ, ◌≤◌, ◌<◌, ◌+◌, ◌-◌, ◌*◌}
use native.Mathlib.Omega.{arith}
use borrow.Author.Tests.{lt-ltb, le-ltb, eq-eqb, ne_eqb}
use lib.Dec.{ltb, leb, eqb}
use lib.ListN.{length}
use Rattle.octets.specs.Pick.{pick}
use Rattle.octets.specs.Octets.{octet, two}
use Rattle.octets.proofs.Laws.{pick_cases}
use Rattle.der.specs.Tag.{number}
use Rattle.der.specs.Header.{long_length, length_at, sized, header_at}
use Rattle.walk.specs.Inner.Raw.{start_of, next_after}

-- where a header's contents start, and the place after it
abbrev Same : List ℕ → ℕ → ℕ → ℕ → Type 0
Same v at start n = (start_of v at ≡ start) × (next_after v at ≡ start + n)

by-long : (end n start f least next : ℕ) → long_length f least next end ≡ Some (n, start) → (f ≡ n) × (next ≡ start)
unfolding long_length
by-long end n start f least next =
    pick_cases P (ltb end next) _ _ (λ t. refused) (λ t. pick_cases P (ltb f least) _ _ (λ t. refused) (λ t e. some_pair_parts f n next start e))
  where
    P : Option (ℕ × ℕ) → Type 0
    P x = x ≡ Some (n, start) → (f ≡ n) × (next ≡ start)

    refused : P None
    refused e = absurd (let z : ◌≡◌ {A = ℕ} 0 1 = cc in omega arith)

raw_length : (v : List ℕ) (at end n start : ℕ) → length_at v (at + 1) end ≡ Some (n, start) → Same v at start n
unfolding length_at start_of next_after
raw_length v at end n start = go (leb end (at + 1)) (ltb (octet v (at + 1)) 128) (eqb (octet v (at + 1)) 129) (eqb (octet v (at + 1)) 130)
  where
    go : (a b c d : Bool) → pick a None (pick b (Some (octet v (at + 1), at + 1 + 1)) (pick c (long_length (octet v (at + 1 + 1)) 128 (at + 1 + 2) end) (pick d (long_length (two v (at + 1 + 1)) 256 (at + 1 + 3) end) None))) ≡ Some (n, start)
        → (pick b (at + 2) (pick c (at + 3) (at + 4)) ≡ start) × (pick b (at + 2 + octet v (at + 1)) (pick c (at + 3 + octet v (at + 2)) (at + 4 + two v (at + 2))) ≡ start + n)
    go true b c d e = absurd (let z : ◌≡◌ {A = ℕ} 0 1 = cc in omega arith)
    go false true c d e = let w = some_pair_parts (octet v (at + 1)) n (at + 1 + 1) start e in let p : octet v (at + 1) ≡ n = w.0 in let q : at + 1 + 1 ≡ start = w.1 in (omega arith, omega arith)
    go false false true d e = let w = by-long end n start (octet v (at + 1 + 1)) 128 (at + 1 + 2) e in let p = w.0 in let q = w.1 in let r : at + 1 + 1 ≡ at + 2 = omega arith in let s : octet v (at + 2) ≡ n = ap (octet v) (sym r) ∙ p in (omega arith, omega arith)
    go false false false true e = let w = by-long end n start (two v (at + 1 + 1)) 256 (at + 1 + 3) e in let p = w.0 in let q = w.1 in let r : at + 1 + 1 ≡ at + 2 = omega arith in let s : two v (at + 2) ≡ n = ap (two v) (sym r) ∙ p in (omega arith, omega arith)
    go false false false false e = absurd (let z : ◌≡◌ {A = ℕ} 0 1 = cc in omega arith)

pub raw_header : (v : List ℕ) (at end o start n : ℕ) → header_at v at end ≡ Some (o, start, n) → (start_of v at ≡ start) × (next_after v at ≡ start + n)
unfolding header_at
raw_header v at end o start n = pick_cases P (leb end at) _ _ (λ t. misfit) (λ t. pick_cases P (eqb (number (octet v at)) 31) _ _ (λ t. misfit) (λ t. go (length_at v (at + 1) end) refl))
  where
    P : Option (ℕ × ℕ × ℕ) → Type 0
    P x = x ≡ Some (o, start, n) → (start_of v at ≡ start) × (next_after v at ≡ start + n)

    misfit : P None
    misfit e = absurd (let z : ◌≡◌ {A = ℕ} 0 1 = cc in omega arith)

    go : (l : Option (ℕ × ℕ)) → length_at v (at + 1) end ≡ l → P (sized (octet v at) end l)
    go None q = misfit
    go (Some (m, next)) q = pick_cases P (ltb (end - next) m) _ _ (λ u. misfit) (λ u e.
        let p = some_triple_parts (octet v at) o next start m n e in
        raw_length v at end n start (q ∙ ap₂ (λ (i k : ℕ). Some (i, k)) p.2 p.1))

-- ---- what is read lies before the place after the value
module _ (v : List ℕ) (at : ℕ) where
  pub start-long : at + 2 ≤ start_of v at
  unfolding start_of
  start-long = go (ltb (octet v (at + 1)) 128) (eqb (octet v (at + 1)) 129)
    where
      go : (b c : Bool) → at + 2 ≤ pick b (at + 2) (pick c (at + 3) (at + 4))
      go true c = omega arith
      go false true = omega arith
      go false false = omega arith

  pub start-before : start_of v at ≤ next_after v at
  unfolding start_of next_after
  start-before = go (ltb (octet v (at + 1)) 128) (eqb (octet v (at + 1)) 129)
    where
      go : (b c : Bool) → pick b (at + 2) (pick c (at + 3) (at + 4)) ≤ pick b (at + 2 + octet v (at + 1)) (pick c (at + 3 + octet v (at + 2)) (at + 4 + two v (at + 2)))
      go true c = omega arith
      go false true = omega arith
      go false false = omega arith

-- ---- what the code reads, and what it makes of it
module _ (v : List ℕ) (at : ℕ) (h : next_after v at ≤ length v) where
  pub first_in : at + 1 < length v
  first_in = let a = start-long v at in let b = start-before v at in omega arith

  pub first_fits : length v < 18446744073709551616 → at + 1 < 18446744073709551616
  first_fits l = let a = first_in in omega arith

  module _ (n : ℕ) (read : n ≡ octet v (at + 1)) where
    module _ (low : n < 128) where
      pub short-start : at + 2 ≡ start_of v at
      unfolding start_of
      short-start = rw (← read, lt-ltb n 128 low)

      pub short_next : at + 2 + n ≡ next_after v at
      unfolding next_after
      short_next = rw (← read, lt-ltb n 128 low)

    module _ (low : 128 ≤ n) where
      module _ (one : n ≡ 129) where
        pub one-start : at + 3 ≡ start_of v at
        unfolding start_of
        one-start = rw (← read, le-ltb n 128 low, eq-eqb n 129 one)

        pub one_next : (b : ℕ) → b ≡ octet v (at + 2) → at + 3 + b ≡ next_after v at
        unfolding next_after
        one_next b e = rw (← read, le-ltb n 128 low, eq-eqb n 129 one, ← e)

        pub one_in : at + 2 < length v
        one_in = let a = one_next _ refl in omega arith

      module _ (two-octets : n ≡ 129 → ⊥) where
        pub two-start : at + 4 ≡ start_of v at
        unfolding start_of
        two-start = rw (← read, le-ltb n 128 low, ne_eqb n 129 two-octets)

        pub two_next : at + 4 + two v (at + 2) ≡ next_after v at
        unfolding next_after
        two_next = rw (← read, le-ltb n 128 low, ne_eqb n 129 two-octets)

        pub two_in : at + 3 < length v
        two_in = let a = two_next in omega arith

-- ---- sums that fit
module _ (v : List ℕ) (at : ℕ) (h : next_after v at ≤ length v) (l : length v < 18446744073709551616) where
  pub second_fits : at + 2 < 18446744073709551616
  second_fits = let a = start-long v at in let b = start-before v at in omega arith

  module _ (n : ℕ) (read : n ≡ octet v (at + 1)) where
    pub short-fits : n < 128 → at + 2 + n < 18446744073709551616
    short-fits low = let a = short_next v at h n read low in omega arith

    module _ (low : 128 ≤ n) where
      pub one-fits : n ≡ 129 → at + 3 < 18446744073709551616
      one-fits one = let a = one-start v at h n read low one in let b = start-before v at in omega arith

      pub one_sum_fits : n ≡ 129 → (b : ℕ) → b ≡ octet v (at + 2) → at + 3 + b < 18446744073709551616
      one_sum_fits one b e = let a = one_next v at h n read low one b e in omega arith

      module _ (other : n ≡ 129 → ⊥) where
        pub two_fits : at + 4 < 18446744073709551616
        two_fits = let a = two-start v at h n read low other in let b = start-before v at in omega arith

        pub third-fits : at + 3 < 18446744073709551616
        third-fits = let a = two_fits in omega arith

        pub third_in : at + 2 < length v
        third_in = let a = two_in v at h n read low other in omega arith

        module _ (r : ℕ) (e : r ≡ octet v (at + 2) * 256 + octet v (at + 3)) where
          pub two_next_is : at + 4 + r ≡ next_after v at
          two_next_is = let q : at + 2 + 1 ≡ at + 3 = omega arith in let a : r ≡ two v (at + 2) = e ∙ ap (λ (y : ℕ). octet v (at + 2) * 256 + octet v y) (sym q) in ap (λ (y : ℕ). at + 4 + y) a ∙ two_next v at h n read low other

          pub two_sum_fits : at + 4 + r < 18446744073709551616
          two_sum_fits = let a = two_next_is in omega arith
