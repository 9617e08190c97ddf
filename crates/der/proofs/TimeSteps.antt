-- Times: one lemma for each return and each turn of a loop.
use mathlib.Core.Path.{◌≡◌, refl, sym, ap, ◌∙◌}
use mathlib.Core.List.{List, [], ◌∷◌}
use Prim.Native.Nat.{ℕ, zero, suc, ◌≤◌, ◌<◌, ◌+◌, ◌-◌, ◌*◌, ◌^◌}
use native.Mathlib.Omega.{arith}
use native.Mathlib.Numerals.{add-one}
use native.Mathlib.Nat.{pow-le-pow_right, pow-suc, mul-le-mul_right}
use Rattle.std.proofs.lemmas.Nat.{pow-add}
use lib.ListN.{length, take, drop, length-take}
use Rattle.octets.specs.Octets.{octet, part}
use Rattle.octets.specs.Text.{decimal_from, decimal}
use Rattle.octets.proofs.Laws.{rest-cons, rest-none}
use Rattle.der.specs.Time.{digits_at, fraction_digits, scaled, billionths, time_of}

-- ---- digits: i of them stand for v
ten_pos : 0 < 10
ten_pos = omega arith

pow_more : (i : ℕ) → 10 ^ (i + 1) ≡ 10 ^ i * 10
pow_more i = rw add-one (pow-suc 10 i)

-- what i octets as digits stand for leaves room for one more
room : (v i : ℕ) → v + 23 ≤ 23 * 10 ^ i → i ≤ 13 → v ≤ 230000000000000
room v i h g = let p : 10 ^ i ≤ 10 ^ 13 = pow-le-pow_right ten_pos g in omega arith

grown : (v d i : ℕ) → v + 23 ≤ 23 * 10 ^ i → d ≤ 207 → v * 10 + d + 23 ≤ 23 * 10 ^ (i + 1)
grown v d i h g = rw (pow_more i) (omega arith)

pub record Digits (p : List ℕ) (i v : ℕ) : Type 0 where
  pub within : i ≤ length p
  pub small : v + 23 ≤ 23 * 10 ^ i
  pub so_far : decimal_from v (drop i p) ≡ decimal p

pub digits-start : (p : List ℕ) → Digits p 0 0
digits-start p = record { within = omega arith; small = omega arith; so_far = refl }

module _ (p : List ℕ) (i v : ℕ) (d : Digits p i v) where
  pub digits-end : length p ≤ i → v ≡ decimal p
  unfolding decimal_from
  digits-end h = rw (rest-none p i h) at d.so_far

  pub digits_small : length p ≤ i → v + 23 ≤ 23 * 10 ^ length p
  digits_small h = let e : i ≡ length p = omega (arith, d.within) in rw e at d.small

  module _ (few : length p ≤ 14) (h : i < length p) where
    pub digits-times : v * 10 < 18446744073709551616
    digits-times = omega (arith, room v i d.small (omega arith))

    module _ (w : ℕ) (low : w ≤ 207) where
      pub digits-plus : v * 10 + w < 18446744073709551616
      digits-plus = omega (arith, room v i d.small (omega arith))

      pub digits_more : w ≡ octet p i - 48 → Digits p (i + 1) (v * 10 + w)
      unfolding decimal_from
      digits_more q = record {
        within = omega arith;
        small = grown v w i d.small low;
        so_far = rw q (sym (ap (decimal_from v) (rest-cons p i h)) ∙ d.so_far);
      }

-- ---- billionths
-- zeros where a text has no more digits
scaled-zeros : (k n : ℕ) → scaled k n [] ≡ n * 10 ^ k
unfolding scaled
scaled-zeros zero n = omega arith
scaled-zeros (suc k) n = scaled-zeros k (n * 10) ∙ rw (pow-suc 10 k) (omega arith)

scaled-part : (k n : ℕ) (f : List ℕ) → scaled k n f ≡ decimal_from n (take k f) * 10 ^ (k - length (take k f))
unfolding scaled decimal_from
scaled-part zero n f = omega arith
scaled-part (suc k) n [] = let e : suc k - 0 ≡ suc k = omega arith in rw e (scaled-zeros (suc k) n)
scaled-part (suc k) n (b ∷ f) =
    let e : suc k - suc (length (take k f)) ≡ k - length (take k f) = omega arith in
    rw e (scaled-part k (n * 10 + (b - 48)) f)

-- v is what the code has of the digits p, as many as it keeps of f
module _ (f p : List ℕ) (v : ℕ) (kept : p ≡ part f 0 9) where
  few : length p ≤ 9
  few = rw kept (rw length-take (omega arith))

  pub power-fits : 10 ^ (9 - length p) < 18446744073709551616
  power-fits =
      let l : 9 - length p ≤ 9 = omega arith in
      let h : 10 ^ (9 - length p) ≤ 10 ^ 9 = pow-le-pow_right ten_pos l in
      omega arith

  pub scaled_fits : v + 23 ≤ 23 * 10 ^ length p → v * 10 ^ (9 - length p) < 18446744073709551616
  scaled_fits h =
      let l : v ≤ 23 * 10 ^ length p = omega arith in
      let m : v * 10 ^ (9 - length p) ≤ 23 * 10 ^ length p * 10 ^ (9 - length p) = mul-le-mul_right (10 ^ (9 - length p)) l in
      let e : length p + (9 - length p) ≡ 9 = omega (arith, few) in
      let q : 10 ^ length p * 10 ^ (9 - length p) ≡ 10 ^ 9 = sym (pow-add 10 (length p) (9 - length p)) ∙ ap (λ (x : ℕ). 10 ^ x) e in
      omega arith

  pub billionths-is : v ≡ decimal p → v * 10 ^ (9 - length p) ≡ billionths f
  unfolding billionths
  billionths-is e = rw (e, kept) (sym (scaled-part 9 0 f))

-- ---- whole times
pub says : (c p : List ℕ) (stamp fraction : ℕ) → stamp ≡ digits_at c 0 14 → p ≡ fraction_digits c → fraction ≡ billionths p → record { stamp = stamp; fraction = fraction } ≡ time_of c
unfolding time_of
says c p stamp fraction a b e = rw (a, e, b)
