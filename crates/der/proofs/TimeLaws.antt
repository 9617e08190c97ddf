-- A legal time has no quote in it: digits, a point, a `Z`.
use mathlib.Core.Path.{◌≡◌, refl, sym, ap, ◌∙◌}
use mathlib.Core.Bool.{Bool, true, false, false≢true}
use mathlib.Core.List.{List}
use Prim.Native.Nat.{ℕ, ◌≤◌, ◌<◌, ◌+◌, ◌-◌}
use native.Mathlib.Omega.{arith}
use borrow.Author.Tests.{ltb-true, ltb-false, leb-true, eqb-true, eqb-false, ne_eqb}
use lib.Dec.{ltb, leb, eqb}
use lib.ListN.{length, take, drop, length-drop}
use lib.Seq.{length-take-le, get_or-take, get_or-drop}
use Rattle.octets.specs.Pick.{both, either}
use Rattle.octets.specs.Octets.{octet, part, every}
use Rattle.octets.specs.Text.{within, is_digit}
use Rattle.octets.proofs.Laws.{both_true}
use Rattle.octets.proofs.TextLaws.{every-is, every-at, digit_within}
use Rattle.octets.proofs.QuotedLaws.{no_quote}
use Rattle.der.specs.Time.{fraction_digits, fraction_formed, tail_formed, legal_time}

plain : (b : ℕ) → (b ≡ 34 → ⊥) → no_quote b ≡ true
plain b n = rw (ne_eqb b 34 n)

digit_plain : (b : ℕ) → is_digit b ≡ true → no_quote b ≡ true
digit_plain b e = let w = digit_within b e in plain b (λ q. omega arith)

is_plain : (b n : ℕ) → b ≡ n → (n ≡ 34 → ⊥) → no_quote b ≡ true
is_plain b n e h = plain b (λ q. h (sym e ∙ q))

fraction_digits_lem : (f : List ℕ) → fraction_formed f ≡ true → every is_digit f ≡ true
unfolding fraction_formed
fraction_digits_lem f e = (both_true (every is_digit f) _ (both_true (within 1 9 (length f)) _ e).1).0

module _ (c : List ℕ) (ok : legal_time c ≡ true) where
  long : 15 ≤ length c
  unfolding legal_time
  long = leb-true _ _ (both_true (leb 15 (length c)) _ ok).0

  digits : every is_digit (take 14 c) ≡ true
  unfolding legal_time
  digits = (both_true (every is_digit (take 14 c)) _ (both_true (leb 15 (length c)) _ ok).1).0

  tail : tail_formed c ≡ true
  unfolding legal_time
  tail = (both_true (tail_formed c) _ (both_true (every is_digit (take 14 c)) _ (both_true (leb 15 (length c)) _ ok).1).1).0

  last : octet c (length c - 1) ≡ 90
  unfolding tail_formed
  last = eqb-true _ _ (both_true (eqb (octet c (length c - 1)) 90) _ tail).0

  rest : either (eqb (length c) 15) (both (eqb (octet c 14) 46) (fraction_formed (fraction_digits c))) ≡ true
  unfolding tail_formed
  rest = (both_true (eqb (octet c (length c - 1)) 90) _ tail).1

  fraction : (length c ≡ 15 → ⊥) → (octet c 14 ≡ 46) × (every is_digit (part c 15 (length c - 16)) ≡ true)
  unfolding fraction_digits
  fraction n = go (eqb (length c) 15) (ne_eqb _ _ n) rest
    where
      go : (t : Bool) → t ≡ false → either t (both (eqb (octet c 14) 46) (fraction_formed (fraction_digits c))) ≡ true
          → (octet c 14 ≡ 46) × (every is_digit (part c 15 (length c - 16)) ≡ true)
      go true f e = absurd (false≢true (sym f))
      go false f e = let w = both_true (eqb (octet c 14) 46) (fraction_formed (fraction_digits c)) e in (eqb-true _ _ w.0, fraction_digits_lem _ w.1)

  early : (i : ℕ) → i < 14 → no_quote (octet c i) ≡ true
  early i h =
      let l : 14 ≤ length c = omega (arith, long) in
      let g : i < length (take 14 c) = omega (arith, length-take-le 14 c l) in
      digit_plain (octet c i) (rw (get_or-take 14 c i 0 h) at (every-at is_digit (take 14 c) i digits g))

  late : (i : ℕ) → 15 ≤ i → i < length c - 1 → no_quote (octet c i) ≡ true
  late i h l =
      let n : length c ≡ 15 → ⊥ = λ q. omega arith in
      let k : i - 15 < length c - 16 = omega arith in
      let z : length c - 16 ≤ length (drop 15 c) = omega (arith, length-drop 15 c) in
      let g : i - 15 < length (part c 15 (length c - 16)) = omega (arith, length-take-le (length c - 16) (drop 15 c) z) in
      let w : 15 + (i - 15) ≡ i = omega arith in
      let e : octet (part c 15 (length c - 16)) (i - 15) ≡ octet c i = get_or-take (length c - 16) (drop 15 c) (i - 15) 0 k ∙ get_or-drop 15 c (i - 15) 0 ∙ ap (octet c) w in
      digit_plain (octet c i) (rw e at (every-at is_digit (part c 15 (length c - 16)) (i - 15) (fraction n).1 g))

  at : (i : ℕ) → i < length c → no_quote (octet c i) ≡ true
  at i h = go (ltb i 14) (eqb i (length c - 1)) (eqb i 14) refl refl refl
    where
      go : (x y z : Bool) → ltb i 14 ≡ x → eqb i (length c - 1) ≡ y → eqb i 14 ≡ z → no_quote (octet c i) ≡ true
      go true y z p q r = early i (ltb-true _ _ p)
      go false true z p q r = is_plain (octet c i) 90 (ap (octet c) (eqb-true _ _ q) ∙ last) (λ e. omega arith)
      go false false true p q r =
          let e : i ≡ 14 = eqb-true _ _ r in
          let m : i ≡ length c - 1 → ⊥ = eqb-false _ _ q in
          let n : length c ≡ 15 → ⊥ = λ u. m (omega arith) in
          is_plain (octet c i) 46 (ap (octet c) e ∙ (fraction n).0) (λ f. omega arith)
      go false false false p q r =
          let a : i ≡ 14 → ⊥ = eqb-false _ _ r in
          let m : i ≡ length c - 1 → ⊥ = eqb-false _ _ q in
          let b : 14 ≤ i = ltb-false _ _ p in
          late i (omega arith) (omega arith)

  pub time-plain : every no_quote c ≡ true
  time-plain = every-is no_quote c at
