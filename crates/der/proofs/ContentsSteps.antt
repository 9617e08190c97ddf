-- Contents of the basic kinds: one lemma for each return and each turn of a loop.
use mathlib.Core.Path.{◌≡◌, refl, sym, ap, ◌∙◌}
use mathlib.Core.Bool.{Bool, true, false, not}
use mathlib.Core.List.{List, [], ◌∷◌}
use Prim.Native.Nat.{ℕ, ◌≤◌, ◌<◌, ◌+◌, ◌-◌, ◌*◌, ◌/◌, ◌%◌, ◌^◌}
use native.Mathlib.Omega.{arith}
use native.Mathlib.Nat.{one-mul}
use borrow.Author.Tests.{ne_eqb, lt-ltb, le-ltb, lt-leb, le-leb, ltb-true, ltb-false, leb-true, leb-false, not-false}
use lib.Dec.{ltb, leb, eqb}
use lib.ListN.{length, drop}
use lib.Bits.{bit_and, and_mask}
use lib.Pow.{shl_exact, pow_pos}
use Rattle.octets.specs.Pick.{pick, both, no, all}
use Rattle.octets.specs.Octets.{octet, same, every, larger}
use Rattle.octets.specs.Inner.Answers.{highest_from, highest}
use Rattle.octets.specs.Text.{is_digit, is_lower, is_upper, is_letter, is_alnum}
use Rattle.octets.specs.Computing.{octets_compute}
use Rattle.octets.proofs.Laws.{all-at, both_true, every_holds}
use Rattle.octets.proofs.TextLaws.{larger-least, larger-most}
use Rattle.der.specs.Contents.{legal_boolean, legal_bits, legal_named_bits, is_sign, is_mark, is_printable, is_ia5}
use Rattle.der.specs.Contents.{legal_ia5}
use Rattle.der.specs.Inner.Answers.{four_printable}

-- ---- BOOLEAN
other_length : (c : List ℕ) (b : ℕ) → (length c ≡ 1 → ⊥) → same c (b ∷ []) ≡ false
unfolding same
other_length [] b h = refl
other_length (a ∷ []) b h = absurd (h refl)
other_length (a ∷ d ∷ c) b h = go (eqb a b)
  where
    go : (t : Bool) → pick t false false ≡ false
    go true = refl
    go false = refl

pub boolean_many : (c : List ℕ) → 2 ≤ length c → legal_boolean c ≡ false
unfolding legal_boolean
boolean_many c h = rw (other_length c 0 (λ e. omega arith), other_length c 255 (λ e. omega arith))

-- ---- BIT STRING
-- 1 << u
shifted : (u : ℕ) → u ≤ 7 → 1 * 2 ^ u % 2 ^ 8 ≡ 2 ^ u
shifted u h =
    let one : 1 < 2 ^ 1 = omega arith in
    let fits : 1 + u ≤ 8 = omega arith in
    shl_exact 1 u 8 one fits ∙ one-mul (2 ^ u)

pub clear_is : (u last : ℕ) → u ≤ 7 → eqb (last % (1 * 2 ^ u % 2 ^ 8)) 0 ≡ eqb (last % 2 ^ u) 0
clear_is u last h = ap (λ (x : ℕ). eqb (last % x) 0) (shifted u h)

pub clear_divisor : (u : ℕ) → u ≤ 7 → 0 < 1 * 2 ^ u % 2 ^ 8
clear_divisor u h = rw (shifted u h) (pow_pos u)

-- without a trailing zero bit
module _ (c : List ℕ) (r : Bool) (told : r ≡ legal_bits c) (e : r ≡ true) where
  pub named-long : 1 ≤ length c
  unfolding legal_bits
  named-long = leb-true 1 (length c) (both_true (leb 1 (length c)) _ (sym told ∙ e)).0

  pub named_first_in : 0 < length c
  named_first_in = named-long

  pub named_last_in : length c - 1 < length c
  named_last_in = let l = named-long in omega arith

  pub named-unused : octet c 0 < 8
  unfolding legal_bits
  named-unused = omega (arith, leb-true (octet c 0) 7 (both_true (leb (octet c 0) 7) _ (both_true (leb 1 (length c)) _ (sym told ∙ e)).1).0)

  pub named-last : (length c ≡ 1 → ⊥) → eqb (bit_and (octet c (length c - 1) / 2 ^ octet c 0) 1) 1 ≡ legal_named_bits c
  unfolding legal_named_bits
  named-last n = rw (sym told ∙ e, ne_eqb (length c) 1 n) (ap (λ (x : ℕ). eqb x 1) (and_mask (octet c (length c - 1) / 2 ^ octet c 0) 1))

-- ---- PrintableString
abbrev agree : Bool → Bool → Bool
agree a b = pick a b (no b)

agreed : (a b : Bool) → agree a b ≡ true → a ≡ b
agreed true true e = refl
agreed true false e = sym e
agreed false true e = e
agreed false false e = refl

-- the test of each character by its bit, below 64 and from 64 on
abbrev low_bit : ℕ → Bool
low_bit b = agree (eqb (12105670854864535552 / 2 ^ b % 2) 1) (is_printable b)

abbrev high_bit : ℕ → Bool
high_bit a = agree (eqb (576460743847706622 / 2 ^ a % 2) 1) (is_printable (64 + a))

low_bits : all low_bit 64 ≡ true
unfolding octets_compute all is_printable is_mark is_sign
low_bits = refl

high_bits : all high_bit 64 ≡ true
unfolding octets_compute all is_printable is_mark is_sign
high_bits = refl

pub printable_low : (b : ℕ) → b < 64 → eqb (bit_and (12105670854864535552 / 2 ^ b) 1) 1 ≡ is_printable b
printable_low b h = ap (λ (x : ℕ). eqb x 1) (and_mask (12105670854864535552 / 2 ^ b) 1) ∙ agreed _ _ (all-at low_bit 64 b low_bits h)

pub printable_high : (b a : ℕ) → 64 ≤ b → b < 128 → a ≡ b % 64 → eqb (bit_and (576460743847706622 / 2 ^ a) 1) 1 ≡ is_printable b
printable_high b a l h e =
    let q : 64 + a ≡ b = omega arith in
    ap (λ (x : ℕ). eqb x 1) (and_mask (576460743847706622 / 2 ^ a) 1) ∙ agreed _ _ (all-at high_bit 64 a high_bits (omega arith)) ∙ ap is_printable q

pub printable_none : (b : ℕ) → 128 ≤ b → false ≡ is_printable b
unfolding is_printable is_alnum is_letter is_lower is_upper is_digit is_mark is_sign
printable_none b h =
    rw (
      lt-leb b 122 (omega arith),
      lt-leb b 90 (omega arith),
      lt-leb b 57 (omega arith),
      lt-leb b 41 (omega arith),
      lt-leb b 47 (omega arith),
      le-leb 97 b (omega arith),
      le-leb 65 b (omega arith),
      le-leb 48 b (omega arith),
      le-leb 39 b (omega arith),
      le-leb 43 b (omega arith),
      ne_eqb b 32 (λ z. omega arith),
      ne_eqb b 58 (λ z. omega arith),
      ne_eqb b 61 (λ z. omega arith),
      ne_eqb b 63 (λ z. omega arith),
    )

-- the characters before place i are ones of a PrintableString
pub record Skipped (c : List ℕ) (i : ℕ) : Type 0 where
  pub within : i ≤ length c
  pub same : every is_printable (drop i c) ≡ every is_printable c

pub skip-none : (c : List ℕ) → Skipped c 0
skip-none c = record { within = omega arith; same = refl }

module _ (c : List ℕ) where
  pair : (j : ℕ) → every is_printable (drop j c) ≡ every is_printable c → j + 2 ≤ length c → both (is_printable (octet c j)) (is_printable (octet c (j + 1))) ≡ true
      → every is_printable (drop (j + 2) c) ≡ every is_printable c
  pair j inv h e =
      let a = both_true (is_printable (octet c j)) (is_printable (octet c (j + 1))) e in
      let q : j + 1 + 1 ≡ j + 2 = omega arith in
      ap (λ (x : ℕ). every is_printable (drop x c)) (sym q)
      ∙ every_holds is_printable c (j + 1) (every_holds is_printable c j inv (omega arith) a.0) (omega arith) a.1

  module _ (i : ℕ) (so_far : Skipped c i) where
    pub skip-more : 4 ≤ length c - i → (u : Bool) → u ≡ four_printable c i → not u ≡ false → Skipped c (i + 4)
    skip-more h u e n =
        let l = so_far.within in
        let w = both_true (both (is_printable (octet c i)) (is_printable (octet c (i + 1)))) (both (is_printable (octet c (i + 2))) (is_printable (octet c (i + 3)))) (sym e ∙ not-false u n) in
        let q : i + 2 + 1 ≡ i + 3 = omega arith in
        let p : i + 2 + 2 ≡ i + 4 = omega arith in
        let f = ap (λ (y : ℕ). both (is_printable (octet c (i + 2))) (is_printable (octet c y))) q ∙ w.1 in
        record { within = omega arith; same = ap (λ (y : ℕ). every is_printable (drop y c)) (sym p) ∙ pair (i + 2) (pair i so_far.same (omega arith) w.0) (omega arith) f }

-- ---- IA5String: by the largest octet
ia5_from : (n : ℕ) (c : List ℕ) → ltb (highest_from n c) 128 ≡ both (ltb n 128) (every is_ia5 c)
unfolding highest_from every
ia5_from n [] = go (ltb n 128)
  where
    go : (x : Bool) → x ≡ both x true
    go true = refl
    go false = refl
ia5_from n (b ∷ c) = ia5_from (larger n b) c ∙ ap (λ (x : Bool). both x (every is_ia5 c)) both-low ∙ go (ltb n 128) (leb b 127) (every is_ia5 c)
  where
    both-low : ltb (larger n b) 128 ≡ both (ltb n 128) (leb b 127)
    both-low = low (ltb n 128) refl (leb b 127) refl
      where
        low : (x : Bool) → ltb n 128 ≡ x → (y : Bool) → leb b 127 ≡ y → ltb (larger n b) 128 ≡ both x y
        low true p true q =
            let e = ltb-true n 128 p in
            let f = leb-true b 127 q in
            let m = larger-most n b 127 (omega arith) f in
            lt-ltb (larger n b) 128 (omega arith)
        low true p false q = let f = leb-false b 127 q in let m = (larger-least n b).1 in le-ltb (larger n b) 128 (omega arith)
        low false p y q = let e = ltb-false n 128 p in let m = (larger-least n b).0 in le-ltb (larger n b) 128 (omega arith)

    go : (x y z : Bool) → both (both x y) z ≡ both x (both y z)
    go true y z = refl
    go false y z = refl

pub ia5_is : (c : List ℕ) (most : ℕ) → most ≡ highest c → ltb most 128 ≡ legal_ia5 c
unfolding legal_ia5
ia5_is c most e = ap (λ (x : ℕ). ltb x 128) e ∙ ia5_from 0 c
