-- Stored and asserted integers as numbers and bounds: laws for the layers above.
use mathlib.Core.Path.{◌≡◌, refl, sym, ap, ap₂, ◌∙◌}
use mathlib.Core.Bool.{Bool, true, false, false≢true}
use mathlib.Core.List.{List, [], ◌∷◌}
use Prim.Native.Nat.{ℕ, suc, ◌≤◌, ◌<◌, ◌+◌, ◌-◌, ◌*◌, ◌^◌}
use native.Mathlib.Omega.{arith}
use native.Mathlib.Nat.{pow-le-pow_right, pow-suc, mul_assoc, mul_comm}
use borrow.Author.Tests.{eq-eqb, ne_eqb, lt-ltb, le-ltb, le-leb, ltb-true, ltb-false, leb-true, leb-false, eqb-true, eqb-false}
use lib.Dec.{ltb, leb, eqb}
use lib.ListN.{length, drop}
use Rattle.octets.specs.Pick.{pick, both, no}
use Rattle.octets.specs.Octets.{octet, base_from, same, every, bytes}
use Rattle.octets.specs.Text.{is_number, is_digit, decimal, decimal_from}
use Rattle.octets.proofs.Laws.{both_true}
use Rattle.octets.proofs.TextLaws.{decimal-cons, number-nil, number-cons, digit_within}
use Rattle.der.specs.Meaning.{Whole, plus, same_whole, less_whole, integer_of}
use Rattle.der.proofs.MeaningLaws.{same_whole_lem, less-whole}
use Rattle.integers.specs.Asserted.{is_minus, is_integer, asserted_integer}
use Rattle.integers.specs.Inner.Bounds.{signed, fits, lifted, minus_bound, plus_bound, bound_of, same_bound, less_bound}
use Rattle.integers.specs.declared.Bound.{Bound}

-- tests of numbers that are alike
eqb_is : (a b c d : ℕ) → (a ≡ b → c ≡ d) → (c ≡ d → a ≡ b) → eqb a b ≡ eqb c d
eqb_is a b c d f g = go (eqb a b) refl
  where
    go : (u : Bool) → eqb a b ≡ u → u ≡ eqb c d
    go true e = sym (eq-eqb c d (f (eqb-true a b e)))
    go false e = sym (ne_eqb c d (λ q. eqb-false a b e (g q)))

ltb_is : (a b c d : ℕ) → (a < b → c < d) → (b ≤ a → d ≤ c) → ltb a b ≡ ltb c d
ltb_is a b c d f g = go (ltb a b) refl
  where
    go : (u : Bool) → ltb a b ≡ u → u ≡ ltb c d
    go true e = sym (lt-ltb c d (f (ltb-true a b e)))
    go false e = sym (le-ltb c d (g (ltb-false a b e)))

-- ---- by sign
module _ (x y : ℕ) where
  module _ (low : 1 ≤ x) (high : x ≤ 9223372036854775808) where
    minus_minus : (same_bound (9223372036854775808 - x) (minus_bound y) ≡ eqb x y) × (less_bound (9223372036854775808 - x) (minus_bound y) ≡ ltb y x)
    minus_minus = go (ltb 9223372036854775808 y) refl
      where
        go : (u : Bool) → ltb 9223372036854775808 y ≡ u
            → (same_bound (9223372036854775808 - x) (pick u Bound.Under (Bound.At (9223372036854775808 - y))) ≡ eqb x y)
            × (less_bound (9223372036854775808 - x) (pick u Bound.Under (Bound.At (9223372036854775808 - y))) ≡ ltb y x)
        go true e = let h : 9223372036854775808 < y = ltb-true _ _ e in (sym (ne_eqb x y (λ q. omega arith)), sym (le-ltb y x (omega arith)))
        go false e =
            let h : y ≤ 9223372036854775808 = ltb-false _ _ e in (
              eqb_is (9223372036854775808 - x) (9223372036854775808 - y) x y (λ q. omega arith) (λ q. omega arith),
              ltb_is (9223372036854775808 - x) (9223372036854775808 - y) y x (λ q. omega arith) (λ q. omega arith),
            )

    minus_plus : (same_bound (9223372036854775808 - x) (plus_bound y) ≡ false) × (less_bound (9223372036854775808 - x) (plus_bound y) ≡ true)
    minus_plus = go (ltb y 9223372036854775808)
      where
        go : (u : Bool) → (same_bound (9223372036854775808 - x) (pick u (Bound.At (9223372036854775808 + y)) Bound.Over) ≡ false)
            × (less_bound (9223372036854775808 - x) (pick u (Bound.At (9223372036854775808 + y)) Bound.Over) ≡ true)
        go true = (ne_eqb (9223372036854775808 - x) (9223372036854775808 + y) (λ q. omega arith), lt-ltb (9223372036854775808 - x) (9223372036854775808 + y) (omega arith))
        go false = (refl, refl)

  plus-minus : (1 ≤ y → same_bound (9223372036854775808 + x) (minus_bound y) ≡ false) × (less_bound (9223372036854775808 + x) (minus_bound y) ≡ false)
  plus-minus = go (ltb 9223372036854775808 y)
    where
      go : (u : Bool) → (1 ≤ y → same_bound (9223372036854775808 + x) (pick u Bound.Under (Bound.At (9223372036854775808 - y))) ≡ false)
          × (less_bound (9223372036854775808 + x) (pick u Bound.Under (Bound.At (9223372036854775808 - y))) ≡ false)
      go true = (λ l. refl, refl)
      go false = (λ l. ne_eqb (9223372036854775808 + x) (9223372036854775808 - y) (λ q. omega arith), le-ltb (9223372036854775808 + x) (9223372036854775808 - y) (omega arith))

  plus-plus : x < 9223372036854775808 → (same_bound (9223372036854775808 + x) (plus_bound y) ≡ eqb x y) × (less_bound (9223372036854775808 + x) (plus_bound y) ≡ ltb x y)
  plus-plus small = go (ltb y 9223372036854775808) refl
    where
      go : (u : Bool) → ltb y 9223372036854775808 ≡ u
          → (same_bound (9223372036854775808 + x) (pick u (Bound.At (9223372036854775808 + y)) Bound.Over) ≡ eqb x y)
          × (less_bound (9223372036854775808 + x) (pick u (Bound.At (9223372036854775808 + y)) Bound.Over) ≡ ltb x y)
      go true e = (
        eqb_is (9223372036854775808 + x) (9223372036854775808 + y) x y (λ q. omega arith) (λ q. omega arith),
        ltb_is (9223372036854775808 + x) (9223372036854775808 + y) x y (λ q. omega arith) (λ q. omega arith),
      )
      go false e = let h : 9223372036854775808 ≤ y = ltb-false _ _ e in (sym (ne_eqb x y (λ q. omega arith)), sym (lt-ltb x y (omega arith)))

-- ---- an integer that fits against one of any size
module _ (w a : Whole) (f : fits w ≡ true) where
  same_bound_lem : signed a ≡ true → same_whole w a ≡ same_bound (lifted w) (bound_of a)
  unfolding signed fits lifted bound_of
  same_bound_lem z = same_whole_lem w.minus a.minus w.size a.size ∙ go w.minus a.minus w.size a.size f z
    where
      go : (m n : Bool) (x y : ℕ) → fits (record { minus = m; size = x }) ≡ true → signed (record { minus = n; size = y }) ≡ true
          → both (pick m n (no n)) (eqb x y) ≡ same_bound (lifted (record { minus = m; size = x })) (bound_of (record { minus = n; size = y }))
      go true true x y f z = let h = both_true _ _ f in sym (minus_minus x y (leb-true _ _ h.0) (leb-true _ _ h.1)).0
      go true false x y f z = let h = both_true _ _ f in sym (minus_plus x y (leb-true _ _ h.0) (leb-true _ _ h.1)).0
      go false true x y f z = sym ((plus-minus x y).0 (leb-true _ _ z))
      go false false x y f z = sym (plus-plus x y (ltb-true _ _ f)).0

  less_bound_lem : less_whole w a ≡ less_bound (lifted w) (bound_of a)
  unfolding fits lifted bound_of
  less_bound_lem = less-whole w.minus a.minus w.size a.size ∙ go w.minus a.minus w.size a.size f
    where
      go : (m n : Bool) (x y : ℕ) → fits (record { minus = m; size = x }) ≡ true
          → pick m (pick n (ltb y x) true) (pick n false (ltb x y)) ≡ less_bound (lifted (record { minus = m; size = x })) (bound_of (record { minus = n; size = y }))
      go true true x y f = let h = both_true _ _ f in sym (minus_minus x y (leb-true _ _ h.0) (leb-true _ _ h.1)).1
      go true false x y f = let h = both_true _ _ f in sym (minus_plus x y (leb-true _ _ h.0) (leb-true _ _ h.1)).1
      go false true x y f = sym (plus-minus x y).1
      go false false x y f = sym (plus-plus x y (ltb-true _ _ f)).1

pub count_fits : (n : ℕ) → n < 9223372036854775808 → fits (plus n) ≡ true
unfolding fits
count_fits n h = lt-ltb n 9223372036854775808 h

-- ---- what up to eight octets stand for
one_octet_more : (m k : ℕ) → m * 256 ^ suc k ≡ m * 256 * 256 ^ k
one_octet_more m k = ap (λ (x : ℕ). m * x) (pow-suc 256 k ∙ mul_comm (256 ^ k) 256) ∙ sym (mul_assoc m 256 (256 ^ k))

base_under : (s : List ℕ) (n m : ℕ) → n < m → ((i : ℕ) → octet s i < 256) → base_from n s < m * 256 ^ length s
unfolding base_from
base_under [] n m h o = omega arith
base_under (b ∷ s) n m h o =
    let l : n * 256 + b < m * 256 = omega (arith, o 0) in
    rw (one_octet_more m (length s)) (base_under s (n * 256 + b) (m * 256) l (λ i. o (suc i)))

base_over : (s : List ℕ) (n m : ℕ) → m ≤ n → m * 256 ^ length s ≤ base_from n s
unfolding base_from
base_over [] n m h = omega arith
base_over (b ∷ s) n m h =
    let l : m * 256 ≤ n * 256 + b = omega arith in
    rw (one_octet_more m (length s)) (base_over s (n * 256 + b) (m * 256) l)

pub contents-fit : (c : List ℕ) → length c ≤ 8 → ((i : ℕ) → octet c i < 256) → fits (integer_of c) ≡ true
unfolding integer_of fits base_from
contents-fit [] h o = refl
contents-fit (b ∷ s) h o = go (leb 128 b) refl
  where
    half : 256 ^ length s ≤ 72057594037927936
    half = let p : 0 < 256 = omega arith in let l : length s ≤ 7 = omega arith in let q : 256 ^ length s ≤ 256 ^ 7 = pow-le-pow_right p l in omega arith

    go : (u : Bool) → leb 128 b ≡ u → fits (pick u (record { minus = true; size = 256 ^ suc (length s) - base_from (0 * 256 + b) s }) (plus (base_from (0 * 256 + b) s))) ≡ true
    go true e =
        let l : 128 ≤ 0 * 256 + b = omega (arith, leb-true 128 b e) in
        let g : 0 * 256 + b < 256 = omega (arith, o 0) in
        let most : 128 * 256 ^ length s ≤ base_from (0 * 256 + b) s = base_over s (0 * 256 + b) 128 l in
        let least : base_from (0 * 256 + b) s < 256 * 256 ^ length s = base_under s (0 * 256 + b) 256 g (λ i. o (suc i)) in
        let first : 1 ≤ 256 ^ suc (length s) - base_from (0 * 256 + b) s = omega (arith, pow-suc 256 (length s)) in
        let last : 256 ^ suc (length s) - base_from (0 * 256 + b) s ≤ 9223372036854775808 = omega (arith, pow-suc 256 (length s), half) in
        rw (le-leb _ _ first, le-leb _ _ last)
    go false e =
        let l : 0 * 256 + b < 128 = omega (arith, leb-false 128 b e) in
        let least : base_from (0 * 256 + b) s < 128 * 256 ^ length s = base_under s (0 * 256 + b) 128 l (λ i. o (suc i)) in
        let small : base_from (0 * 256 + b) s < 9223372036854775808 = omega (arith, half) in
        lt-ltb _ _ small

-- ---- a conforming text
decimal_grows : (s : List ℕ) (n : ℕ) → n ≤ decimal_from n s
unfolding decimal_from
decimal_grows [] n = omega arith
decimal_grows (b ∷ s) n = omega (arith, decimal_grows s (n * 10 + (b - 48)))

-- a number after a minus, where the text isn't -0
minus_positive : (a b : ℕ) (r : List ℕ) (u : Bool) → a ≡ 45 → eqb b 48 ≡ u → pick u (eqb (length r) 0) (both (is_digit b) (every is_digit r)) ≡ true
    → no (same (a ∷ b ∷ r) (bytes "-0")) ≡ true → 1 ≤ decimal_from 0 (b ∷ r)
unfolding same
minus_positive a b [] true h q f g = absurd (false≢true (sym (rw (eq-eqb a 45 h, q)) ∙ g))
minus_positive a b (x ∷ r) true h q f g = absurd (false≢true (sym (ne_eqb (suc (length r)) 0 (λ e. omega arith)) ∙ f))
minus_positive a b r false h q f g =
    let d = digit_within b (both_true _ _ f).0 in
    let n : b ≡ 48 → ⊥ = eqb-false b 48 q in
    let m : 1 ≤ 0 * 10 + (b - 48) = omega (arith, d.0, ne_lt b 48 d.0 n) in
    rw (decimal-cons 0 b r) (omega (arith, decimal_grows r (0 * 10 + (b - 48))))
  where
    ne_lt : (b k : ℕ) → k ≤ b → (b ≡ k → ⊥) → k < b
    ne_lt b k l n = omega arith

integer-signed : (t : List ℕ) → is_integer t ≡ true → signed (asserted_integer t) ≡ true
unfolding is_integer asserted_integer signed
integer-signed t e = go t (is_minus t) refl e
  where
    go : (t : List ℕ) (u : Bool) → is_minus t ≡ u → pick u (both (is_number (drop 1 t)) (no (same t (bytes "-0")))) (is_number t) ≡ true
        → signed (pick u (record { minus = true; size = decimal (drop 1 t) }) (plus (decimal t))) ≡ true
    go t false q f = refl
    go [] true q f = absurd (false≢true q)
    go (a ∷ []) true q f = absurd (false≢true (sym number-nil ∙ (both_true _ _ f).0))
    go (a ∷ b ∷ r) true q f =
        let h = both_true _ _ f in
        le-leb _ _ (minus_positive a b r (eqb b 48) (eqb-true a 45 q) refl (sym (number-cons b r) ∙ h.0) h.1)

-- ---- a stored integer or count, lifted, against a text's bound
module _ (w : Whole) (t : List ℕ) (n : ℕ) (b : Bound) (up : n ≡ lifted w) (f : fits w ≡ true) (told : b ≡ bound_of (asserted_integer t)) where
  pub same-lifted : is_integer t ≡ true → same_bound n b ≡ same_whole w (asserted_integer t)
  same-lifted e = ap₂ same_bound up told ∙ sym (same_bound_lem w (asserted_integer t) f (integer-signed t e))

  pub less-lifted : less_bound n b ≡ less_whole w (asserted_integer t)
  less-lifted = ap₂ less_bound up told ∙ sym (less_bound_lem w (asserted_integer t) f)
