-- What contents mean: one lemma for each return and each turn of a loop.
use mathlib.Core.Path.{◌≡◌, refl, sym, ap, ap₂, ◌∙◌}
use mathlib.Core.Bool.{Bool, true, false, not}
use mathlib.Core.List.{List, [], ◌∷◌, ◌++◌}
use Prim.Native.Nat.{ℕ, zero, suc, ◌≤◌, ◌<◌, ◌+◌, ◌-◌, ◌*◌, ◌/◌, ◌%◌, ◌^◌}
use native.Mathlib.Omega.{arith}
use native.Mathlib.Numerals.{add-one}
use native.Mathlib.Nat.{pow-le-pow_right, pow-suc}
use borrow.Author.Tests.{ne_eqb, lt-ltb, le-ltb, lt-leb, le-leb, ltb-true, ltb-false}
use lib.Dec.{ltb, eqb}
use lib.Bits.{bit_and, and_mask}
use lib.ListN.{length, get_or, drop, length-take, length-append, get_or-append, get_or-eq_default}
use lib.Seq.{get_or-take, get_or-append-add}
use Rattle.std.proofs.lemmas.Bool.Decides.{nat_tests}
use Rattle.octets.specs.Pick.{pick}
use Rattle.octets.specs.Octets.{octet, base_from}
use Rattle.octets.proofs.Laws.{octet-past, octet-inside, rest-cons, rest-none}
use Rattle.der.specs.Tag.{form, universal, own_octet, implicit_octet, wrapper_octet}
use Rattle.der.specs.Meaning.{integer_of, boolean_of, octet_bits, all_bits, bits_of}
use Rattle.der.specs.Order.{not_above}
use Rattle.der.specs.Inner.Answers.{report_integer}

-- ---- tag octets
pub own_is : (k a b x y : ℕ) → a ≡ form k → x ≡ a → b ≡ universal k → y ≡ b → x + y ≡ own_octet k
unfolding own_octet
own_is k a b x y e f g h = ap₂ (λ (m n : ℕ). m + n) (f ∙ e) (h ∙ g)

pub implicit-is : (n k a x y : ℕ) → a ≡ form k → x ≡ a → y ≡ n → 128 + x + y ≡ implicit_octet n k
unfolding implicit_octet
implicit-is n k a x y e f g = ap₂ (λ (p q : ℕ). 128 + p + q) (f ∙ e) g

pub wrapper_is : (n x : ℕ) → x ≡ n → 160 + x ≡ wrapper_octet n
unfolding wrapper_octet
wrapper_is n x e = ap (λ (p : ℕ). 160 + p) e

-- ---- BOOLEAN
pub truth-is : (c : List ℕ) (o : ℕ) → o ≡ octet c 0 → not (eqb o 0) ≡ boolean_of c
unfolding boolean_of
truth-is c o e = rw e (go (eqb (octet c 0) 0))
  where
    go : (t : Bool) → not t ≡ pick t false true
    go true = refl
    go false = refl

-- ---- INTEGER
base_ge : (n : ℕ) (s : List ℕ) → n ≤ base_from n s
unfolding base_from
base_ge n [] = omega arith
base_ge n (b ∷ bs) = omega (arith, base_ge (n * 256 + b) bs)

two_pos : 0 < 256
two_pos = omega arith

pow_more : (i : ℕ) → 256 ^ (i + 1) ≡ 256 ^ i * 256
pow_more i = rw add-one (pow-suc 256 i)

-- what i octets stand for leaves room for one more
room : (n i : ℕ) → n < 256 ^ i → i < 8 → n < 72057594037927936
room n i h g = let j : i ≤ 7 = omega arith in let p : 256 ^ i ≤ 256 ^ 7 = pow-le-pow_right two_pos j in omega arith

module _ (c : List ℕ) (i m : ℕ) (inv : base_from m (drop i c) ≡ base_from 0 c) where
  base_done : length c ≤ i → m ≡ base_from 0 c
  unfolding base_from
  base_done h = rw (rest-none c i h) at inv

  base_more : i < length c → base_from (m * 256 + octet c i) (drop (i + 1) c) ≡ base_from 0 c
  unfolding base_from
  base_more h = sym (ap (base_from m) (rest-cons c i h)) ∙ inv

-- i octets stand for n
pub record Plain (c : List ℕ) (i n : ℕ) : Type 0 where
  pub within : i ≤ length c
  pub small : n < 256 ^ i
  pub so_far : base_from n (drop i c) ≡ base_from 0 c

pub plain-start : (c : List ℕ) → Plain c 0 0
plain-start c = record { within = omega arith; small = omega arith; so_far = refl }

module _ (c : List ℕ) (i n : ℕ) (p : Plain c i n) where
  pub plain_end : length c ≤ i → n ≡ base_from 0 c
  plain_end h = base_done c i n p.so_far h

  module _ (h : i < length c) where
    pub plain-times : length c ≤ 8 → n * 256 < 18446744073709551616
    plain-times l = omega (arith, room n i p.small (omega arith))

    module _ (low : octet c i < 256) (w : ℕ) (e : w ≡ octet c i) where
      pub plain-plus : length c ≤ 8 → n * 256 + w < 18446744073709551616
      plain-plus l = omega (arith, room n i p.small (omega arith))

      pub plain_more : Plain c (i + 1) (n * 256 + w)
      plain_more = record {
        within = omega arith;
        small = omega (arith, pow_more i, p.small);
        so_far = rw e (base_more c i n p.so_far h);
      }

-- octets stand for less than the next power
plain_up : (c : List ℕ) → ((k : ℕ) → octet c k < 256) → (i : ℕ) → i ≤ length c → (n : ℕ) × Plain c i n
plain_up c f zero h = (0, plain-start c)
plain_up c f (suc i) h =
    let r = plain_up c f i (omega arith) in
    let l : i < length c = omega arith in
    (r.0 * 256 + octet c i, rw (← add-one i) (plain_more c i r.0 r.1 l (f i) (octet c i) refl))

base_small : (c : List ℕ) → ((k : ℕ) → octet c k < 256) → base_from 0 c < 256 ^ length c
base_small c f =
    let r = plain_up c f (length c) (omega arith) in
    let e = plain_end c (length c) r.0 r.1 (omega arith) in
    omega (arith, r.1.small)

-- the largest number of k octets
largest_is : (k : ℕ) → 1 ≤ k → k ≤ 8 → 18446744073709551615 / 2 ^ (64 - 8 * k) + 1 ≡ 256 ^ k
largest_is zero h g = absurd (omega arith)
largest_is (suc zero) h g = refl
largest_is (suc (suc zero)) h g = refl
largest_is (suc (suc (suc zero))) h g = refl
largest_is (suc (suc (suc (suc zero)))) h g = refl
largest_is (suc (suc (suc (suc (suc zero))))) h g = refl
largest_is (suc (suc (suc (suc (suc (suc zero)))))) h g = refl
largest_is (suc (suc (suc (suc (suc (suc (suc zero))))))) h g = refl
largest_is (suc (suc (suc (suc (suc (suc (suc (suc zero)))))))) h g = refl
largest_is (suc (suc (suc (suc (suc (suc (suc (suc (suc k))))))))) h g = absurd (omega arith)

pub integer-plus : (c : List ℕ) (o n : ℕ) → o ≡ octet c 0 → o < 128 → n ≡ base_from 0 c → report_integer (record { minus = false; size = n }) ≡ integer_of c
unfolding integer_of
integer-plus c o n e h q = let g : octet c 0 < 128 = omega arith in rw (lt-leb 128 (octet c 0) g, q)

module _ (c : List ℕ) (o : ℕ) (e : o ≡ octet c 0) (h : 128 ≤ o) where
  pub negative_long : 1 ≤ length c
  negative_long = octet-inside c 0 (omega arith)

  positive : (c : List ℕ) → 128 ≤ octet c 0 → 1 ≤ base_from 0 c
  unfolding base_from
  positive [] g = absurd (omega arith)
  positive (b ∷ bs) g = omega (arith, base_ge (0 * 256 + b) bs)

  module _ (l : length c ≤ 8) (n : ℕ) (q : n ≡ base_from 0 c) where
    total : 18446744073709551615 / 2 ^ (64 - 8 * length c) + 1 ≡ 256 ^ length c
    total = largest_is (length c) negative_long l

    pub integer-fits : 18446744073709551615 / 2 ^ (64 - 8 * length c) - n + 1 < 18446744073709551616
    integer-fits =
        let g : 128 ≤ octet c 0 = omega arith in
        let p : 256 ^ length c ≤ 256 ^ 8 = pow-le-pow_right two_pos l in
        omega (arith, total, positive c g)

    module _ (low : (k : ℕ) → octet c k < 256) where
      pub integer_under : n ≤ 18446744073709551615 / 2 ^ (64 - 8 * length c)
      integer_under = omega (arith, total, base_small c low)

      pub integer-minus : report_integer (record { minus = true; size = 18446744073709551615 / 2 ^ (64 - 8 * length c) - n + 1 }) ≡ integer_of c
      unfolding integer_of
      integer-minus =
          let g : 128 ≤ octet c 0 = omega arith in
          let z : 18446744073709551615 / 2 ^ (64 - 8 * length c) - n + 1 ≡ 256 ^ length c - base_from 0 c = omega (arith, total, integer_under) in
          rw (le-leb 128 (octet c 0) g, z)

-- ---- BIT STRING
pub bit_is : (o k : ℕ) → k < 8 → bit_and (o / 2 ^ (7 - k)) 1 ≡ get_or (octet_bits o) k 0
unfolding octet_bits
bit_is o zero h = and_mask (o / 2 ^ 7) 1
bit_is o (suc zero) h = and_mask (o / 2 ^ 6) 1
bit_is o (suc (suc zero)) h = and_mask (o / 2 ^ 5) 1
bit_is o (suc (suc (suc zero))) h = and_mask (o / 2 ^ 4) 1
bit_is o (suc (suc (suc (suc zero)))) h = and_mask (o / 2 ^ 3) 1
bit_is o (suc (suc (suc (suc (suc zero))))) h = and_mask (o / 2 ^ 2) 1
bit_is o (suc (suc (suc (suc (suc (suc zero)))))) h = and_mask (o / 2 ^ 1) 1
bit_is o (suc (suc (suc (suc (suc (suc (suc zero))))))) h = and_mask (o / 2 ^ 0) 1 ∙ (let e : o / 1 ≡ o = omega arith in rw e)
bit_is o (suc (suc (suc (suc (suc (suc (suc (suc k)))))))) h = absurd (omega arith)

eight : (o : ℕ) → length (octet_bits o) ≡ 8
unfolding octet_bits
eight o = refl

bits-length : (l : List ℕ) → length (all_bits l) ≡ 8 * length l
unfolding all_bits octet_bits
bits-length [] = refl
bits-length (o ∷ l) = omega (arith, length-append (octet_bits o) (all_bits l), bits-length l)

counted : (u : ℕ) (l : List ℕ) → length (bits_of (u ∷ l)) ≡ 8 * length l - u
unfolding bits_of
counted u l = length-take (8 * length l - u) (all_bits l) ∙ omega (arith, bits-length l)

pub count_none : (c : List ℕ) → length c ≡ 0 → 0 ≡ length (bits_of c)
unfolding bits_of
count_none [] h = refl
count_none (u ∷ l) h = absurd (omega arith)

pub count-is : (c : List ℕ) → 1 ≤ length c → length (bits_of c) ≡ 8 * (length c - 1) - octet c 0
count-is [] h = absurd (omega arith)
count-is (u ∷ l) h = omega (arith, counted u l)

all-at : (l : List ℕ) (i : ℕ) → i < 8 * length l → get_or (all_bits l) i 0 ≡ get_or (octet_bits (octet l (i / 8))) (i % 8) 0
unfolding all_bits
all-at [] i h = absurd (omega arith)
all-at (o ∷ l) i h = go (ltb i 8) refl (all-at l (i - 8))
  where
    go : (t : Bool) → ltb i 8 ≡ t → (i - 8 < 8 * length l → get_or (all_bits l) (i - 8) 0 ≡ get_or (octet_bits (octet l ((i - 8) / 8))) ((i - 8) % 8) 0)
        → get_or (octet_bits o ++ all_bits l) i 0 ≡ get_or (octet_bits (octet (o ∷ l) (i / 8))) (i % 8) 0
    go true e ih =
        let g : i < 8 = ltb-true _ _ e in
        let d : i / 8 ≡ 0 = omega arith in
        let m : i % 8 ≡ i = omega arith in
        rw (d, m) (get_or-append (octet_bits o) (all_bits l) 0 i (rw (eight o) g))
    go false e ih =
        let g : 8 ≤ i = ltb-false _ _ e in
        let d : i / 8 ≡ suc ((i - 8) / 8) = omega arith in
        let m : i % 8 ≡ (i - 8) % 8 = omega arith in
        let n : i ≡ 8 + (i - 8) = omega arith in
        ap (λ (x : ℕ). get_or (octet_bits o ++ all_bits l) x 0) (n ∙ ap (λ (x : ℕ). x + (i - 8)) (sym (eight o))) ∙ get_or-append-add (octet_bits o) (all_bits l) (i - 8) 0
        ∙ ih (omega arith) ∙ rw (d, m)

pub past-bits : (c : List ℕ) (i n : ℕ) → n ≡ length (bits_of c) → n ≤ i → 0 ≡ get_or (bits_of c) i 0
past-bits c i n e h = let g : length (bits_of c) ≤ i = omega arith in sym (get_or-eq_default (bits_of c) 0 g)

within-bits : (u i : ℕ) (l : List ℕ) → i < length (bits_of (u ∷ l)) → get_or (bits_of (u ∷ l)) i 0 ≡ get_or (octet_bits (octet l (i / 8))) (i % 8) 0
unfolding bits_of
within-bits u i l h =
    let k : i < 8 * length l - u = omega (arith, counted u l) in
    get_or-take (8 * length l - u) (all_bits l) i 0 k ∙ all-at l i (omega arith)

pub bit_here : (c : List ℕ) (i n o r : ℕ) → n ≡ length (bits_of c) → i < n → o ≡ octet c (1 + i / 8) → r ≡ get_or (octet_bits o) (i % 8) 0 → r ≡ get_or (bits_of c) i 0
bit_here [] i n o r e h q f = absurd (omega (arith, count_none [] refl))
bit_here (u ∷ l) i n o r e h q f =
    let g : i < length (bits_of (u ∷ l)) = omega arith in
    let d : 1 + i / 8 ≡ suc (i / 8) = omega arith in
    f ∙ ap (λ (x : ℕ). get_or (octet_bits x) (i % 8) 0) (q ∙ ap (octet (u ∷ l)) d) ∙ sym (within-bits u i l g)

-- ---- X.690 order
zero_less : (x : ℕ) (r : Bool) → pick (eqb x 0) r false ≡ pick (ltb x 0) true (pick (ltb 0 x) false r)
zero_less zero r = refl
zero_less (suc x) r = rw (ne_eqb (suc x) 0 (λ e. absurd (omega arith)), le-ltb (suc x) 0 (omega arith), lt-ltb 0 (suc x) (omega arith))

module _ (a b : List ℕ) (i y : ℕ) (inv : not_above (drop i a) (drop i b) ≡ not_above a b) (h : i < length a) (read : y ≡ octet b i) where
  turn : pick (ltb (octet a i) y) true (pick (ltb y (octet a i)) false (not_above (drop (i + 1) a) (drop (i + 1) b))) ≡ not_above a b
  unfolding not_above
  turn = go (ltb i (length b)) refl ∙ inv
    where
      go : (t : Bool) → ltb i (length b) ≡ t → pick (ltb (octet a i) y) true (pick (ltb y (octet a i)) false (not_above (drop (i + 1) a) (drop (i + 1) b))) ≡ not_above (drop i a) (drop i b)
      go true e = let g : i < length b = ltb-true _ _ e in rw (rest-cons a i h, rest-cons b i g, read)
      go false e =
          let g : length b ≤ i = ltb-false _ _ e in
          let k : length b ≤ i + 1 = omega arith in
          let z : y ≡ 0 = read ∙ sym (octet-past b i g) in
          rw (rest-cons a i h, rest-none b i g, rest-none b (i + 1) k, z) (sym (zero_less (octet a i) (not_above (drop (i + 1) a) [])))

  pub order_differs : (octet a i ≡ y → ⊥) → ltb (octet a i) y ≡ not_above a b
  order_differs n = sym (grind (arith, nat_tests)) ∙ turn

  pub order_on : octet a i ≡ y → not_above (drop (i + 1) a) (drop (i + 1) b) ≡ not_above a b
  order_on e = sym (grind (arith, nat_tests)) ∙ turn

pub order_end : (a b : List ℕ) (i : ℕ) → not_above (drop i a) (drop i b) ≡ not_above a b → length a ≤ i → true ≡ not_above a b
unfolding not_above
order_end a b i inv h = rw (rest-none a i h) at inv
