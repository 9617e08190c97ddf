-- Bits whose trailing zeros don't count, by their places, and sets of bits: laws for the layers above.
use mathlib.Core.Path.{◌≡◌, refl, sym, ap, ap₂, ◌∙◌}
use mathlib.Core.Bool.{Bool, true, false}
use mathlib.Core.List.{List, [], ◌∷◌}
use Prim.Native.Nat.{ℕ, zero, suc, ◌<◌, ◌*◌, ◌/◌, ◌%◌, ◌^◌}
use native.Mathlib.Omega.{arith}
use native.Mathlib.Nat.{pow-suc}
use borrow.Author.Tests.{eq-eqb, ne_eqb, eqb-true, eqb-false}
use lib.Dec.{eqb}
use lib.ListN.{length, get_or}
use Rattle.octets.specs.Pick.{pick, both}
use Rattle.octets.specs.Octets.{every, same}
use Rattle.octets.proofs.Laws.{never, both_true}
use Rattle.octets.proofs.TextLaws.{same-nil, same_shorter, same_longer, same-cons, every-nil, every-cons}
use Rattle.digits.specs.Named.{trimmed}
use Rattle.digits.specs.Inner.Masks.{low_bits}
use Rattle.digits.specs.Inner.Alike.{is_zero, alike, alike_number}

-- ---- a bit before bits without trailing zeros
abbrev pub onto : ℕ → List ℕ → List ℕ
onto b t = pick (both (eqb b 0) (eqb (length t) 0)) [] (b ∷ t)

onto-more : (b y : ℕ) (t : List ℕ) → onto b (y ∷ t) ≡ b ∷ y ∷ t
onto-more b y t = ap (λ (u : Bool). pick u [] (b ∷ y ∷ t)) (ap (both (eqb b 0)) (ne_eqb (length (y ∷ t)) 0 (λ e. omega arith)) ∙ never (eqb b 0))

onto_same : (a b : ℕ) (s t : List ℕ) → same (onto a s) (onto b t) ≡ both (eqb a b) (same s t)
onto_same a b [] [] = go (eqb a 0) (eqb b 0) refl refl
  where
    go : (u v : Bool) → eqb a 0 ≡ u → eqb b 0 ≡ v → same (pick (both u true) [] (a ∷ [])) (pick (both v true) [] (b ∷ [])) ≡ both (eqb a b) (same [] [])
    go true true p q = let e : a ≡ b = eqb-true a 0 p ∙ sym (eqb-true b 0 q) in rw (eq-eqb a b e)
    go true false p q = let e : a ≡ 0 = eqb-true a 0 p in rw (ne_eqb a b (λ d. eqb-false b 0 q (sym d ∙ e))) (same_shorter b [])
    go false true p q = let e : b ≡ 0 = eqb-true b 0 q in rw (ne_eqb a b (λ d. eqb-false a 0 p (d ∙ e))) (same_longer a [])
    go false false p q = same-cons a b [] []
onto_same a b [] (y ∷ t) = rw (onto-more b y t, same_shorter y t) (go (both (eqb a 0) true) ∙ sym (never (eqb a b)))
  where
    go : (u : Bool) → same (pick u [] (a ∷ [])) (b ∷ y ∷ t) ≡ false
    go true = same_shorter b (y ∷ t)
    go false = rw (same-cons a b [] (y ∷ t), same_shorter y t) (never (eqb a b))
onto_same a b (x ∷ s) [] = rw (onto-more a x s, same_longer x s) (go (both (eqb b 0) true) ∙ sym (never (eqb a b)))
  where
    go : (u : Bool) → same (a ∷ x ∷ s) (pick u [] (b ∷ [])) ≡ false
    go true = same_longer a (x ∷ s)
    go false = rw (same-cons a b (x ∷ s) [], same_longer x s) (never (eqb a b))
onto_same a b (x ∷ s) (y ∷ t) = rw (onto-more a x s, onto-more b y t) (same-cons a b (x ∷ s) (y ∷ t))

-- ---- the same but for trailing zeros: bit by bit
zeros_is : (t : List ℕ) → every is_zero t ≡ same [] (trimmed t)
unfolding trimmed
zeros_is [] = every-nil is_zero ∙ sym same-nil
zeros_is (b ∷ t) = every-cons is_zero b t ∙ ap (both (eqb 0 b)) (zeros_is t) ∙ sym (onto_same 0 b [] (trimmed t))

pub alike_is : (a b : List ℕ) → alike a b ≡ same (trimmed a) (trimmed b)
unfolding alike trimmed
alike_is [] t = zeros_is t
alike_is (a ∷ s) [] = ap (both (eqb a 0)) (alike_is s []) ∙ sym (onto_same a 0 (trimmed s) [])
alike_is (a ∷ s) (b ∷ t) = ap (both (eqb a b)) (alike_is s t) ∙ sym (onto_same a b (trimmed s) (trimmed t))

zeros_at : (t : List ℕ) → every is_zero t ≡ true → (i : ℕ) → 0 ≡ get_or t i 0
unfolding every
zeros_at [] e i = refl
zeros_at (b ∷ t) e zero = eqb-true 0 b (both_true (eqb 0 b) (every is_zero t) e).0
zeros_at (b ∷ t) e (suc i) = zeros_at t (both_true (eqb 0 b) (every is_zero t) e).1 i

pub alike_at : (a b : List ℕ) → alike a b ≡ true → (i : ℕ) → get_or a i 0 ≡ get_or b i 0
unfolding alike
alike_at [] t e i = zeros_at t e i
alike_at (a ∷ s) [] e zero = eqb-true a 0 (both_true (eqb a 0) (alike s []) e).0
alike_at (a ∷ s) [] e (suc i) = alike_at s [] (both_true (eqb a 0) (alike s []) e).1 i
alike_at (a ∷ s) (b ∷ t) e zero = eqb-true a b (both_true (eqb a b) (alike s t) e).0
alike_at (a ∷ s) (b ∷ t) e (suc i) = alike_at s t (both_true (eqb a b) (alike s t) e).1 i

zeros_from : (t : List ℕ) → ((i : ℕ) → 0 ≡ get_or t i 0) → every is_zero t ≡ true
unfolding every
zeros_from [] h = refl
zeros_from (b ∷ t) h = rw (eq-eqb 0 b (h 0)) (zeros_from t (λ i. h (suc i)))

alike_from : (a b : List ℕ) → ((i : ℕ) → get_or a i 0 ≡ get_or b i 0) → alike a b ≡ true
unfolding alike
alike_from [] t h = zeros_from t h
alike_from (a ∷ s) [] h = rw (eq-eqb a 0 (h 0)) (alike_from s [] (λ i. h (suc i)))
alike_from (a ∷ s) (b ∷ t) h = rw (eq-eqb a b (h 0)) (alike_from s t (λ i. h (suc i)))

pub trimmed-alike : (a b : List ℕ) → same (trimmed a) (trimmed b) ≡ true → (i : ℕ) → get_or a i 0 ≡ get_or b i 0
trimmed-alike a b e i = alike_at a b (alike_is a b ∙ e) i

pub alike-trimmed : (a b : List ℕ) → ((i : ℕ) → get_or a i 0 ≡ get_or b i 0) → same (trimmed a) (trimmed b) ≡ true
alike-trimmed a b h = sym (alike_is a b) ∙ alike_from a b h

-- ---- bits and a number, bit by bit
half : (n m : ℕ) → m < 2 ^ suc n → m / 2 < 2 ^ n
half n m h = let e : 2 ^ suc n ≡ 2 ^ n * 2 = pow-suc 2 n in omega arith

none_left : (n m : ℕ) → m < 2 ^ n → eqb m 0 ≡ every is_zero (low_bits n m)
unfolding low_bits every
none_left zero m h = eq-eqb m 0 (omega arith)
none_left (suc n) m h = rw (← none_left n (m / 2) (half n m h)) (go (eqb m 0) (eqb 0 (m % 2)) refl refl)
  where
    go : (u v : Bool) → eqb m 0 ≡ u → eqb 0 (m % 2) ≡ v → u ≡ both v (eqb (m / 2) 0)
    go true true p q = let e : m ≡ 0 = eqb-true m 0 p in sym (eq-eqb (m / 2) 0 (omega arith))
    go true false p q = let e : m ≡ 0 = eqb-true m 0 p in absurd (eqb-false 0 (m % 2) q (omega arith))
    go false true p q = let e : 0 ≡ m % 2 = eqb-true 0 (m % 2) q in sym (ne_eqb (m / 2) 0 (λ d. eqb-false m 0 p (omega arith)))
    go false false p q = refl

pub low-length : (n m : ℕ) → length (low_bits n m) ≡ n
unfolding low_bits
low-length zero m = refl
low-length (suc n) m = ap suc (low-length n (m / 2))

pub number-alike : (s : List ℕ) (n m : ℕ) → m < 2 ^ n → alike_number s m ≡ alike s (low_bits n m)
unfolding alike_number alike low_bits
number-alike [] n m h = none_left n m h
number-alike (a ∷ s) zero m h = let e : m % 2 ≡ 0 = omega arith in ap₂ both (ap (eqb a) e) (number-alike s zero (m / 2) (omega arith))
number-alike (a ∷ s) (suc n) m h = ap (both (eqb a (m % 2))) (number-alike s n (m / 2) (half n m h))
