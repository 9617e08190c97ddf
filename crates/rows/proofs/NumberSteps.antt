-- Octets as one number: laws, and one lemma for each return of the functions that read eight at a time.
use mathlib.Core.Path.{◌≡◌, refl, sym, ap, ap₂, ◌∙◌}
use mathlib.Core.Bool.{Bool, true, false, not}
use mathlib.Core.List.{List, [], ◌∷◌, ◌++◌}
use Prim.Native.Nat.{ℕ, zero, suc, ◌≤◌, ◌<◌, ◌+◌, ◌-◌, ◌*◌, ◌/◌, ◌^◌}
use native.Mathlib.Omega.{arith}
use native.Mathlib.Nat.{zero-sub, suc-sub-suc, sub-zero, div-one, zero-div, div-div-eq-div-mul}
use mir.Val.{Fits}
use mir.Syntax.{w8, w64}
use Rattle.std.specs.Int.{from_le_bytes}
use borrow.Author.Tests.{not-true, not-false, eq-eqb, ne_eqb, eqb-true, eqb-false}
use lib.Dec.{eqb}
use lib.ListN.{length, take, drop, length-drop}
use lib.Pow.{pow-add}
use lib.Seq.{take-add, drop-drop, take-nil, length-take-le}
use Rattle.octets.specs.Pick.{both}
use Rattle.octets.specs.Octets.{octet, part, every, same}
use Rattle.octets.proofs.Laws.{rest-cons}
use Rattle.rows.specs.Body.{is_zero}
use Rattle.rows.specs.Inner.Numbers.{least_first}

-- ---- the number of eight octets
least_step : (t : List ℕ) (p q n : ℕ) → p < length t → p + 1 ≡ q → least_first (part t p (suc n)) ≡ octet t p + least_first (part t q n) * 256
unfolding least_first
least_step t p q n h e = ap (λ (l : List ℕ). least_first (take (suc n) l)) (rest-cons t p h) ∙ ap (λ (k : ℕ). octet t p + least_first (part t k n) * 256) e

pub eight_is : (t : List ℕ) (p r : ℕ) → p + 8 ≤ length t
    → r ≡ from_le_bytes w64 (octet t p ∷ octet t (p + 1) ∷ octet t (p + 2) ∷ octet t (p + 3)
    ∷ octet t (p + 4) ∷ octet t (p + 5) ∷ octet t (p + 6) ∷ octet t (p + 7) ∷ [])
    → r ≡ least_first (part t p 8)
unfolding least_first
eight_is t p r h e =
    let e0 = least_step t p (p + 1) 7 (omega arith) (omega arith) in
    let e1 = least_step t (p + 1) (p + 2) 6 (omega arith) (omega arith) in
    let e2 = least_step t (p + 2) (p + 3) 5 (omega arith) (omega arith) in
    let e3 = least_step t (p + 3) (p + 4) 4 (omega arith) (omega arith) in
    let e4 = least_step t (p + 4) (p + 5) 3 (omega arith) (omega arith) in
    let e5 = least_step t (p + 5) (p + 6) 2 (omega arith) (omega arith) in
    let e6 = least_step t (p + 6) (p + 7) 1 (omega arith) (omega arith) in
    let e7 = least_step t (p + 7) (p + 8) 0 (omega arith) (omega arith) in
    omega arith

-- ---- equal numbers, equal octets
digit_eqb : (p q x y : ℕ) → p < 256 → q < 256 → eqb (p + x * 256) (q + y * 256) ≡ both (eqb p q) (eqb x y)
digit_eqb p q x y a b = go (eqb p q) refl (eqb x y) refl
  where
    go : (c : Bool) → eqb p q ≡ c → (d : Bool) → eqb x y ≡ d → eqb (p + x * 256) (q + y * 256) ≡ both c d
    go true e true f = let g = eqb-true p q e in let h = eqb-true x y f in eq-eqb (p + x * 256) (q + y * 256) (omega arith)
    go true e false f = let h = eqb-false x y f in ne_eqb (p + x * 256) (q + y * 256) (λ z. h (let g = eqb-true p q e in omega arith))
    go false e d f = let g = eqb-false p q e in ne_eqb (p + x * 256) (q + y * 256) (λ z. g (omega arith))

least-same : (a b : List ℕ) → length a ≡ length b → ((i : ℕ) → octet a i < 256) → ((i : ℕ) → octet b i < 256) → eqb (least_first a) (least_first b) ≡ same a b
unfolding least_first same
least-same [] [] l f g = refl
least-same [] (q ∷ b) l f g = absurd (omega arith)
least-same (p ∷ a) [] l f g = absurd (omega arith)
least-same (p ∷ a) (q ∷ b) l f g =
    digit_eqb p q (least_first a) (least_first b) (f 0) (g 0) ∙ ap (both (eqb p q)) (least-same a b (omega arith) (λ i. f (suc i)) (λ i. g (suc i)))

pub part_bytes : (n k : ℕ) (l : List ℕ) → ((i : ℕ) → octet l i < 256) → (i : ℕ) → octet (take n (drop k l)) i < 256
part_bytes zero k l f i = omega arith
part_bytes (suc n) zero [] f i = omega arith
part_bytes (suc n) zero (x ∷ l) f zero = f 0
part_bytes (suc n) zero (x ∷ l) f (suc i) = part_bytes n 0 l (λ j. f (suc j)) i
part_bytes (suc n) (suc k) [] f i = omega arith
part_bytes (suc n) (suc k) (x ∷ l) f i = part_bytes (suc n) k l (λ j. f (suc j)) i

pub part_length : (t : List ℕ) (p n : ℕ) → p + n ≤ length t → length (part t p n) ≡ n
part_length t p n h = length-take-le n (drop p t) (let e = length-drop p t in omega arith)

pub eight_same : (t : List ℕ) (p q x y : ℕ) → p + 8 ≤ length t → q + 8 ≤ length t → x ≡ least_first (part t p 8) → y ≡ least_first (part t q 8)
    → ((i : ℕ) → Fits w8 (octet t i)) → eqb x y ≡ same (part t p 8) (part t q 8)
eight_same t p q x y a b e f fits =
    ap₂ eqb e f ∙ least-same (part t p 8) (part t q 8) (part_length t p 8 a ∙ sym (part_length t q 8 b)) (bytes p) (bytes q)
  where
    bytes : (k : ℕ) (i : ℕ) → octet (part t k 8) i < 256
    bytes k = part_bytes 8 k t (λ i. omega (arith, fits i))

-- ---- fill
least-drop : (n : ℕ) (c : List ℕ) → ((i : ℕ) → octet c i < 256) → least_first c / 2 ^ (n * 8) ≡ least_first (drop n c)
unfolding least_first
least-drop zero c f = div-one (least_first c)
least-drop (suc n) [] f = zero-div (2 ^ (suc n * 8))
least-drop (suc n) (b ∷ c) f =
    let e : suc n * 8 ≡ 8 + n * 8 = omega arith in
    let s : b < 256 = f 0 in
    let d : (b + least_first c * 256) / 256 ≡ least_first c = omega arith in
    ap (λ (k : ℕ). (b + least_first c * 256) / 2 ^ k) e
    ∙ ap (λ (k : ℕ). (b + least_first c * 256) / k) (pow-add 2 8 (n * 8))
    ∙ sym (div-div-eq-div-mul (b + least_first c * 256) 256 (2 ^ (n * 8)))
    ∙ ap (λ (k : ℕ). k / 2 ^ (n * 8)) d
    ∙ least-drop n c (λ i. f (suc i))

least_nought : (c : List ℕ) → eqb (least_first c) 0 ≡ every is_zero c
unfolding least_first every
least_nought [] = refl
least_nought (b ∷ c) = go (eqb b 0) refl (eqb (least_first c) 0) refl ∙ ap (both (eqb b 0)) (least_nought c)
  where
    go : (u : Bool) → eqb b 0 ≡ u → (v : Bool) → eqb (least_first c) 0 ≡ v → eqb (b + least_first c * 256) 0 ≡ both (eqb b 0) (eqb (least_first c) 0)
    go true e true f = let g = eqb-true b 0 e in let h = eqb-true (least_first c) 0 f in rw (e, f) (eq-eqb (b + least_first c * 256) 0 (omega arith))
    go true e false f = let h = eqb-false (least_first c) 0 f in rw (e, f) (ne_eqb (b + least_first c * 256) 0 (λ z. h (omega arith)))
    go false e v f = let g = eqb-false b 0 e in rw e (ne_eqb (b + least_first c * 256) 0 (λ z. g (omega arith)))

drop-take : (n m : ℕ) (l : List ℕ) → drop n (take m l) ≡ take (m - n) (drop n l)
drop-take zero m l = ap (λ (k : ℕ). take k l) (sym (sub-zero m))
drop-take (suc n) zero l = sym (ap (λ (k : ℕ). take k (drop (suc n) l)) (zero-sub (suc n)))
drop-take (suc n) (suc m) [] = sym (take-nil (suc m - suc n))
drop-take (suc n) (suc m) (x ∷ l) = drop-take n m l ∙ sym (ap (λ (k : ℕ). take k (drop n l)) (suc-sub-suc m n))

pub filled_none : (t : List ℕ) (p n : ℕ) → n ≡ 8 → eqb n 8 ≡ every is_zero (part t (p + n) (8 - n))
unfolding every
filled_none t p n e = rw e

pub filled_eight : (t : List ℕ) (p n x : ℕ) → x ≡ least_first (part t p 8) → ((i : ℕ) → Fits w8 (octet t i))
    → eqb (x / 2 ^ (n * 8)) 0 ≡ every is_zero (part t (p + n) (8 - n))
filled_eight t p n x e fits =
    ap (λ (k : ℕ). eqb (k / 2 ^ (n * 8)) 0) e
    ∙ ap (λ (k : ℕ). eqb k 0) (least-drop n (part t p 8) (part_bytes 8 p t (λ i. omega (arith, fits i))))
    ∙ least_nought (drop n (part t p 8))
    ∙ ap (every is_zero) (drop-take n 8 (drop p t) ∙ ap (take (8 - n)) (drop-drop n p t))

every_append : (f : ℕ → Bool) (a b : List ℕ) → every f (a ++ b) ≡ both (every f a) (every f b)
unfolding every
every_append f [] b = refl
every_append f (x ∷ a) b = ap (both (f x)) (every_append f a b) ∙ go (f x)
  where
    go : (u : Bool) → both u (both (every f a) (every f b)) ≡ both (both u (every f a)) (every f b)
    go true = refl
    go false = refl

-- a field in two parts, of so many octets and of `rest`
module _ (part₁ rest : ℕ) (t : List ℕ) (p n : ℕ) where
  pub filled-later : (r : Bool) → part₁ ≤ n → r ≡ every is_zero (part t (p + part₁ + (n - part₁)) (rest - (n - part₁)))
      → r ≡ every is_zero (part t (p + n) (part₁ + rest - n))
  filled-later r h e =
      let place : p + part₁ + (n - part₁) ≡ p + n = omega arith in
      let left : rest - (n - part₁) ≡ part₁ + rest - n = omega arith in
      e ∙ ap₂ (λ (a b : ℕ). every is_zero (part t a b)) place left

  module _ (u : Bool) (h : n < part₁) (first : u ≡ every is_zero (part t (p + n) (part₁ - n))) where
    split : every is_zero (part t (p + n) (part₁ + rest - n)) ≡ both u (every is_zero (part t (p + part₁) rest))
    split =
        let size : part₁ + rest - n ≡ part₁ - n + rest = omega arith in
        let place : p + n + (part₁ - n) ≡ p + part₁ = omega arith in
        ap (λ (k : ℕ). every is_zero (part t (p + n) k)) size
        ∙ ap (every is_zero) (take-add (part₁ - n) rest (drop (p + n) t))
        ∙ every_append is_zero (part t (p + n) (part₁ - n)) (take rest (drop (part₁ - n) (drop (p + n) t)))
        ∙ ap₂ both (sym first) (ap (λ (l : List ℕ). every is_zero (take rest l)) (drop-drop (part₁ - n) (p + n) t ∙ ap (λ (k : ℕ). drop k t) place))

    pub filled_not : not u ≡ true → false ≡ every is_zero (part t (p + n) (part₁ + rest - n))
    filled_not e = sym (split ∙ ap (λ (x : Bool). both x (every is_zero (part t (p + part₁) rest))) (not-true u e))

    pub filled-both : (r : Bool) → not u ≡ false → r ≡ every is_zero (part t (p + part₁ + 0) (rest - 0))
        → r ≡ every is_zero (part t (p + n) (part₁ + rest - n))
    filled-both r e q =
        let place : p + part₁ + 0 ≡ p + part₁ = omega arith in
        let left : rest - 0 ≡ rest = omega arith in
        q ∙ ap₂ (λ (a b : ℕ). every is_zero (part t a b)) place left
        ∙ sym (split ∙ ap (λ (x : Bool). both x (every is_zero (part t (p + part₁) rest))) (not-false u e))
