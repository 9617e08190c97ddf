-- The digits up to the last that isn't 0 have all bits but trailing zeros; and digits that end before the stored bits do.
use mathlib.Core.Path.{◌≡◌, refl, sym, ap, ◌∙◌}
use mathlib.Core.Bool.{Bool, true, false}
use mathlib.Core.List.{List, [], ◌∷◌}
use Prim.Native.Nat.{ℕ, zero, suc, ◌≤◌, ◌<◌, ◌+◌, ◌-◌, ◌*◌, ◌/◌, ◌%◌}
use native.Mathlib.Omega.{arith}
use borrow.Author.Tests.{eqb-true, ltb-true}
use lib.Dec.{eqb}
use lib.ListN.{length, take, drop, get_or}
use lib.Seq.{drop-drop}
use Rattle.octets.specs.Pick.{pick}
use Rattle.octets.specs.Octets.{octet, every, nibble}
use Rattle.octets.specs.Computing.{octets_compute}
use Rattle.octets.proofs.Laws.{both_true, rest-cons, octet-past}
use Rattle.digits.specs.Asserted.{hex_bits, text_bits}
use Rattle.digits.specs.Named.{trimmed}
use Rattle.digits.specs.Inner.Answers.{hex_from, rest_bits, bits_in}
use Rattle.digits.specs.Inner.Alike.{is_zero, alike}
use Rattle.digits.specs.Inner.Significant.{significant, ends_before}
use Rattle.digits.specs.declared.Quarter.{Quarter}
use Rattle.digits.specs.declared.Bits.{Bits}
use Rattle.digits.proofs.NamedLaws.{onto, alike_at}

-- ---- a last digit 0 adds nothing
text-last : (h : List ℕ) (k : ℕ) → k < length h → octet h k ≡ 48 → trimmed (text_bits (take (suc k) h)) ≡ trimmed (text_bits (take k h))
unfolding trimmed text_bits
text-last [] k l e = absurd (omega arith)
text-last (b ∷ h) zero l e = rw e
text-last (b ∷ h) (suc k) l e = ap (onto (b - 48)) (text-last h k (omega arith) e)

no_bits : nibble 48 ≡ 0
unfolding octets_compute
no_bits = refl

hex-last : (h : List ℕ) (k : ℕ) → k < length h → octet h k ≡ 48 → trimmed (hex_bits (take (suc k) h)) ≡ trimmed (hex_bits (take k h))
unfolding trimmed hex_bits
hex-last [] k l e = absurd (omega arith)
hex-last (b ∷ h) zero l e = rw (ap nibble e ∙ no_bits)
hex-last (b ∷ h) (suc k) l e =
    ap (λ (t : List ℕ). onto (nibble b / 8 % 2) (onto (nibble b / 4 % 2) (onto (nibble b / 2 % 2) (onto (nibble b % 2) t)))) (hex-last h k (omega arith) e)

pub significant-bits : (hexed : Bool) (h : List ℕ) (n : ℕ) → n ≤ length h
    → trimmed (bits_in hexed (take (significant n h) h)) ≡ trimmed (bits_in hexed (take n h))
unfolding significant
significant-bits hexed h zero l = refl
significant-bits hexed h (suc n) l = go (eqb (octet h n) 48) refl (significant-bits hexed h n (omega arith))
  where
    last : (u : Bool) → octet h n ≡ 48 → trimmed (bits_in u (take (suc n) h)) ≡ trimmed (bits_in u (take n h))
    last true e = hex-last h n (omega arith) e
    last false e = text-last h n (omega arith) e

    go : (u : Bool) → eqb (octet h n) 48 ≡ u → trimmed (bits_in hexed (take (significant n h) h)) ≡ trimmed (bits_in hexed (take n h))
        → trimmed (bits_in hexed (take (pick u (significant n h) (suc n)) h)) ≡ trimmed (bits_in hexed (take (suc n) h))
    go true e r = r ∙ sym (last hexed (eqb-true _ _ e))
    go false e r = refl

-- ---- zeros from a place on are zeros from every later place on
behind : (x : ℕ) (t : List ℕ) → every is_zero (x ∷ t) ≡ true → every is_zero t ≡ true
unfolding every
behind x t e = (both_true (eqb 0 x) (every is_zero t) e).1

text-later : (k : ℕ) (h : List ℕ) → every is_zero (text_bits h) ≡ true → every is_zero (text_bits (drop k h)) ≡ true
unfolding text_bits
text-later zero h e = e
text-later (suc k) [] e = e
text-later (suc k) (b ∷ h) e = text-later k h (behind (b - 48) (text_bits h) e)

hex-later : (k : ℕ) (h : List ℕ) → every is_zero (hex_bits h) ≡ true → every is_zero (hex_bits (drop k h)) ≡ true
unfolding hex_bits
hex-later zero h e = e
hex-later (suc k) [] e = e
hex-later (suc k) (b ∷ h) e =
    hex-later k h (behind (nibble b % 2) (hex_bits h) (behind (nibble b / 2 % 2) _ (behind (nibble b / 4 % 2) _ (behind (nibble b / 8 % 2) _ e))))

-- after the digit that a place is in
after_digit_lem : (q : Quarter) (b : ℕ) (h : List ℕ) → every is_zero (hex_from q (b ∷ h)) ≡ true → every is_zero (hex_bits h) ≡ true
unfolding hex_from
after_digit_lem Quarter.First b h e = behind (nibble b % 2) (hex_bits h) (behind (nibble b / 2 % 2) _ (behind (nibble b / 4 % 2) _ (behind (nibble b / 8 % 2) _ e)))
after_digit_lem Quarter.Second b h e = behind (nibble b % 2) (hex_bits h) (behind (nibble b / 2 % 2) _ (behind (nibble b / 4 % 2) _ e))
after_digit_lem Quarter.Third b h e = behind (nibble b % 2) (hex_bits h) (behind (nibble b / 2 % 2) _ e)
after_digit_lem Quarter.Fourth b h e = behind (nibble b % 2) (hex_bits h) e

first-later : (h : List ℕ) → hex_from Quarter.First h ≡ hex_bits h
unfolding hex_from hex_bits
first-later [] = refl
first-later (b ∷ h) = refl

pub zeros_later : (hexed : Bool) (h : List ℕ) (a : Bits) (j : ℕ) → a.at < j → j < length h → alike [] (rest_bits hexed h a) ≡ true
    → alike [] (rest_bits hexed h (record { at = j; quarter = Quarter.First })) ≡ true
unfolding alike
zeros_later hexed h a j l m e = go hexed e
  where
    here : drop a.at h ≡ octet h a.at ∷ drop (a.at + 1) h
    here = rest-cons h a.at (omega arith)

    later : drop j h ≡ drop (j - (a.at + 1)) (drop (a.at + 1) h)
    later = let q : j ≡ a.at + 1 + (j - (a.at + 1)) = omega arith in ap (λ (k : ℕ). drop k h) q ∙ sym (drop-drop (j - (a.at + 1)) (a.at + 1) h)

    go : (u : Bool) → every is_zero (rest_bits u h a) ≡ true → every is_zero (rest_bits u h (record { at = j; quarter = Quarter.First })) ≡ true
    go true z =
        ap (λ (t : List ℕ). every is_zero (hex_from Quarter.First t)) later ∙ ap (every is_zero) (first-later (drop (j - (a.at + 1)) (drop (a.at + 1) h)))
        ∙ hex-later (j - (a.at + 1)) (drop (a.at + 1) h) (after_digit_lem a.quarter (octet h a.at) (drop (a.at + 1) h) (rw here at z))
    go false z = ap (λ (t : List ℕ). every is_zero (text_bits t)) (later-text) ∙ text-later (j - a.at) (drop a.at h) z
      where
        later-text : drop j h ≡ drop (j - a.at) (drop a.at h)
        later-text = let q : j ≡ a.at + (j - a.at) = omega arith in ap (λ (k : ℕ). drop k h) q ∙ sym (drop-drop (j - a.at) a.at h)

-- ---- as many bits as digits, or four times as many
text-length : (h : List ℕ) → length (text_bits h) ≡ length h
unfolding text_bits
text-length [] = refl
text-length (b ∷ h) = ap suc (text-length h)

hex-length : (h : List ℕ) → length (hex_bits h) ≡ length h * 4
unfolding hex_bits
hex-length [] = refl
hex-length (b ∷ h) = let e = hex-length h in omega arith

ended : (hexed : Bool) (h : List ℕ) (n : ℕ) → ends_before hexed h n ≡ true → length (bits_in hexed h) < n
ended true h n e = let l = ltb-true (length h) (n / 4) e in let q = hex-length h in omega arith
ended false h n e = let l = ltb-true (length h) n e in let q = text-length h in omega arith

pub ends_some : (hexed : Bool) (h : List ℕ) (n : ℕ) (u : Bool) → u ≡ ends_before hexed h n → u ≡ true → 1 ≤ n
ends_some hexed h n u told e = let l = ended hexed h n (sym told ∙ e) in omega arith

-- where the last of the stored bits isn't 0, and fewer are asserted, they differ
pub last_differs : (s t : List ℕ) (n y : ℕ) → length t < n → y ≡ get_or s (n - 1) 0 → (y ≡ 0 → ⊥) → false ≡ alike s t
last_differs s t n y l e d = go (alike s t) refl
  where
    go : (u : Bool) → alike s t ≡ u → false ≡ u
    go true q = absurd (d (e ∙ alike_at s t q (n - 1) ∙ sym (octet-past t (n - 1) (omega arith))))
    go false q = refl

pub digits-differ : (s h : List ℕ) (hexed : Bool) (n y : ℕ) (u : Bool) → u ≡ ends_before hexed h n → u ≡ true → y ≡ get_or s (n - 1) 0 → (y ≡ 0 → ⊥)
    → false ≡ alike s (bits_in hexed h)
digits-differ s h hexed n y u told e = last_differs s (bits_in hexed h) n y (ended hexed h n (sym told ∙ e))
