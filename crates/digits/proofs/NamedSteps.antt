-- Stored bits against those of a text or a set, trailing zeros not counted: one lemma for each return and turn.
use mathlib.Core.Path.{◌≡◌, refl, sym, ap, ◌∙◌}
use mathlib.Core.Bool.{Bool, true, false, not, false≢true}
use mathlib.Core.List.{List, [], ◌∷◌}
use Prim.Native.Nat.{ℕ, zero, suc, ◌≤◌, ◌<◌, ◌+◌, ◌-◌, ◌/◌, ◌%◌, ◌^◌}
use native.Mathlib.Omega.{arith}
use native.Mathlib.Numerals.{add-one}
use borrow.Author.Tests.{not-true, eq-eqb, ne_eqb}
use lib.Dec.{leb, eqb}
use Rattle.std.specs.Prelude.{Option, None, Some}
use lib.ListN.{length, drop, get_or}
use Rattle.octets.specs.Pick.{pick, both}
use Rattle.octets.specs.Octets.{octet, same}
use Rattle.octets.proofs.Laws.{rest-cons, rest-none}
use Rattle.octets.proofs.TextLaws.{every-nil, every-cons}
use Rattle.digits.specs.Named.{trimmed}
use Rattle.digits.specs.Inner.Answers.{rest_bits, report_bit, report_drawn, bits_in}
use Rattle.digits.specs.Inner.Masks.{mask_bits}
use Rattle.digits.specs.Inner.Alike.{is_zero, alike, alike_number, padded}
use Rattle.digits.specs.Inner.Significant.{significant}
use Rattle.digits.specs.declared.Quarter.{Quarter}
use Rattle.digits.specs.declared.Bits.{Bits}
use Rattle.digits.specs.declared.Drawn.{Drawn}
use Rattle.digits.proofs.BitSteps.{bit_end, rest-start, bits_told}
use Rattle.digits.proofs.NamedLaws.{alike_is, low-length, number-alike}
use Rattle.digits.proofs.SignificantLaws.{zeros_later, last_differs}

-- ---- a bit of a text, and the bits left of it
module _ (h : List ℕ) (hexed : Bool) (a : Bits) (step : Option Drawn) (read : report_bit hexed h step ≡ rest_bits hexed h a) where
  none_left : step ≡ None → [] ≡ rest_bits hexed h a
  none_left e = sym (ap (report_bit hexed h) e) ∙ read

  pub zeros_end : (m : Bool) → alike [] (rest_bits hexed h a) ≡ m → step ≡ None → true ≡ m
  unfolding alike
  zeros_end m inv e = sym (every-nil is_zero) ∙ ap (alike []) (none_left e) ∙ inv

  module _ (d : Drawn) (e : step ≡ Some d) where
    one_left : report_drawn hexed h d ≡ rest_bits hexed h a
    one_left = sym (ap (report_bit hexed h) e) ∙ read

    module _ (m : Bool) (inv : alike [] (rest_bits hexed h a) ≡ m) where
      front : both (eqb 0 d.bit) (alike [] (rest_bits hexed h d.after)) ≡ m
      unfolding alike
      front = sym (every-cons is_zero d.bit (rest_bits hexed h d.after)) ∙ ap (alike []) one_left ∙ inv

      pub zeros_other : (d.bit ≡ 0 → ⊥) → false ≡ m
      zeros_other g = rw (ne_eqb 0 d.bit (λ q. g (sym q))) at front

      pub zeros_on : d.bit ≡ 0 → alike [] (rest_bits hexed h d.after) ≡ m
      zeros_on g = rw (eq-eqb 0 d.bit (sym g)) at front

pub zeros_none : (h : List ℕ) (hexed : Bool) (a : Bits) → length h ≤ a.at → true ≡ alike [] (rest_bits hexed h a)
unfolding alike
zeros_none h hexed a l = sym (every-nil is_zero) ∙ ap (alike []) (bit_end h hexed a l)

pub zeros_last : (h : List ℕ) (hexed : Bool) (a : Bits) (u : Bool) → a.at < length h → a.at < length h - 1
    → u ≡ alike [] (rest_bits hexed h (record { at = length h - 1; quarter = Quarter.First })) → not u ≡ true → false ≡ alike [] (rest_bits hexed h a)
zeros_last h hexed a u m l told e = go (alike [] (rest_bits hexed h a)) refl
  where
    go : (v : Bool) → alike [] (rest_bits hexed h a) ≡ v → false ≡ v
    go true z = absurd (false≢true (sym (not-true u e) ∙ told ∙ zeros_later hexed h a (length h - 1) l (omega arith) z))
    go false z = refl

-- ---- how digits end
module _ (h : List ℕ) (n : ℕ) (m : ℕ) (inv : significant n h ≡ m) (some : 0 < n) where
  one : n ≡ suc (n - 1)
  one = omega arith

  cut : pick (eqb (octet h (n - 1)) 48) (significant (n - 1) h) (suc (n - 1)) ≡ m
  unfolding significant
  cut = rw one at inv

  pub digit_counts : (octet h (n - 1) ≡ 48 → ⊥) → n - 1 + 1 ≡ m
  digit_counts d = add-one (n - 1) ∙ rw (ne_eqb (octet h (n - 1)) 48 d) at cut

  pub digit_zero : octet h (n - 1) ≡ 48 → significant (n - 1) h ≡ m
  digit_zero e = rw (eq-eqb (octet h (n - 1)) 48 e) at cut

pub digits-none : (h : List ℕ) (n m : ℕ) → significant n h ≡ m → n ≤ 0 → 0 ≡ m
unfolding significant
digits-none h zero m inv l = inv
digits-none h (suc n) m inv l = absurd (omega arith)

-- ---- stored bits against those of a text
pub alike-start : (s h : List ℕ) (hexed : Bool) → alike s (rest_bits hexed h (record { at = 0; quarter = Quarter.First })) ≡ alike s (bits_in hexed h)
alike-start s h hexed = ap (alike s) (rest-start h hexed)

alike-padded : (a : ℕ) (s t : List ℕ) → alike (a ∷ s) (padded t) ≡ alike (a ∷ s) t
unfolding alike
alike-padded a s [] = refl
alike-padded a s (b ∷ t) = refl

module _ (s h : List ℕ) (hexed : Bool) (i : ℕ) (a : Bits) (m : Bool) (inv : alike (drop i s) (rest_bits hexed h a) ≡ m) (n : ℕ) (count : n ≡ length s) where
  module _ (l : i < n) (drawn : Drawn) (told : report_drawn hexed h drawn ≡ padded (rest_bits hexed h a)) (y : ℕ) (held : y ≡ get_or s i 0) where
    heads : both (eqb y drawn.bit) (alike (drop (i + 1) s) (rest_bits hexed h drawn.after)) ≡ m
    unfolding alike
    heads =
        let g : i < length s = omega arith in
        rw held (ap (alike (get_or s i 0 ∷ drop (i + 1) s)) told
        ∙ alike-padded (get_or s i 0) (drop (i + 1) s) (rest_bits hexed h a)
        ∙ ap (λ (x : List ℕ). alike x (rest_bits hexed h a)) (sym (rest-cons s i g))
        ∙ inv)

    pub alike-differ : (y ≡ drawn.bit → ⊥) → false ≡ m
    alike-differ d = rw (ne_eqb y drawn.bit d) at heads

    pub alike-on : y ≡ drawn.bit → alike (drop (i + 1) s) (rest_bits hexed h drawn.after) ≡ m
    alike-on d = rw (eq-eqb y drawn.bit d) at heads

-- ---- stored bits against a set
module _ (s : List ℕ) (i rest : ℕ) (m : Bool) (inv : alike_number (drop i s) rest ≡ m) (n : ℕ) (count : n ≡ length s) where
  pub mask_done : n ≤ i → eqb rest 0 ≡ m
  unfolding alike_number
  mask_done l = let g : length s ≤ i = omega arith in ap (λ (x : List ℕ). alike_number x rest) (sym (rest-none s i g)) ∙ inv

  module _ (l : i < n) (y w : ℕ) (held : y ≡ get_or s i 0) (wide : w ≡ y) where
    lowest : both (eqb w (rest % 2)) (alike_number (drop (i + 1) s) (rest / 2)) ≡ m
    unfolding alike_number
    lowest = let g : i < length s = omega arith in rw (wide ∙ held) (ap (λ (x : List ℕ). alike_number x rest) (sym (rest-cons s i g)) ∙ inv)

    pub mask_differ : (w ≡ rest % 2 → ⊥) → false ≡ m
    mask_differ d = rw (ne_eqb w (rest % 2) d) at lowest

    pub mask_on : w ≡ rest % 2 → alike_number (drop (i + 1) s) (rest / 2) ≡ m
    mask_on d = rw (eq-eqb w (rest % 2) d) at lowest

pub mask_last : (s : List ℕ) (n y m : ℕ) → m < 2 ^ 64 → 64 < n → y ≡ get_or s (n - 1) 0 → (y ≡ 0 → ⊥) → false ≡ alike_number s m
mask_last s n y m l k e d = last_differs s (mask_bits m) n y (rw (low-length 64 m) k) e d ∙ sym (number-alike s 64 m l)

-- ---- contents that aren't too long
module _ (c s : List ℕ) (r : Bool) (short : length c ≤ 65536) where
  pub named_told : (t : List ℕ) → r ≡ alike s t → r ≡ both (leb (length c) 65536) (same (trimmed s) (trimmed t))
  named_told t e = bits_told c (same (trimmed s) (trimmed t)) r short (e ∙ alike_is s t)

  pub mask_told : (m : ℕ) → m < 2 ^ 64 → r ≡ alike_number s m → r ≡ both (leb (length c) 65536) (same (trimmed s) (trimmed (mask_bits m)))
  mask_told m l e = named_told (mask_bits m) (e ∙ number-alike s 64 m l)
