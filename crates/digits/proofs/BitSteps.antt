-- Bits of a text, and stored bits against them.
use mathlib.Core.Path.{◌≡◌, refl, sym, ap, ap₂, ◌∙◌}
use mathlib.Core.Bool.{Bool, true, false, not, false≢true}
use mathlib.Core.List.{List, [], ◌∷◌}
use Prim.Native.Nat.{ℕ, ◌≤◌, ◌<◌, ◌+◌, ◌-◌, ◌%◌}
use native.Mathlib.Omega.{arith}
use borrow.Author.Tests.{eq-eqb, ne_eqb, le-leb}
use lib.Dec.{leb, eqb}
use lib.ListN.{length, drop, get_or}
use Rattle.octets.specs.Pick.{pick, both}
use Rattle.octets.specs.Octets.{octet, same, nibble}
use Rattle.octets.proofs.Laws.{rest-cons, rest-none}
use Rattle.octets.proofs.TextLaws.{same-nil, same_shorter, same_longer, same-cons}
use Rattle.digits.specs.Asserted.{hex_bits, text_bits}
use Rattle.std.specs.Prelude.{Option, None, Some, is_some}
use Rattle.digits.specs.Inner.Answers.{hex_from, rest_bits, report_bit, bit_in, bits_in}
use Rattle.digits.specs.declared.Quarter.{Quarter}
use Rattle.digits.specs.declared.Bits.{Bits}
use Rattle.digits.specs.declared.Drawn.{Drawn}

-- ---- one bit
hex-none : (q : Quarter) → hex_from q [] ≡ []
unfolding hex_from
hex-none q = refl

hex-first : (l : List ℕ) → hex_from Quarter.First l ≡ hex_bits l
unfolding hex_from hex_bits
hex-first [] = refl
hex-first (b ∷ s) = refl

text-none : text_bits [] ≡ []
unfolding text_bits
text-none = refl

module _ (h : List ℕ) (hexed : Bool) where
  none : (q : Quarter) (u : Bool) → pick u (hex_from q []) (text_bits []) ≡ []
  none q true = hex-none q
  none q false = text-none

  pub bit_end : (c : Bits) → length h ≤ c.at → report_bit hexed h None ≡ rest_bits hexed h c
  bit_end c l = sym (ap (λ (x : List ℕ). pick hexed (hex_from c.quarter x) (text_bits x)) (rest-none h c.at l) ∙ none c.quarter hexed)

  module _ (at : ℕ) (l : at < length h) where
    hex_told : (n : ℕ) (q : Quarter) → n ≡ nibble (octet h at) → report_bit true h (Some (bit_in n at (at + 1) q)) ≡ hex_from q (octet h at ∷ drop (at + 1) h)
    unfolding hex_from
    hex_told n Quarter.First e = rw (e, rest-cons h at l)
    hex_told n Quarter.Second e = rw (e, rest-cons h at l)
    hex_told n Quarter.Third e = rw (e, rest-cons h at l)
    hex_told n Quarter.Fourth e = rw e (ap (λ (x : List ℕ). nibble (octet h at) % 2 ∷ x) (hex-first (drop (at + 1) h)))

  pub bit_hex : (c : Bits) (n : ℕ) (r : Drawn) → c.at < length h → hexed ≡ true → n ≡ nibble (octet h c.at) → r ≡ bit_in n c.at (c.at + 1) c.quarter
      → report_bit hexed h (Some r) ≡ rest_bits hexed h c
  bit_hex c n r l q e f = rw (q, f) (hex_told c.at l n c.quarter e ∙ ap (hex_from c.quarter) (sym (rest-cons h c.at l)))

  pub bit_text : (c : Bits) (x : ℕ) → c.at < length h → hexed ≡ false → x ≡ octet h c.at - 48
      → report_bit hexed h (Some (record { bit = x; after = record { at = c.at + 1; quarter = c.quarter } })) ≡ rest_bits hexed h c
  unfolding text_bits
  bit_text c x l q e = rw (q, e) (ap text_bits (sym (rest-cons h c.at l)))

-- ---- stored bits against those of a text
pub rest-start : (h : List ℕ) (hexed : Bool) → rest_bits hexed h (record { at = 0; quarter = Quarter.First }) ≡ bits_in hexed h
rest-start h hexed = ap (λ (x : List ℕ). pick hexed x (text_bits h)) (hex-first h)

pub bits-start : (s h : List ℕ) (hexed : Bool) → same s (rest_bits hexed h (record { at = 0; quarter = Quarter.First })) ≡ same s (bits_in hexed h)
bits-start s h hexed = ap (same s) (rest-start h hexed)

module _ (s h : List ℕ) (hexed : Bool) (i : ℕ) (a : Bits) (step : Option Drawn) (m : Bool) (inv : same (drop i s) (rest_bits hexed h a) ≡ m)
    (read : report_bit hexed h step ≡ rest_bits hexed h a) where
  ended : (x : Option Drawn) (u : Bool) → is_some x ≡ not u → u ≡ same [] (report_bit hexed h x)
  ended None true e = sym same-nil
  ended None false e = absurd (false≢true e)
  ended (Some d) true e = absurd (false≢true (sym e))
  ended (Some d) false e = sym (same_shorter d.bit (rest_bits hexed h d.after))

  pub bits-done : (n : ℕ) (r : Bool) → n ≡ length s → n ≤ i → is_some step ≡ not r → r ≡ m
  bits-done n r e l q = let g : length s ≤ i = omega arith in ended step r q ∙ ap₂ same (sym (rest-none s i g)) read ∙ inv

  module _ (n : ℕ) (e : n ≡ length s) (l : i < n) where
    front : drop i s ≡ get_or s i 0 ∷ drop (i + 1) s
    front = let g : i < length s = omega arith in rest-cons s i g

    pub bits-short : step ≡ None → false ≡ m
    bits-short q = sym (same_longer (get_or s i 0) (drop (i + 1) s)) ∙ ap₂ same (sym front) (sym (ap (report_bit hexed h) q) ∙ read) ∙ inv

    module _ (d : Drawn) (y : ℕ) (q : step ≡ Some d) (held : y ≡ get_or s i 0) where
      sides : both (eqb y d.bit) (same (drop (i + 1) s) (rest_bits hexed h d.after)) ≡ m
      sides =
          rw held (sym (same-cons (get_or s i 0) d.bit (drop (i + 1) s) (rest_bits hexed h d.after))
          ∙ ap₂ same (sym front) (sym (ap (report_bit hexed h) q) ∙ read)
          ∙ inv)

      pub bits-differ : (y ≡ d.bit → ⊥) → false ≡ m
      bits-differ g = rw (ne_eqb y d.bit g) at sides

      pub bits-on : y ≡ d.bit → same (drop (i + 1) s) (rest_bits hexed h d.after) ≡ m
      bits-on g = rw (eq-eqb y d.bit g) at sides

pub bits_told : (c : List ℕ) (x r : Bool) → length c ≤ 65536 → r ≡ x → r ≡ both (leb (length c) 65536) x
bits_told c x r h e = rw (le-leb (length c) 65536 h) e
