-- One lemma for each return and each turn of a loop; its premises are the facts as the code has them.
use Rattle.std.specs.Prelude.{Option, Some, None}
use mathlib.Core.Path.{◌≡◌, refl, sym, ap, ap₂, ◌∙◌}
use mathlib.Core.Bool.{Bool, true, false}
use mathlib.Core.List.{List}
use Prim.Native.Nat.{ℕ, ◌≤◌, ◌<◌, ◌+◌, ◌-◌, ◌*◌, ◌/◌, ◌^◌}
use native.Mathlib.Omega.{arith}
use borrow.Author.Tests.{eq-eqb, ne_eqb, lt-ltb, le-ltb, lt-leb, le-leb}
use lib.Dec.{ltb}
use lib.Bits.{bit_and, and_mask}
use Rattle.octets.specs.Pick.{pick}
use Rattle.octets.specs.Octets.{octet, two}
use Rattle.der.specs.Tag.{class, constructed, number, split}
use Rattle.der.specs.Header.{long_length, length_at, sized, header_at, tagged, inside_at}
use Rattle.der.specs.Inner.Answers.{behind}
use Rattle.der.specs.declared.Tag.{Tag}
use Rattle.der.proofs.Laws.{number_small, length-within, other-octet}

-- ---- tags
pub split-is : (o : ℕ) → record { class = o / 2 ^ 6; constructed = bit_and (o / 2 ^ 5) 1; number = bit_and o 31 } ≡ split o
unfolding class constructed number
split-is o = rw (and_mask (o / 2 ^ 5) 1, and_mask o 5)

module _ (o : ℕ) (g : Tag) (read : g ≡ split o) where
  number_of : g.number ≡ number o
  number_of = ap (λ (x : Tag). x.number) read

  pub tag_fits : 32 + g.number < 256
  tag_fits = let e = number_of in omega (arith, number_small o)

-- ---- lengths
pub one-past : (s : List ℕ) (n at end : ℕ) → at < end → end - at < 2 → None ≡ long_length n 128 (at + 2) end
unfolding long_length
one-past s n at end h g = let e : end < at + 2 = omega arith in rw (lt-ltb _ _ e)

pub two_past : (s : List ℕ) (n at end : ℕ) → at < end → end - at < 3 → None ≡ long_length n 256 (at + 3) end
unfolding long_length
two_past s n at end h g = let e : end < at + 3 = omega arith in rw (lt-ltb _ _ e)

pub one-is : (s : List ℕ) (at end o n : ℕ) (r : Option (ℕ × ℕ)) → o ≡ octet s (at + 1) → n ≡ o → r ≡ long_length n 128 (at + 2) end → r ≡ long_length (octet s (at + 1)) 128 (at + 2) end
one-is s at end o n r e f g = rw (sym e, sym f) g

pub two_is : (s : List ℕ) (at end a b n : ℕ) (r : Option (ℕ × ℕ)) → a ≡ octet s (at + 1) → b ≡ octet s (at + 2) → n ≡ a * 256 + b → r ≡ long_length n 256 (at + 3) end
    → r ≡ long_length (two s (at + 1)) 256 (at + 3) end
two_is s at end a b n r e f g h =
    let next : at + 1 + 1 ≡ at + 2 = omega arith in
    h ∙ ap (λ (x : ℕ). long_length x 256 (at + 3) end) (g ∙ ap₂ (λ (x y : ℕ). x * 256 + y) e (f ∙ ap (octet s) (sym next)))

module _ (s : List ℕ) (at end o : ℕ) (h : at < end) (read : o ≡ octet s at) where
  pub length-short : (n : ℕ) → o < 128 → n ≡ o → Some (n, at + 1) ≡ length_at s at end
  unfolding length_at
  length-short n l e = rw (lt-leb end at h, ← read, lt-ltb o 128 l, e)

  module _ (l : 128 ≤ o) where
    pub length-one : (r : Option (ℕ × ℕ)) → o ≡ 129 → r ≡ long_length (octet s (at + 1)) 128 (at + 2) end → r ≡ length_at s at end
    unfolding length_at
    length-one r e g = rw (lt-leb end at h, ← read, le-ltb o 128 l, eq-eqb o 129 e) g

    module _ (n : o ≡ 129 → ⊥) where
      pub length_two : (r : Option (ℕ × ℕ)) → o ≡ 130 → r ≡ long_length (two s (at + 1)) 256 (at + 3) end → r ≡ length_at s at end
      unfolding length_at
      length_two r e g = rw (lt-leb end at h, ← read, le-ltb o 128 l, ne_eqb o 129 n, eq-eqb o 130 e) g

      pub length-no : (o ≡ 130 → ⊥) → None ≡ length_at s at end
      unfolding length_at
      length-no e = rw (lt-leb end at h, ← read, le-ltb o 128 l, ne_eqb o 129 n, ne_eqb o 130 e)

pub length_none : (s : List ℕ) (at end : ℕ) → end ≤ at → None ≡ length_at s at end
unfolding length_at
length_none s at end h = rw (le-leb end at h)

-- ---- headers
-- the header of a tag octet and contents
abbrev headed : ℕ → Option (ℕ × ℕ) → Option (ℕ × ℕ × ℕ)
headed o None = None
headed o (Some (start, n)) = Some (o, start, n)

sized-headed : (o end : ℕ) (l : Option (ℕ × ℕ)) → sized o end l ≡ headed o (behind end l)
sized-headed o end None = refl
sized-headed o end (Some (n, next)) = go (ltb (end - next) n)
  where
    go : (x : Bool) → pick x None (Some (o, next, n)) ≡ headed o (pick x None (Some (next, n)))
    go true = refl
    go false = refl

tagged-headed : (o : ℕ) (i : Option (ℕ × ℕ)) → tagged o (headed o i) ≡ i
tagged-headed o None = refl
tagged-headed o (Some (start, n)) = rw (eq-eqb o o refl)

pub header-none : (s : List ℕ) (at end : ℕ) → end ≤ at → None ≡ header_at s at end
unfolding header_at
header-none s at end h = rw (le-leb end at h)

module _ (s : List ℕ) (at end o : ℕ) (g : Tag) (h : at < end) (read : o ≡ octet s at) (told : g ≡ split o) where
  pub header_31 : g.number ≡ 31 → None ≡ header_at s at end
  unfolding header_at
  header_31 e = rw (lt-leb end at h, ← read, eq-eqb _ _ (sym (number_of o g told) ∙ e))

  module _ (n : g.number ≡ 31 → ⊥) (i : Option (ℕ × ℕ)) (found : i ≡ behind end (length_at s (at + 1) end)) where
    headed-is : header_at s at end ≡ headed o i
    unfolding header_at
    headed-is = rw (lt-leb end at h, ← read, ne_eqb _ _ (λ z. n (number_of o g told ∙ z)), sized-headed o end (length_at s (at + 1) end), ← found)

    pub header-misfit : i ≡ None → None ≡ header_at s at end
    header-misfit e = sym (headed-is ∙ ap (headed o) e)

    pub header_is : (start m : ℕ) → i ≡ Some (start, m) → Some (o, start, m) ≡ header_at s at end
    header_is start m e = sym (headed-is ∙ ap (headed o) e)

-- ---- contents by their length
module _ (s : List ℕ) (at end : ℕ) (l : Option (ℕ × ℕ)) (found : l ≡ length_at s (at + 1) end) where
  pub long_unusable : l ≡ None → None ≡ behind end (length_at s (at + 1) end)
  long_unusable e = sym (ap (behind end) (sym found ∙ e))

  module _ (m next : ℕ) (e : l ≡ Some (m, next)) where
    pub length-ends : next ≤ end
    length-ends = (length-within s (at + 1) end m next (sym found ∙ e)).1

    pub long-past : end - next < m → None ≡ behind end (length_at s (at + 1) end)
    long-past g = sym (ap (behind end) (sym found ∙ e) ∙ rw (lt-ltb _ _ g))

    pub long-is : m ≤ end - next → Some (next, m) ≡ behind end (length_at s (at + 1) end)
    long-is g = sym (ap (behind end) (sym found ∙ e) ∙ rw (le-ltb _ _ g))

-- ---- contents behind a tag octet that was seen
module _ (s : List ℕ) (at end : ℕ) (h : at < end) (usable : number (octet s at) < 31) where
  by_length : inside_at (octet s at) s at end ≡ behind end (length_at s (at + 1) end)
  unfolding inside_at header_at
  by_length =
      rw (lt-leb end at h, ne_eqb (number (octet s at)) 31 (λ z. omega arith))
      (ap (tagged (octet s at)) (sized-headed (octet s at) end (length_at s (at + 1) end)) ∙ tagged-headed (octet s at) (behind end (length_at s (at + 1) end)))

  pub seen-short : end - at < 2 → None ≡ inside_at (octet s at) s at end
  seen-short g = sym (by_length ∙ ap (behind end) (sym (length_none s (at + 1) end (omega arith))))

  pub seen-long : (r : Option (ℕ × ℕ)) → r ≡ behind end (length_at s (at + 1) end) → r ≡ inside_at (octet s at) s at end
  seen-long r e = e ∙ sym by_length

  module _ (n : ℕ) (g : 2 ≤ end - at) (read : n ≡ octet s (at + 1)) (small : n < 128) where
    by-octet : inside_at (octet s at) s at end ≡ behind end (Some (n, at + 2))
    by-octet =
        let next : at + 1 + 1 ≡ at + 2 = omega arith in
        by_length ∙ ap (behind end) (sym (length-short s (at + 1) end n (omega arith) read n small refl) ∙ ap (λ (k : ℕ). Some (n, k)) next)

    pub seen-past : end - at - 2 < n → None ≡ inside_at (octet s at) s at end
    seen-past l = let q : end - (at + 2) < n = omega arith in sym (by-octet ∙ rw (lt-ltb _ _ q))

    pub seen-is : n ≤ end - at - 2 → Some (at + 2, n) ≡ inside_at (octet s at) s at end
    seen-is l = let q : n ≤ end - (at + 2) = omega arith in sym (by-octet ∙ rw (le-ltb _ _ q))

-- ---- contents behind a tag octet
pub within_none : (g : ℕ) (s : List ℕ) (at end : ℕ) → end ≤ at → None ≡ inside_at g s at end
unfolding inside_at
within_none g s at end h = ap (tagged g) (header-none s at end h)

module _ (g : ℕ) (s : List ℕ) (at end u : ℕ) (wide : u ≡ octet s at) where
  pub within-other : (u ≡ g → ⊥) → None ≡ inside_at g s at end
  within-other h = sym (other-octet g s at end (λ z. h (wide ∙ z)))

  pub within-seen : (r : Option (ℕ × ℕ)) → u ≡ g → r ≡ inside_at (octet s at) s at end → r ≡ inside_at g s at end
  within-seen r h e = e ∙ ap (λ (x : ℕ). inside_at x s at end) (sym wide ∙ h)

  pub within_usable : u ≡ g → number g < 31 → number (octet s at) < 31
  within_usable h l = rw (sym wide ∙ h) l
