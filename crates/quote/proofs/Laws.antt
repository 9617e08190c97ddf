-- Laws of the quoted form.
use mathlib.Core.Path.{◌≡◌, refl, ap, ◌∙◌}
use mathlib.Core.Bool.{Bool, true, false}
use mathlib.Core.List.{List, [], ◌∷◌, ◌++◌}
use Prim.Native.Nat.{ℕ, ◌≤◌, ◌<◌, ◌+◌, ◌*◌}
use native.Mathlib.Omega.{arith}
use borrow.Author.Tests.{eq-eqb, ne_eqb, eqb-true, eqb-false}
use lib.Dec.{eqb}
use lib.ListN.{length, drop, length-append}
use Rattle.octets.specs.Pick.{pick}
use Rattle.octets.specs.Octets.{octet}
use Rattle.octets.proofs.Laws.{pick_cases, rest-cons}
use Rattle.quote.specs.Quote.{doubled, quoted}
use Rattle.quote.specs.Inner.Work.{width}

-- ---- each octet of a text
pub doubled-nil : doubled [] ≡ []
unfolding doubled
doubled-nil = refl

pub doubled_quote : (b : ℕ) (s : List ℕ) → b ≡ 34 → doubled (b ∷ s) ≡ b ∷ 34 ∷ doubled s
unfolding doubled
doubled_quote b s e = rw (eq-eqb b 34 e, e)

pub doubled-other : (b : ℕ) (s : List ℕ) → (b ≡ 34 → ⊥) → doubled (b ∷ s) ≡ b ∷ doubled s
unfolding doubled
doubled-other b s n = rw (ne_eqb b 34 n)

-- what holds of no text, and of one octet more before a text, a quote or another, holds of every text and its doubled form
pub by-octets : (P : List ℕ → List ℕ → Type 0) → P [] [] → ((t d : List ℕ) → P t d → P (34 ∷ t) (34 ∷ 34 ∷ d))
    → ((b : ℕ) (t d : List ℕ) → (b ≡ 34 → ⊥) → P t d → P (b ∷ t) (b ∷ d)) → (t : List ℕ) → P t (doubled t)
by-octets P none quote other [] = rw doubled-nil none
by-octets P none quote other (b ∷ t) = go (eqb b 34) refl (by-octets P none quote other t)
  where
    go : (u : Bool) → eqb b 34 ≡ u → P t (doubled t) → P (b ∷ t) (doubled (b ∷ t))
    go true e p = let q = eqb-true b 34 e in rw (doubled_quote b t q, q) (quote t (doubled t) p)
    go false e p = let n = eqb-false b 34 e in rw (doubled-other b t n) (other b t (doubled t) n p)

-- ---- lengths
pub width_some : (b : ℕ) → 1 ≤ width b
width_some b = pick_cases (λ n. 1 ≤ n) (eqb b 34) 2 1 (λ _. omega arith) (λ _. omega arith)

width-doubled : (b : ℕ) (s : List ℕ) → length (doubled (b ∷ s)) ≡ width b + length (doubled s)
unfolding doubled
width-doubled b s = go (eqb b 34)
  where
    go : (t : Bool) → length (pick t (34 ∷ 34 ∷ doubled s) (b ∷ doubled s)) ≡ pick t 2 1 + length (doubled s)
    go true = omega arith
    go false = omega arith

-- no text has more than twice its octets
pub doubled_most : (s : List ℕ) → length (doubled s) ≤ 2 * length s
doubled_most s = by-octets (λ t d. length d ≤ 2 * length t) (omega arith) (λ t d h. omega arith) (λ b t d n h. omega arith) s

-- no text has fewer octets quoted than itself
pub doubled_least : (s : List ℕ) → length s ≤ length (doubled s)
doubled_least s = by-octets (λ t d. length t ≤ length d) (omega arith) (λ t d h. omega arith) (λ b t d n h. omega arith) s

pub width_few : (b : ℕ) → width b ≤ 2
width_few b = pick_cases (λ n. n ≤ 2) (eqb b 34) 2 1 (λ _. omega arith) (λ _. omega arith)

pub width-at : (s : List ℕ) (i : ℕ) → i < length s → length (doubled (drop i s)) ≡ width (octet s i) + length (doubled (drop (i + 1) s))
width-at s i h = ap (λ (l : List ℕ). length (doubled l)) (rest-cons s i h) ∙ width-doubled (octet s i) (drop (i + 1) s)

pub quoted-length : (s : List ℕ) → length (quoted s) ≡ length (doubled s) + 2
unfolding quoted
quoted-length s = let e = length-append (doubled s) (34 ∷ []) in omega arith

pub quoted-is : (t : List ℕ) → quoted t ≡ 34 ∷ (doubled t ++ (34 ∷ []))
unfolding quoted
quoted-is t = refl
