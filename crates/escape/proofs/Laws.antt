-- Laws of the escaped text.
use mathlib.Core.Path.{◌≡◌, refl, sym, ap, ◌∙◌}
use mathlib.Core.Bool.{Bool, true, false}
use mathlib.Core.List.{List, [], ◌∷◌, ◌++◌}
use Prim.Native.Nat.{ℕ, ◌≤◌, ◌<◌, ◌+◌, ◌*◌}
use native.Mathlib.Omega.{arith}
use borrow.Author.Tests.{eq-eqb, ne_eqb, eqb-true, eqb-false}
use lib.Dec.{eqb}
use lib.ListN.{length, drop, length-append}
use Rattle.octets.specs.Pick.{pick, either}
use Rattle.octets.specs.Octets.{octet}
use Rattle.octets.proofs.Laws.{rest-cons, rest-length, rest-none}
use Rattle.escape.specs.Escape.{always_escaped, edge_escaped, escaped_octet, escaped_from}
use Rattle.escape.specs.Inner.Work.{width, width_at}

-- ---- one octet
module _ (first last : Bool) (b : ℕ) where
  -- what holds of each way to write an octet and its width holds of the way taken
  by_width : (P : ℕ → List ℕ → Type 0) → P 3 (92 ∷ 48 ∷ 48 ∷ []) → P 2 (92 ∷ b ∷ []) → P 1 (b ∷ []) → P (width first last b) (escaped_octet first last b)
  unfolding width escaped_octet
  by_width P three two one = go (eqb b 0) (always_escaped b) (edge_escaped first last b)
    where
      go : (z a e : Bool) → P (pick z 3 (pick a 2 (pick e 2 1))) (pick z (92 ∷ 48 ∷ 48 ∷ []) (pick (either a e) (92 ∷ b ∷ []) (b ∷ [])))
      go true a e = three
      go false true e = two
      go false false true = two
      go false false false = one

  width_is : length (escaped_octet first last b) ≡ width first last b
  width_is = by_width (λ n l. length l ≡ n) refl refl refl

  pub width_some : 1 ≤ width first last b
  width_some = by_width (λ n l. 1 ≤ n) (omega arith) (omega arith) (omega arith)

  pub width_one : width first last b ≡ 1 → escaped_octet first last b ≡ b ∷ []
  width_one = by_width (λ n l. n ≡ 1 → l ≡ b ∷ []) (λ e. absurd (omega arith)) (λ e. absurd (omega arith)) (λ e. refl)

  pub width_two : width first last b ≡ 2 → escaped_octet first last b ≡ 92 ∷ b ∷ []
  width_two = by_width (λ n l. n ≡ 2 → l ≡ 92 ∷ b ∷ []) (λ e. absurd (omega arith)) (λ e. refl) (λ e. absurd (omega arith))

  pub width_three : (width first last b ≡ 1 → ⊥) → (width first last b ≡ 2 → ⊥) → escaped_octet first last b ≡ 92 ∷ 48 ∷ 48 ∷ []
  width_three = by_width (λ n l. (n ≡ 1 → ⊥) → (n ≡ 2 → ⊥) → l ≡ 92 ∷ 48 ∷ 48 ∷ []) (λ e g. refl) (λ e g. absurd (g refl)) (λ e g. absurd (e refl))

  width_most : width first last b ≤ 3
  width_most = by_width (λ n l. n ≤ 3) (omega arith) (omega arith) (omega arith)

-- ---- a text
pub escaped-nil : (first : Bool) → escaped_from first [] ≡ []
unfolding escaped_from
escaped-nil first = refl

pub escaped-cons : (first : Bool) (b : ℕ) (s : List ℕ) → escaped_from first (b ∷ s) ≡ escaped_octet first (eqb (length s) 0) b ++ escaped_from false s
unfolding escaped_from
escaped-cons first b s = refl

-- what is to come of a text from octet i on, and the octets for octet i
abbrev pub to_come : List ℕ → ℕ → List ℕ
to_come t i = escaped_from (eqb i 0) (drop i t)

abbrev pub octets_at : List ℕ → ℕ → List ℕ
octets_at t i = escaped_octet (eqb i 0) (eqb (i + 1) (length t)) (octet t i)

last-at : (t : List ℕ) (i : ℕ) → i < length t → eqb (length (drop (i + 1) t)) 0 ≡ eqb (i + 1) (length t)
last-at t i h = go (eqb (i + 1) (length t)) refl
  where
    go : (u : Bool) → eqb (i + 1) (length t) ≡ u → eqb (length (drop (i + 1) t)) 0 ≡ u
    go true e = let r = rest-length t (i + 1) in let f = eqb-true (i + 1) (length t) e in eq-eqb (length (drop (i + 1) t)) 0 (omega arith)
    go false e = let r = rest-length t (i + 1) in let f = eqb-false (i + 1) (length t) e in ne_eqb (length (drop (i + 1) t)) 0 (λ z. f (omega arith))

pub escaped-at : (t : List ℕ) (i : ℕ) → i < length t → to_come t i ≡ octets_at t i ++ to_come t (i + 1)
escaped-at t i h =
    ap (escaped_from (eqb i 0)) (rest-cons t i h) ∙ escaped-cons (eqb i 0) (octet t i) (drop (i + 1) t)
    ∙ (λ k. escaped_octet (eqb i 0) (last-at t i h k) (octet t i) ++ escaped_from (sym (ne_eqb (i + 1) 0 (λ z. omega arith)) k) (drop (i + 1) t))

pub escaped-end : (t : List ℕ) (i : ℕ) → length t ≤ i → to_come t i ≡ []
escaped-end t i h = ap (escaped_from (eqb i 0)) (rest-none t i h) ∙ escaped-nil (eqb i 0)

pub width-at : (t : List ℕ) (i : ℕ) → i < length t → length (to_come t i) ≡ width_at t i + length (to_come t (i + 1))
width-at t i h =
    let a = length-append (octets_at t i) (to_come t (i + 1)) in
    let w = width_is (eqb i 0) (eqb (i + 1) (length t)) (octet t i) in
    let e = ap length (escaped-at t i h) in
    omega arith

-- no text has more than three times its octets
pub escaped_most : (first : Bool) (s : List ℕ) → length (escaped_from first s) ≤ 3 * length s
escaped_most first [] = rw (escaped-nil first) (omega arith)
escaped_most first (b ∷ s) =
    let last = eqb (length s) 0 in
    let a = length-append (escaped_octet first last b) (escaped_from false s) in
    let w = width_is first last b in
    let m = width_most first last b in
    let h = escaped_most false s in
    let e = ap length (escaped-cons first b s) in
    omega arith
