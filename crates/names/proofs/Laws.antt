-- Laws of letters, of characters by their places, and of escaped texts.
use mathlib.Core.Path.{◌≡◌, refl, sym, ap, ◌∙◌}
use mathlib.Core.Bool.{Bool, true, false, false≢true}
use mathlib.Core.List.{List, [], ◌∷◌}
use Prim.Native.Nat.{ℕ, zero, suc, ◌≤◌, ◌<◌, ◌+◌, ◌-◌, ◌*◌}
use native.Mathlib.Omega.{arith}
use native.Mathlib.Nat.{add-zero}
use borrow.Author.Tests.{eq-eqb, ne_eqb, eqb-true, eqb-false, leb-true, leb-false}
use lib.Dec.{leb, eqb}
use lib.ListN.{length, take, drop}
use lib.Seq.{get_or-drop}
use Rattle.octets.specs.Pick.{both, either}
use Rattle.octets.specs.Octets.{octet}
use Rattle.octets.specs.Text.{is_digit, is_hex, hex_value}
use Rattle.octets.specs.Quoted.{undoubled}
use Rattle.octets.specs.Inner.Answers.{between}
use Rattle.octets.proofs.Laws.{never, octet-past, octet-inside, rest-cons, rest-none, either_in}
use Rattle.octets.proofs.QuotedLaws.{undoubled-nil, undoubled-one, undoubled-two, undoubled-other}
use Rattle.strings.specs.Inner.Escaped.{unescaped}
use Rattle.names.specs.Rfc4514.{bare, escaped, wrong, is_reserved, is_special, letters, is_string_char}
use Rattle.names.specs.Inner.Reading.{next_place}

-- ---- octets by their kind
pub special_hex : (c : ℕ) → is_special c ≡ true → is_hex c ≡ false
unfolding is_special is_reserved is_hex is_digit
special_hex c = or 32 refl (or 35 refl (or 61 refl (or 92 refl (or 34 refl (or 43 refl (or 44 refl (or 59 refl (or 60 refl (is 62 refl)))))))))
  where
    is : (k : ℕ) → is_hex k ≡ false → eqb c k ≡ true → is_hex c ≡ false
    is k e q = rw (eqb-true c k q) e

    or : (k : ℕ) → is_hex k ≡ false → {b : Bool} → (b ≡ true → is_hex c ≡ false) → either (eqb c k) b ≡ true → is_hex c ≡ false
    or k e {b} f = either_in (eqb c k) b (is k e) f

pub special_quote : (c : ℕ) → is_special c ≡ false → c ≡ 34 → ⊥
unfolding is_special is_reserved
special_quote c e q = false≢true (sym (rw q at e))

pub hex_quote : (c : ℕ) → is_hex c ≡ true → c ≡ 34 → ⊥
unfolding is_hex is_digit
hex_quote c e q = false≢true (rw q at e)

pub hex_some : (c : ℕ) → is_hex c ≡ true → 0 < c
unfolding is_hex is_digit
hex_some zero e = absurd (false≢true e)
hex_some (suc c) e = omega arith

pub string_quote : (b : ℕ) → is_string_char b ≡ true → b ≡ 34 → ⊥
unfolding is_string_char is_reserved
string_quote b e q = false≢true (rw q at e)

-- ---- letters
pub letters-nil : letters [] ≡ []
unfolding letters
letters-nil = refl

pub letters-bare : (b : ℕ) (s : List ℕ) → (b ≡ 92 → ⊥) → letters (b ∷ s) ≡ bare b ∷ letters s
unfolding letters
letters-bare b [] n = rw (ne_eqb b 92 n)
letters-bare b (c ∷ []) n = rw (ne_eqb b 92 n)
letters-bare b (c ∷ d ∷ s) n = rw (ne_eqb b 92 n)

pub letters-last : letters (92 ∷ []) ≡ wrong ∷ []
unfolding letters
letters-last = refl

module _ (c : ℕ) where
  pub letters_special : (s : List ℕ) → is_special c ≡ true → letters (92 ∷ c ∷ s) ≡ escaped c ∷ letters s
  unfolding letters
  letters_special [] e = rw e
  letters_special (d ∷ s) e = rw e

  module _ (e : is_special c ≡ false) where
    pub letters-hex : (d : ℕ) (s : List ℕ) → both (is_hex c) (is_hex d) ≡ true → letters (92 ∷ c ∷ d ∷ s) ≡ escaped (hex_value c * 16 + hex_value d) ∷ letters s
    unfolding letters
    letters-hex d s x = rw (e, x)

    pub letters-wrong : (s : List ℕ) → both (is_hex c) (is_hex (octet s 0)) ≡ false → letters (92 ∷ c ∷ s) ≡ wrong ∷ []
    unfolding letters
    letters-wrong [] x = rw e
    letters-wrong (d ∷ s) x = rw (e, x)

-- ---- escaped texts
pub unescaped-other : (c : ℕ) (s : List ℕ) → (c ≡ 34 → ⊥) → is_hex c ≡ false → unescaped (92 ∷ c ∷ s) ≡ c ∷ unescaped s
unfolding unescaped
unescaped-other c [] n x = refl
unescaped-other c (d ∷ s) n x = rw (ne_eqb c 34 n, x)

pub unescaped_quote : (s : List ℕ) → (octet s 0 ≡ 34 → ⊥) → unescaped (92 ∷ 34 ∷ s) ≡ 34 ∷ unescaped s
unfolding unescaped is_hex is_digit
unescaped_quote [] n = refl
unescaped_quote (d ∷ s) n = rw (ne_eqb d 34 n)

pub unescaped-double : (s : List ℕ) → unescaped (92 ∷ 34 ∷ 34 ∷ s) ≡ 34 ∷ unescaped s
unfolding unescaped
unescaped-double s = refl

pub unescaped-hex : (c d : ℕ) (s : List ℕ) → (c ≡ 34 → ⊥) → both (is_hex c) (is_hex d) ≡ true
    → unescaped (92 ∷ c ∷ d ∷ s) ≡ (hex_value c * 16 + hex_value d) ∷ unescaped s
unfolding unescaped
unescaped-hex c d s n x = rw (ne_eqb c 34 n, x)

-- ---- parts by their places
octet-first : (p : List ℕ) (k : ℕ) → octet (drop k p) 0 ≡ octet p k
octet-first p k = get_or-drop k p 0 0 ∙ ap (octet p) (add-zero k)

pub between_cons : (p : List ℕ) (at end : ℕ) → at < length p → at < end → between p at end ≡ octet p at ∷ between p (at + 1) end
between_cons p at end h l = let e : end - at ≡ suc (end - (at + 1)) = omega arith in rw (rest-cons p at h, e)

pub between_none : (p : List ℕ) (at : ℕ) → between p at at ≡ []
between_none p at = let e : at - at ≡ 0 = omega arith in rw e

-- what stands first in a part is the octet at its place, or nothing
pub between_first : (p : List ℕ) (at end b : ℕ) → 0 < b → (octet p at ≡ b → ⊥) → octet (between p at end) 0 ≡ b → ⊥
between_first p at end b z n = go (end - at)
  where
    first : (k : ℕ) (s : List ℕ) → (octet s 0 ≡ b → ⊥) → octet (take k s) 0 ≡ b → ⊥
    first zero s m e = omega arith
    first (suc k) [] m e = m e
    first (suc k) (c ∷ s) m e = m e

    go : (k : ℕ) → octet (take k (drop at p)) 0 ≡ b → ⊥
    go k = first k (drop at p) (λ e. n (sym (octet-first p at) ∙ e))

-- ---- characters by their places
undoubled-single : (b : ℕ) (s : List ℕ) → (octet s 0 ≡ 34 → ⊥) → undoubled (b ∷ s) ≡ b ∷ undoubled s
undoubled-single b [] n = undoubled-one b ∙ ap (λ (x : List ℕ). b ∷ x) (sym undoubled-nil)
undoubled-single b (c ∷ s) n = undoubled-two b c s ∙ rw (ne_eqb c 34 n, never (eqb b 34))

module _ (p : List ℕ) (at : ℕ) where
  pub next_other : (octet p at ≡ 34 → ⊥) → next_place p at ≡ at + 1
  unfolding next_place
  next_other n = rw (ne_eqb (octet p at) 34 n)

  pub next_single : (octet p (at + 1) ≡ 34 → ⊥) → next_place p at ≡ at + 1
  unfolding next_place
  next_single n = rw (ne_eqb (octet p (at + 1)) 34 n, never (eqb (octet p at) 34))

  pub next_last : length p - at < 2 → next_place p at ≡ at + 1
  next_last h = let l : length p ≤ at + 1 = omega arith in next_single (λ e. omega (arith, octet-past p (at + 1) l))

  pub next_double : octet p at ≡ 34 → octet p (at + 1) ≡ 34 → next_place p at ≡ at + 2
  unfolding next_place
  next_double e f = rw (eq-eqb (octet p at) 34 e, eq-eqb (octet p (at + 1)) 34 f)

  pub characters-none : length p ≤ at → undoubled (drop at p) ≡ []
  characters-none h = ap undoubled (rest-none p at h) ∙ undoubled-nil

  module _ (h : at < length p) where
    single : (octet p (at + 1) ≡ 34 → ⊥) → undoubled (drop at p) ≡ octet p at ∷ undoubled (drop (at + 1) p)
    single n = ap undoubled (rest-cons p at h) ∙ undoubled-single (octet p at) (drop (at + 1) p) (λ e. n (sym (octet-first p (at + 1)) ∙ e))

    other : (octet p at ≡ 34 → ⊥) → undoubled (drop at p) ≡ octet p at ∷ undoubled (drop (at + 1) p)
    other n = ap undoubled (rest-cons p at h) ∙ undoubled-other (octet p at) (drop (at + 1) p) n

    double : octet p at ≡ 34 → octet p (at + 1) ≡ 34 → undoubled (drop at p) ≡ octet p at ∷ undoubled (drop (at + 2) p)
    double e f =
        let l : at + 1 < length p = octet-inside p (at + 1) (rw f (omega arith)) in
        let z : at + 1 + 1 ≡ at + 2 = omega arith in
        ap undoubled (rest-cons p at h ∙ ap (λ (x : List ℕ). octet p at ∷ x) (rest-cons p (at + 1) l))
        ∙ undoubled-two (octet p at) (octet p (at + 1)) (drop (at + 1 + 1) p) ∙ rw (e, f, z)

    pub characters-cons : undoubled (drop at p) ≡ octet p at ∷ undoubled (drop (next_place p at) p)
    characters-cons = go (eqb (octet p at) 34) (eqb (octet p (at + 1)) 34) refl refl
      where
        go : (a b : Bool) → eqb (octet p at) 34 ≡ a → eqb (octet p (at + 1)) 34 ≡ b → undoubled (drop at p) ≡ octet p at ∷ undoubled (drop (next_place p at) p)
        go true true e f = let q = eqb-true _ _ e in let r = eqb-true _ _ f in rw (next_double q r) (double q r)
        go true false e f = let n = eqb-false _ _ f in rw (next_single n) (single n)
        go false b e f = let n = eqb-false _ _ e in rw (next_other n) (other n)

    pub next_within : (at < next_place p at) × (next_place p at ≤ length p)
    next_within = go (eqb (octet p at) 34) (eqb (octet p (at + 1)) 34) refl refl
      where
        go : (a b : Bool) → eqb (octet p at) 34 ≡ a → eqb (octet p (at + 1)) 34 ≡ b → (at < next_place p at) × (next_place p at ≤ length p)
        go true true e f =
            let r = eqb-true (octet p (at + 1)) 34 f in
            let l : at + 1 < length p = octet-inside p (at + 1) (rw r (omega arith)) in
            rw (next_double (eqb-true (octet p at) 34 e) r) (omega arith, omega arith)
        go true false e f = rw (next_single (eqb-false (octet p (at + 1)) 34 f)) (omega arith, omega arith)
        go false b e f = rw (next_other (eqb-false (octet p at) 34 e)) (omega arith, omega arith)

-- the first character is the octet at the place
pub character_first : (p : List ℕ) (at : ℕ) → octet (undoubled (drop at p)) 0 ≡ octet p at
character_first p at = go (leb (length p) at) refl
  where
    go : (t : Bool) → leb (length p) at ≡ t → octet (undoubled (drop at p)) 0 ≡ octet p at
    go true e = let h : length p ≤ at = leb-true (length p) at e in rw (characters-none p at h) (octet-past p at h)
    go false e = rw (characters-cons p at (leb-false (length p) at e))
