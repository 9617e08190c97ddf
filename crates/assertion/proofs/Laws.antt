-- Laws of the definitions, for this crate's proofs and for the layers above.
use mathlib.Core.Path.{◌≡◌, refl, sym, ap, ◌∙◌}
use mathlib.Core.Bool.{Bool, true, false, ◌&&◌, false≢true}
use mathlib.Core.List.{List, [], ◌∷◌, ◌++◌}
use Rattle.std.specs.Prelude.{Option, None, Some, MatchOption, ◌≢◌}
use Rattle.std.specs.List.{list_all}
use Prim.Native.Nat.{ℕ, zero, suc, ◌≤◌, ◌<◌, ◌+◌, ◌-◌}
use native.Mathlib.Omega.{arith}
use borrow.Author.Tests.{eq-eqb, ne_eqb}
use lib.Dec.{eqb}
use lib.ListN.{length, take, drop, length-take, length-append}
use lib.Seq.{take-take}
use Rattle.octets.specs.Pick.{pick, no, bind}
use Rattle.octets.specs.Octets.{octet, part, every}
use Rattle.octets.specs.Inner.Answers.{between}
use Rattle.octets.specs.Text.{starts, trimmed}
use Rattle.octets.specs.Quoted.{closing, closing_at}
use Rattle.octets.proofs.Laws.{both_true, rest-length}
use Rattle.assertion.specs.Spaces.{open_brace, close_brace, comma}
use Rattle.assertion.specs.ValueText.{brace_from, brace_at}
use Rattle.assertion.specs.Assertion.{comma_from}
use Rattle.assertion.specs.Inner.Places.{word_at}

-- ---- what there is, or nothing
pub some_is : {A : Type 0} {a b : A} → Some a ≡ Some b → a ≡ b
some_is e = cc

pub none_not : {A : Type 0} {a : A} → None ≡ Some a → ⊥
none_not {A} {a} e = let z : ◌≡◌ {A = ℕ} 0 1 = cc in omega arith

-- a thing under a test is there: the test holds
pub if_some : {A : Type 0} (t : Bool) (a b : A) → pick t (Some a) None ≡ Some b → (t ≡ true) × (a ≡ b)
if_some true a b e = (refl, some_is e)
if_some false a b e = absurd (none_not e)

pub if_none : {A : Type 0} (t : Bool) (a : A) → pick t (Some a) None ≡ None → t ≡ false
if_none true a e = absurd (none_not (sym e))
if_none false a e = refl

-- what follows is there: so is what it follows
pub bind-some : {A B : Type 0} (o : Option A) (f : A → Option B) (b : B) → bind o f ≡ Some b → (a : A) × ((o ≡ Some a) × (f a ≡ Some b))
bind-some None f b e = absurd (none_not e)
bind-some (Some a) f b e = (a, (refl, e))

-- a test of every octet, as the library has it
pub every-all : (f : ℕ → Bool) (s : List ℕ) → every f s ≡ list_all f s
unfolding every
every-all f [] = refl
every-all f (b ∷ s) = go (f b) (every-all f s)
  where
    go : (t : Bool) → every f s ≡ list_all f s → pick t (every f s) false ≡ (t && list_all f s)
    go true e = e
    go false e = refl

-- what a place says
module _ (r : Option ℕ) {x : Option ℕ} (e : r ≡ x) where
  pub at_place : (p : ℕ) → r ≡ Some p → x ≡ Some p
  at_place p q = sym e ∙ q

  pub at_none : r ≡ None → x ≡ None
  at_none q = sym e ∙ q

-- ---- words
-- a word at the start of a text is no longer than it
starts-short : (w l : List ℕ) → starts w l ≡ true → length w ≤ length l
unfolding starts
starts-short [] l e = omega arith
starts-short (a ∷ w) [] e = absurd (false≢true e)
starts-short (a ∷ w) (b ∷ l) e =
    let r = starts-short w l (both_true (eqb b a) (starts w l) e).1 in
    omega arith

pub starts-fits : (w s : List ℕ) (at : ℕ) → starts w (drop at s) ≡ true → length w ≤ length s - at
starts-fits w s at e = rw (← rest-length s at) (starts-short w (drop at s) e)

module _ (w s : List ℕ) (at : ℕ) (r : Option ℕ) (e : r ≡ word_at w s at) where
  pub word_there : (p : ℕ) → r ≡ Some p → (starts w (drop at s) ≡ true) × (at + length w ≡ p)
  unfolding word_at
  word_there p q = if_some (starts w (drop at s)) (at + length w) p (at_place r e p q)

  pub word_not : r ≡ None → starts w (drop at s) ≡ false
  unfolding word_at
  word_not q = if_none (starts w (drop at s)) (at + length w) (at_none r e q)

-- ---- spaces at the end
pub trimmed-space : (l : List ℕ) → trimmed (l ++ (32 ∷ [])) ≡ trimmed l
unfolding trimmed
trimmed-space [] = refl
trimmed-space (b ∷ l) = rw (trimmed-space l)

pub trimmed-other : (l : List ℕ) (b : ℕ) → (b ≡ 32 → ⊥) → trimmed (l ++ (b ∷ [])) ≡ l ++ (b ∷ [])
unfolding trimmed
trimmed-other [] b n = rw (ne_eqb b 32 n)
trimmed-other (a ∷ l) b n =
    let more : length (l ++ (b ∷ [])) ≡ 0 → ⊥ = λ e. omega (arith, length-append l (b ∷ [])) in
    rw (trimmed-other l b n, ne_eqb _ 0 more)

-- where all are spaces
trimmed-none : (t : List ℕ) → ((k : ℕ) → k < length t → octet t k ≡ 32) → trimmed t ≡ []
unfolding trimmed
trimmed-none [] h = refl
trimmed-none (b ∷ t) h =
    let rest : trimmed t ≡ [] = trimmed-none t (λ k l. h (suc k) (omega arith)) in
    rw (rest, eq-eqb b 32 (h 0 (omega arith)))

-- where the octet at i is the last that is none
trimmed-last : (t : List ℕ) (i : ℕ) → i < length t → (octet t i ≡ 32 → ⊥) → ((k : ℕ) → i < k → k < length t → octet t k ≡ 32) → length (trimmed t) ≡ i + 1
unfolding trimmed
trimmed-last [] i l n h = absurd (omega arith)
trimmed-last (b ∷ t) zero l n h =
    let rest : trimmed t ≡ [] = trimmed-none t (λ k m. h (suc k) (omega arith) (omega arith)) in
    rw (rest, ne_eqb b 32 n)
trimmed-last (b ∷ t) (suc i) l n h =
    let rest : length (trimmed t) ≡ i + 1 = trimmed-last t i (omega arith) n (λ k m q. h (suc k) (omega arith) (omega arith)) in
    let more : length (trimmed t) ≡ 0 → ⊥ = omega arith in
    rw (ne_eqb _ 0 more) (omega arith)

-- the last octet that is no space stands there, or there is none
abbrev pub LastOther : List ℕ → Option ℕ → Type 0
LastOther t r = MatchOption r ((k : ℕ) → k < length t → octet t k ≡ 32)
    (λ i. (i < length t) × (octet t i ≢ 32) × ((k : ℕ) → i < k → k < length t → octet t k ≡ 32))

pub trimmed-is : (t : List ℕ) (r : Option ℕ) (n : ℕ) → LastOther t r → MatchOption r (n ≡ 0) (λ i. n ≡ i + 1) → n ≡ length (trimmed t)
trimmed-is t None n h e = e ∙ sym (ap length (trimmed-none t h))
trimmed-is t (Some i) n h e = e ∙ sym (trimmed-last t i h.0 h.1 h.2)

trimmed-start : (l : List ℕ) → take (length (trimmed l)) l ≡ trimmed l
unfolding trimmed
trimmed-start [] = refl
trimmed-start (b ∷ l) = go (eqb (length (trimmed l)) 0) (eqb b 32) (trimmed-start l)
  where
    go : (t u : Bool) → take (length (trimmed l)) l ≡ trimmed l
        → take (length (pick t (pick u [] (b ∷ trimmed l)) (b ∷ trimmed l))) (b ∷ l) ≡ pick t (pick u [] (b ∷ trimmed l)) (b ∷ trimmed l)
    go true true e = refl
    go true false e = ap (λ (r : List ℕ). b ∷ r) e
    go false u e = ap (λ (r : List ℕ). b ∷ r) e

trimmed_le : (l : List ℕ) → length (trimmed l) ≤ length l
unfolding trimmed
trimmed_le [] = omega arith
trimmed_le (b ∷ l) = go (eqb (length (trimmed l)) 0) (eqb b 32) (trimmed_le l)
  where
    go : (t u : Bool) → length (trimmed l) ≤ length l → length (pick t (pick u [] (b ∷ trimmed l)) (b ∷ trimmed l)) ≤ suc (length l)
    go true true h = omega arith
    go true false h = omega arith
    go false u h = omega arith

-- n octets from a place on are the text without its spaces at the end
pub trimmed-part : (s : List ℕ) (at brace n : ℕ) → n ≡ length (trimmed (part s at (brace - at))) → (n ≤ brace - at) × (between s at (at + n) ≡ trimmed (part s at (brace - at)))
trimmed-part s at brace n e =
    let l = part s at (brace - at) in
    let h : n ≤ brace - at = omega (arith, trimmed_le l, length-take (brace - at) (drop at s)) in
    let z : at + n - at ≡ n = omega arith in
    (h, ap (part s at) z ∙ sym (take-take n (brace - at) (drop at s) h) ∙ ap (λ (k : ℕ). take k l) e ∙ trimmed-start l)

-- ---- places within a text
-- a place that is found stands from lo on, before hi
abbrev pub Within : ℕ → ℕ → Option ℕ → Type 0
Within lo hi o = (k : ℕ) → o ≡ Some k → (lo ≤ k) × (k < hi)

within_none : (lo hi : ℕ) → Within lo hi None
within_none lo hi k e = absurd (none_not e)

within_some : (lo hi p : ℕ) → lo ≤ p → p < hi → Within lo hi (Some p)
within_some lo hi p h l k e = let z = some_is e in (omega arith, omega arith)

within-pick : (lo hi : ℕ) (t : Bool) (a b : Option ℕ) → Within lo hi a → Within lo hi b → Within lo hi (pick t a b)
within-pick lo hi true a b f g = f
within-pick lo hi false a b f g = g

-- the same from a place further on, in a shorter rest
within-rest : (at n : ℕ) (o : Option ℕ) → Within (at + 1) (at + 1 + n) o → Within at (at + suc n) o
within-rest at n o f k e = let r = f k e in (omega arith, omega arith)

brace-from : (l : List ℕ) (at inner : ℕ) (quoted : Bool) → Within at (at + length l) (brace_from l at inner quoted)
unfolding brace_from
brace-from [] at inner quoted = within_none at (at + 0)
brace-from (b ∷ l) at inner quoted =
    let hi = at + suc (length l) in
    let turned = within-rest at (length l) _ (brace-from l (at + 1) inner (no quoted)) in
    let further = within-rest at (length l) _ (brace-from l (at + 1) inner quoted) in
    let deeper = within-rest at (length l) _ (brace-from l (at + 1) (inner + 1) quoted) in
    let higher = within-rest at (length l) _ (brace-from l (at + 1) (inner - 1) quoted) in
    let here = within_some at hi at (omega arith) (omega arith) in
    within-pick at hi (eqb b 34) _ _ turned
    (within-pick at hi quoted _ _ further
    (within-pick at hi (eqb b open_brace) _ _ deeper
    (within-pick at hi (eqb b close_brace) _ _ (within-pick at hi (eqb inner 0) _ _ here higher) further)))

comma-from : (l : List ℕ) (at : ℕ) → Within at (at + length l) (comma_from l at)
unfolding comma_from
comma-from [] at = within_none at (at + 0)
comma-from (b ∷ l) at =
    within-pick at (at + suc (length l)) (eqb b comma) _ _ (within_some at (at + suc (length l)) at (omega arith) (omega arith)) (within-rest at (length l) _ (comma-from l (at + 1)))

closing-from : (l : List ℕ) (at : ℕ) → Within at (at + length l) (closing l at)
unfolding closing
closing-from [] at = within_none at (at + 0)
closing-from (b ∷ []) at = within-pick at (at + 1) (eqb b 34) _ _ (within_some at (at + 1) at (omega arith) (omega arith)) (within_none at (at + 1))
closing-from (b ∷ c ∷ l) at =
    let hi = at + suc (suc (length l)) in
    let here = within_some at hi at (omega arith) (omega arith) in
    let one = within-rest at (suc (length l)) _ (closing-from (c ∷ l) (at + 1)) in
    let double : Within at hi (closing l (at + 2)) = λ k e. let r = closing-from l (at + 2) k e in (omega arith, omega arith) in
    within-pick at hi (eqb b 34) _ _ (within-pick at hi (eqb c 34) _ _ double here) one

module _ (s : List ℕ) (at b : ℕ) where
  pub brace-within : brace_at s at ≡ Some b → (at ≤ b) × (b < length s)
  unfolding brace_at
  brace-within e = let r = brace-from (drop at s) at 0 false b e in (omega arith, omega (arith, rest-length s at))

  pub comma-within : comma_from (drop at s) at ≡ Some b → (at ≤ b) × (b < length s)
  comma-within e = let r = comma-from (drop at s) at b e in (omega arith, omega (arith, rest-length s at))

  pub closing-within : closing_at s at ≡ Some b → (at < b) × (b < length s)
  unfolding closing_at
  closing-within e = go (eqb (octet s at) 34) e
    where
      go : (t : Bool) → pick t (closing (drop (at + 1) s) (at + 1)) None ≡ Some b → (at < b) × (b < length s)
      go true f = let r = closing-from (drop (at + 1) s) (at + 1) b f in (omega arith, omega (arith, rest-length s (at + 1)))
      go false f = absurd (none_not f)
