-- Quoted strings: the definitions by their cases, and texts without a quote, as laws for the layers above.
use mathlib.Core.Path.{◌≡◌, refl, sym, ap, ◌∙◌}
use mathlib.Core.Bool.{Bool, true, false, false≢true}
use Rattle.std.specs.Prelude.{None, Some}
use mathlib.Core.List.{List, [], ◌∷◌}
use Prim.Native.Nat.{ℕ, suc, ◌+◌, ◌-◌}
use native.Mathlib.Omega.{arith}
use borrow.Author.Tests.{eq-eqb, ne_eqb, le-leb}
use lib.Dec.{leb, eqb}
use lib.ListN.{length}
use Rattle.octets.specs.Pick.{pick, both, no}
use Rattle.octets.specs.Octets.{part, every}
use Rattle.octets.specs.Quoted.{closing_at, undoubled, characters, unquoted}
use Rattle.octets.proofs.Laws.{both_true}

-- ---- one quote for two
pub undoubled-nil : undoubled [] ≡ []
unfolding undoubled
undoubled-nil = refl

pub undoubled-one : (b : ℕ) → undoubled (b ∷ []) ≡ b ∷ []
unfolding undoubled
undoubled-one b = refl

pub undoubled-two : (b c : ℕ) (s : List ℕ) → undoubled (b ∷ c ∷ s) ≡ pick (both (eqb b 34) (eqb c 34)) (34 ∷ undoubled s) (b ∷ undoubled (c ∷ s))
unfolding undoubled
undoubled-two b c s = refl

-- an octet that is no quote stands for itself
pub undoubled-other : (b : ℕ) (s : List ℕ) → (b ≡ 34 → ⊥) → undoubled (b ∷ s) ≡ b ∷ undoubled s
unfolding undoubled
undoubled-other b [] n = refl
undoubled-other b (c ∷ s) n = rw (ne_eqb b 34 n)

-- there are characters where there are octets
pub undoubled_some : (s : List ℕ) → leb 1 (length (undoubled s)) ≡ leb 1 (length s)
unfolding undoubled
undoubled_some [] = refl
undoubled_some (b ∷ []) = refl
undoubled_some (b ∷ c ∷ s) = go (both (eqb b 34) (eqb c 34)) ∙ sym (le-leb 1 (suc (suc (length s))) (omega arith))
  where
    go : (u : Bool) → leb 1 (length (pick u (34 ∷ undoubled s) (b ∷ undoubled (c ∷ s)))) ≡ true
    go true = le-leb 1 (suc (length (undoubled s))) (omega arith)
    go false = le-leb 1 (suc (length (undoubled (c ∷ s)))) (omega arith)

-- ---- texts without a quote
abbrev pub no_quote : ℕ → Bool
no_quote b = no (eqb b 34)

pub undoubled-plain : (s : List ℕ) → every no_quote s ≡ true → undoubled s ≡ s
unfolding every
undoubled-plain [] e = undoubled-nil
undoubled-plain (b ∷ s) e = undoubled-other b s (λ q. differ (eqb b 34) (eq-eqb b 34 q) w.0) ∙ ap (λ (x : List ℕ). b ∷ x) (undoubled-plain s w.1)
  where
    w : (no (eqb b 34) ≡ true) × (every no_quote s ≡ true)
    w = both_true (no (eqb b 34)) (every no_quote s) e

    differ : (t : Bool) → t ≡ true → no t ≡ true → ⊥
    differ true h q = false≢true q
    differ false h q = false≢true h

pub undoubled-quoted : (s : List ℕ) → every no_quote s ≡ false → every no_quote (undoubled s) ≡ false
unfolding undoubled every
undoubled-quoted [] e = e
undoubled-quoted (b ∷ []) e = e
undoubled-quoted (b ∷ c ∷ s) e = go (eqb b 34) (eqb c 34) refl (undoubled-quoted (c ∷ s)) e
  where
    go : (u v : Bool) → eqb b 34 ≡ u → (every no_quote (c ∷ s) ≡ false → every no_quote (undoubled (c ∷ s)) ≡ false) → both (no u) (every no_quote (c ∷ s)) ≡ false
        → every no_quote (pick (both u v) (34 ∷ undoubled s) (b ∷ undoubled (c ∷ s))) ≡ false
    go true true q f h = refl
    go true false q f h = rw q
    go false v q f h = rw (q, f h)

-- ---- a text that is one quoted string
module _ (s : List ℕ) where
  pub unquoted-none : closing_at s 0 ≡ None → unquoted s ≡ None
  unfolding unquoted
  unquoted-none e = rw e

  module _ (close : ℕ) (e : closing_at s 0 ≡ Some close) where
    pub unquoted_longer : (close + 1 ≡ length s → ⊥) → unquoted s ≡ None
    unfolding unquoted
    unquoted_longer n = rw (e, ne_eqb (close + 1) (length s) n)

    pub unquoted-whole : close + 1 ≡ length s → unquoted s ≡ Some (undoubled (part s 1 (close - 1)))
    unfolding unquoted characters
    unquoted-whole q = rw (e, eq-eqb (close + 1) (length s) q)
