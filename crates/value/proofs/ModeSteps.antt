-- A tag octet that stands for a tag mode, and how a member is tagged.
use mathlib.Core.Path.{◌≡◌, refl, sym, ap, ap₂, ◌∙◌}
use mathlib.Core.Bool.{Bool, true, false}
use Prim.Native.Nat.{ℕ}
use native.Mathlib.Omega.{arith}
use borrow.Author.Tests.{eq-eqb, ne_eqb, eqb-true, eqb-false}
use lib.Dec.{eqb}
use Rattle.octets.specs.Pick.{pick}
use Rattle.der.specs.Tag.{wrapper_octet}
use Rattle.types.specs.Types.{untagged, implicit, tagging_of}
use Rattle.table.specs.Inner.Words.{first_octet, is_basic, how}
use Rattle.table.proofs.KindLaws.{basic_kind}
use Rattle.value.specs.Decode.{tag_octet}

pub own_tag : (f k n : ℕ) → f ≡ first_octet untagged k → (k ≡ 13 → ⊥) → (f ≡ tag_octet (tagging_of 0 0) k) × (f ≡ tag_octet (tagging_of 1 n) k)
unfolding first_octet tagging_of
own_tag f k n e h = let q = e ∙ ap (λ (x : Bool). pick x 0 (tag_octet untagged k)) (ne_eqb k 13 h) in (q, q)

pub mode_tag : (f k mode n : ℕ) → f ≡ first_octet (tagging_of mode n) k → (mode ≡ 1 → ⊥) → (k ≡ 13 → ⊥) → f ≡ tag_octet (tagging_of mode n) k
unfolding first_octet tagging_of
mode_tag f k mode n e h g = e ∙ rw (ne_eqb mode 1 h) (go (eqb mode 0))
  where
    go : (x : Bool) → first_octet (pick x untagged (implicit n)) k ≡ tag_octet (pick x untagged (implicit n)) k
    go true = ap (λ (x : Bool). pick x 0 (tag_octet untagged k)) (ne_eqb k 13 g)
    go false = refl

pub mode_wrapper : (f k mode n : ℕ) → f ≡ first_octet (tagging_of mode n) k → mode ≡ 1 → f ≡ wrapper_octet n
unfolding first_octet tagging_of
mode_wrapper f k mode n e h = e ∙ rw h

module _ (k mode h : ℕ) (read : h ≡ how k mode) where
  cases : (x y : Bool) → eqb mode 1 ≡ x → is_basic k ≡ y → h ≡ pick x 1 (pick y 0 2)
  unfolding how
  cases x y p q = read ∙ ap₂ (λ (a b : Bool). pick a 1 (pick b 0 2)) p q

  pub is_plain : h ≡ 0 → how k mode ≡ 0
  is_plain z = sym read ∙ z

  pub is-other : (h ≡ 0 → ⊥) → how k mode ≡ 0 → ⊥
  is-other z e = z (read ∙ e)

  pub is-explicit : h ≡ 1 → mode ≡ 1
  is-explicit z = go (eqb mode 1) refl (is_basic k) refl
    where
      go : (x : Bool) → eqb mode 1 ≡ x → (y : Bool) → is_basic k ≡ y → mode ≡ 1
      go true p y q = eqb-true mode 1 p
      go false p true q = absurd (let a = cases false true p q in omega arith)
      go false p false q = absurd (let a = cases false false p q in omega arith)

  pub not_explicit : (h ≡ 1 → ⊥) → mode ≡ 1 → ⊥
  not_explicit z e = z (cases true (is_basic k) (eq-eqb mode 1 e) refl)

-- a plain member: of a basic type, under no tag or an implicit one
module _ (k mode : ℕ) (plain : how k mode ≡ 0) where
  parts : (mode ≡ 1 → ⊥) × (is_basic k ≡ true)
  unfolding how
  parts = go (eqb mode 1) refl (is_basic k) refl plain
    where
      go : (x : Bool) → eqb mode 1 ≡ x → (y : Bool) → is_basic k ≡ y → ◌≡◌ {A = ℕ} (pick x 1 (pick y 0 2)) 0 → (mode ≡ 1 → ⊥) × (is_basic k ≡ true)
      go true p y q e = absurd (omega arith)
      go false p true q e = (eqb-false mode 1 p, q)
      go false p false q e = absurd (omega arith)

  pub plain-mode : mode ≡ 1 → ⊥
  plain-mode = parts.0

  pub plain_basic : is_basic k ≡ true
  plain_basic = parts.1

  pub plain-choice : k ≡ 13 → ⊥
  plain-choice = (basic_kind k plain_basic).1

  pub plain_tag : (n f : ℕ) → f ≡ first_octet (tagging_of mode n) k → f ≡ tag_octet (tagging_of mode n) k
  plain_tag n f e = mode_tag f k mode n e plain-mode plain-choice
