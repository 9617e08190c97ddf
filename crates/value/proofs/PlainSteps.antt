-- Plain members: one lemma for each return of their functions, and what they say by decoding.
use Rattle.std.specs.Prelude.{Some}
use mathlib.Core.Path.{◌≡◌, refl, sym, ap, ap₂, ◌∙◌}
use mathlib.Core.Bool.{Bool, true, false}
use mathlib.Core.List.{List}
use Prim.Native.Nat.{ℕ, ◌+◌, ◌-◌}
use native.Mathlib.Omega.{arith}
use lib.Dec.{eqb}
use Rattle.std.specs.Prelude.{Option, None}
use Rattle.octets.specs.Pick.{pick, both}
use Rattle.octets.specs.Octets.{part, same}
use Rattle.der.specs.Header.{inside_at, opened}
use Rattle.der.specs.Legal.{legal}
use Rattle.rows.specs.Row.{mode_at, number_at, presence_at, default_at}
use Rattle.types.specs.Types.{tagging_of, NamedBit, basic}
use Rattle.table.specs.Inner.Words.{first_octet, how}
use Rattle.value.specs.Decode.{tag_octet, leaf_of, unwrapped, decode}
use Rattle.value.specs.Inner.Work.{checked, up_to, contents_at, holds, is_default_at, plain_of, plain_checked}
use Rattle.value.proofs.LeafSteps.{contents-plain}
use Rattle.value.proofs.ModeSteps.{plain-mode, plain_tag}
use Rattle.value.proofs.CheckSteps.{told_leaf, bare-decode}

-- ---- the check of one
module _ (t : List ℕ) (p k : ℕ) (v : List ℕ) (at end f : ℕ) (h : Option (ℕ × ℕ)) (plain : how k (mode_at t p) ≡ 0)
    (first : f ≡ first_octet (tagging_of (mode_at t p) (number_at t p)) k)
    (opening : h ≡ inside_at f v at end) where
  is_open : (i : Option (ℕ × ℕ)) → h ≡ i → inside_at (tag_octet (tagging_of (mode_at t p) (number_at t p)) k) v at end ≡ i
  is_open i e = ap (λ (x : ℕ). inside_at x v at end) (sym (plain_tag k (mode_at t p) plain (number_at t p) f first)) ∙ sym opening ∙ e

  pub plain-misfit : h ≡ None → None ≡ plain_checked t p k (tagging_of (mode_at t p) (number_at t p)) v at end
  unfolding plain_checked
  plain-misfit e = rw (is_open None e)

  module _ (start n : ℕ) (found : h ≡ Some (start, n)) (x : Bool) (compared : x ≡ is_default_at t p v start n) where
    by-contents : plain_checked t p k (tagging_of (mode_at t p) (number_at t p)) v at end ≡ pick x None (up_to (start + n) (legal k (part v start n)))
    unfolding plain_checked
    by-contents = rw (is_open (Some (start, n)) found, ← compared)

    pub plain-default : x ≡ true → None ≡ plain_checked t p k (tagging_of (mode_at t p) (number_at t p)) v at end
    plain-default e = rw (by-contents, e)

    pub plain-is : (q : ℕ) (r : Option ℕ) → x ≡ false → q ≡ k → r ≡ up_to (start + n) (legal q (part v start (start + n - start)))
        → r ≡ plain_checked t p k (tagging_of (mode_at t p) (number_at t p)) v at end
    plain-is q r e j told =
        let l : start + n - start ≡ n = omega arith in
        told ∙ ap₂ (λ (y z : ℕ). up_to (start + n) (legal y (part v start z))) j l
        ∙ sym (by-contents ∙ ap (λ (y : Bool). pick y None (up_to (start + n) (legal k (part v start n)))) e)

-- ---- a plain member's type is basic, and it has no wrapper: it is told by its decoding, unless it is its default
module _ (k mode : ℕ) (plain : how k mode ≡ 0) where
  pub plain-decoded : (names : List NamedBit) (t : List ℕ) (p n : ℕ) (v : List ℕ) (at end : ℕ)
      → plain_checked t p k (tagging_of mode n) v at end
      ≡ pick (both (eqb (presence_at t p) 2) (holds v (default_at t p) (contents_at (tagging_of mode n) k v at end))) None
      (checked (decode (basic k names) (tagging_of mode n) v at end))
  unfolding plain_checked is_default_at unwrapped
  plain-decoded names t p n v at end =
      rw (
        bare-decode (basic k names) v at end mode n (plain-mode k mode plain),
        ← contents-plain mode n k v at end (tag_octet (tagging_of mode n) k) (inside_at (tag_octet (tagging_of mode n) k) v at end)
            (plain-mode k mode plain) refl refl,
      )
      (go (inside_at (tag_octet (tagging_of mode n) k) v at end))
    where
      same-bad : (x : Bool) → ◌≡◌ {A = Option ℕ} None (pick (both x false) None None)
      same-bad true = refl
      same-bad false = refl

      go : (i : Option (ℕ × ℕ)) → plain_of t p k v i ≡ pick (both (eqb (presence_at t p) 2) (holds v (default_at t p) i)) None (checked (opened i (leaf_of k v at)))
      go None = same-bad (eqb (presence_at t p) 2)
      go (Some (start, c)) = ap (pick (both (eqb (presence_at t p) 2) (same (part v start c) (default_at t p))) None) (sym (told_leaf k v at start c))
