-- Arcs that can be stored: laws for the layers above.
use mathlib.Core.Path.{◌≡◌, refl, sym, ap, ◌∙◌}
use mathlib.Core.Bool.{Bool, true, false, false≢true}
use Rattle.std.specs.Prelude.{Option, None, Some}
use mathlib.Core.List.{List, [], ◌∷◌}
use Prim.Native.Nat.{ℕ, zero, suc, ◌≤◌, ◌<◌, ◌+◌, ◌-◌, ◌*◌, ◌%◌}
use native.Mathlib.Omega.{arith}
use borrow.Author.Tests.{lt-ltb, ltb-true, ltb-false, leb-true}
use lib.Dec.{ltb, leb, eqb}
use lib.ListN.{length}
use Rattle.octets.specs.Pick.{pick, both, no, consed}
use Rattle.octets.specs.Octets.{same, every}
use Rattle.octets.proofs.Laws.{both_true}
use Rattle.octets.proofs.TextLaws.{every-nil, every-cons, same-is}
use Rattle.der.specs.Contents.{subs_from, subidentifiers, legal_subs, legal_oid}
use Rattle.der.specs.Meaning.{arcs_from, arcs_of}
use Rattle.der.specs.Dotted.{dotted_arcs}
use Rattle.dotted.specs.Inner.Stored.{is_small, fitting}

-- ---- what fits
small-fitting : (k : ℕ) (l : List ℕ) → every is_small l ≡ true → length l ≤ k → fitting k l ≡ true
unfolding fitting
small-fitting k [] e h = refl
small-fitting zero (n ∷ l) e h = absurd (omega arith)
small-fitting (suc k) (n ∷ l) e h = let q = both_true (is_small n) (every is_small l) (sym (every-cons is_small n l) ∙ e) in rw q.0 (small-fitting k l q.1 (omega arith))

-- ---- stored arcs fit
abbrev small_subs : Option (List ℕ) → Bool
small_subs None = true
small_subs (Some l) = every is_small l

subs_small : (inside : Bool) (n : ℕ) (s : List ℕ) → small_subs (subs_from inside n s) ≡ true
unfolding subs_from
subs_small true n [] = refl
subs_small false n [] = every-nil is_small
subs_small inside n (b ∷ s) =
    go (both (no inside) (eqb b 128)) (ltb 4294967295 (n * 128 + b % 128)) (leb 128 b) refl (subs_small true (n * 128 + b % 128) s) (subs_small false 0 s)
  where
    onto : (m : ℕ) (o : Option (List ℕ)) → m < 4294967296 → small_subs o ≡ true → small_subs (consed m o) ≡ true
    onto m None h e = refl
    onto m (Some l) h e = every-cons is_small m l ∙ rw (lt-ltb m 4294967296 h) e

    go : (x y z : Bool) → ltb 4294967295 (n * 128 + b % 128) ≡ y → small_subs (subs_from true (n * 128 + b % 128) s) ≡ true → small_subs (subs_from false 0 s) ≡ true
        → small_subs (pick x None (pick y None (pick z (subs_from true (n * 128 + b % 128) s) (consed (n * 128 + b % 128) (subs_from false 0 s))))) ≡ true
    go true y z e f g = refl
    go false true z e f g = refl
    go false false true e f g = f
    go false false false e f g =
        let h : n * 128 + b % 128 < 4294967296 = omega (arith, ltb-false 4294967295 (n * 128 + b % 128) e) in
        onto (n * 128 + b % 128) (subs_from false 0 s) h g

two-fit : (a b : ℕ) (l : List ℕ) → a < 4294967296 → b < 4294967296 → every is_small l ≡ true → length l ≤ 31 → fitting 33 (a ∷ b ∷ l) ≡ true
two-fit a b l f g e h =
    small-fitting 33 (a ∷ b ∷ l) (every-cons is_small a (b ∷ l) ∙ rw (lt-ltb a 4294967296 f) (every-cons is_small b l ∙ rw (lt-ltb b 4294967296 g) e)) (omega arith)

arcs-fit : (o : Option (List ℕ)) → small_subs o ≡ true → legal_subs o ≡ true → fitting 33 (arcs_from o) ≡ true
unfolding fitting
arcs-fit None e f = refl
arcs-fit (Some []) e f = refl
arcs-fit (Some (n ∷ l)) e f = go (ltb n 40) (ltb n 80)
  where
    few : length l ≤ 31
    few = let q : suc (length l) ≤ 32 = leb-true _ _ (both_true (leb 1 (suc (length l))) (leb (suc (length l)) 32) f).1 in omega arith

    first : n < 4294967296
    first = ltb-true n 4294967296 (both_true (is_small n) (every is_small l) (sym (every-cons is_small n l) ∙ e)).0

    rest : every is_small l ≡ true
    rest = (both_true (is_small n) (every is_small l) (sym (every-cons is_small n l) ∙ e)).1

    go : (x y : Bool) → fitting 33 (pick x (0 ∷ n ∷ l) (pick y (1 ∷ (n - 40) ∷ l) (2 ∷ (n - 80) ∷ l))) ≡ true
    go true y = two-fit 0 n l (omega arith) first rest few
    go false true = two-fit 1 (n - 40) l (omega arith) (omega (arith, first)) rest few
    go false false = two-fit 2 (n - 80) l (omega arith) (omega (arith, first)) rest few

pub stored-fit : (c : List ℕ) → legal_oid c ≡ true → fitting 33 (arcs_of c) ≡ true
unfolding legal_oid arcs_of subidentifiers
stored-fit c e = arcs-fit (subidentifiers c) (subs_small false 0 c) e

-- where a text's arcs don't fit, no legal contents have them
pub unfit_differs : (c t : List ℕ) → legal_oid c ≡ true → fitting 33 (dotted_arcs t) ≡ false → same (arcs_of c) (dotted_arcs t) ≡ false
unfit_differs c t legal e = go (same (arcs_of c) (dotted_arcs t)) refl
  where
    go : (u : Bool) → same (arcs_of c) (dotted_arcs t) ≡ u → u ≡ false
    go true q = absurd (false≢true (sym e ∙ ap (fitting 33) (sym (same-is (arcs_of c) (dotted_arcs t) q)) ∙ stored-fit c legal))
    go false q = refl
