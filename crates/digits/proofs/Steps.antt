-- Tests of every digit, and stored octets against pairs of digits; the premises are the facts as the code has them.
use mathlib.Core.Path.{◌≡◌, refl, sym, ap, ap₂, ◌∙◌}
use mathlib.Core.Bool.{Bool, true, false}
use mathlib.Core.List.{List, ◌∷◌}
use Prim.Native.Nat.{ℕ, ◌≤◌, ◌<◌, ◌+◌, ◌-◌, ◌*◌}
use native.Mathlib.Omega.{arith}
use lib.ListN.{length, drop}
use Rattle.std.specs.Prelude.{Option, None, Some, MatchBool}
use Rattle.std.specs.declared.cmp.Ordering.{Ordering}
use Rattle.std.specs.declared.cmp.Ordering.TheVariants.{Greater}
use Rattle.std.specs.Ordering.{is_eq, is_lt, nat_cmp}
use Rattle.std.specs.Cmp.Lexicographic.{slice_cmp}
use Rattle.std.specs.List.{AllWithin, HoldsAt}
use Rattle.std.proofs.lemmas.Cmp.{same_from_slice_cmp}
use Rattle.std.proofs.lemmas.Bool.Decides.{nat_tests}
use Rattle.octets.specs.Octets.{octet, every, same, below, nibble, paired}
use Rattle.octets.proofs.Laws.{rest-cons, rest-none}
use Rattle.octets.proofs.TextLaws.{every-is, every-at, paired-nil, paired-one, paired-two}
use Rattle.digits.specs.Inner.Answers.{report_pair}
use Rattle.digits.specs.declared.Pair.{Pair}

-- ---- a test of every octet, by a chain: it held of all, or not of one
pub every_told : (f : ℕ → Bool) (s : List ℕ) (r : Bool)
    → MatchBool r (AllWithin (λ x. f x ≡ true) s 0 (length s)) ((k : ℕ) × (k < length s) × HoldsAt (λ x. f x ≡ false) s k) → r ≡ every f s
every_told f s true h = sym (every-is f s (λ i l. h i 0 (omega arith) l))
every_told f s false (k, l, e) = go (every f s) refl
  where
    go : (u : Bool) → every f s ≡ u → false ≡ u
    go true q = sym (e 0) ∙ every-at f s k q l
    go false q = refl

-- ---- pairs of digits
module _ (h : List ℕ) (j : ℕ) where
  pub pair-none : length h ≤ j → report_pair h None ≡ paired (drop j h)
  pair-none l = sym (ap paired (rest-none h j l) ∙ paired-nil)

  module _ (l : j < length h) where
    pub pair_one : length h - j < 2 → report_pair h None ≡ paired (drop j h)
    pair_one g =
        let z : length h ≤ j + 1 = omega arith in
        sym (ap paired (rest-cons h j l ∙ ap (λ (x : List ℕ). octet h j ∷ x) (rest-none h (j + 1) z)) ∙ paired-one (octet h j))

    pub pair_is : (n : ℕ) → 2 ≤ length h - j → n ≡ nibble (octet h j) * 16 + nibble (octet h (j + 1))
        → report_pair h (Some (record { octet = n; after = j + 2 })) ≡ paired (drop j h)
    pair_is n g e =
        let z : j + 1 < length h = omega arith in
        let q : j + 1 + 1 ≡ j + 2 = omega arith in
        let second : drop (j + 1) h ≡ octet h (j + 1) ∷ drop (j + 2) h = rest-cons h (j + 1) z ∙ ap (λ (k : ℕ). octet h (j + 1) ∷ drop k h) q in
        rw e (sym (ap paired (rest-cons h j l ∙ ap (λ (x : List ℕ). octet h j ∷ x) second) ∙ paired-two (octet h j) (octet h (j + 1)) (drop (j + 2) h)))

-- ---- order
-- the pairs end before the stored octets
pub order_more : (c h : List ℕ) (i j : ℕ) (r : Option Pair) (m : Ordering) → slice_cmp nat_cmp (drop i c) (paired (drop j h)) ≡ m
    → report_pair h r ≡ paired (drop j h) → i < length c → r ≡ None → Greater ≡ m
order_more c h i j r m inv read l e = ap₂ (slice_cmp nat_cmp) (sym (rest-cons c i l)) (sym (ap (report_pair h) e) ∙ read) ∙ inv

module _ (c h : List ℕ) (o : Ordering) (r : Bool) (told : o ≡ slice_cmp nat_cmp c (paired h)) where
  pub same_hex_is : r ≡ is_eq o → r ≡ same c (paired h)
  unfolding same
  same_hex_is e = e ∙ same_from_slice_cmp nat_cmp is_eq same refl (λ _ _. refl) (λ _ _. refl) (λ x y xs ys o h. grind (arith, nat_tests)) c (paired h) o told

  pub less_hex_is : r ≡ is_lt o → r ≡ below c (paired h)
  unfolding below
  less_hex_is e = e ∙ same_from_slice_cmp nat_cmp is_lt below refl (λ _ _. refl) (λ _ _. refl) (λ x y xs ys o h. grind (arith, nat_tests)) c (paired h) o told
