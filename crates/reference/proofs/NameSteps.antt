-- Names: one lemma for each return and each turn of a loop; its premises are the facts as the code has them.
use mathlib.Core.Path.{◌≡◌, refl, sym, ap, ap₂, ◌∙◌}
use mathlib.Core.Bool.{Bool, true, false}
use mathlib.Core.List.{List, [], ◌∷◌}
use Prim.Native.Nat.{ℕ, ◌≤◌, ◌<◌, ◌+◌}
use native.Mathlib.Omega.{arith}
use native.Mathlib.Nat.{add-zero}
use borrow.Author.Tests.{eq-eqb, ne_eqb, eqb-true, eqb-false}
use lib.Dec.{eqb}
use lib.ListN.{length, drop}
use lib.Seq.{get_or-drop}
use Rattle.octets.specs.Octets.{octet, same}
use Rattle.octets.proofs.Laws.{rest-cons, rest-none}
use Rattle.octets.proofs.TextLaws.{same-nil, same_shorter, same_longer, same-cons}
use Rattle.octets.proofs.Steps.{same-lengths}
use Rattle.rows.specs.Row.{kind_at, name_at, unfilled}
use Rattle.rows.proofs.KindLaws.{wide_name}
use Rattle.rows.proofs.NameSteps.{unfilled-first, unfilled_next, unfilled-within, name-octet}

-- ---- a name without its fill
unfilled-none : unfilled [] ≡ []
unfolding unfilled
unfilled-none = refl

-- at its end the field has its fill or its end
filled-end : (s : List ℕ) → octet s (length (unfilled s)) ≡ 0
filled-end [] = refl
filled-end (b ∷ s) = go (eqb b 0) refl (filled-end s)
  where
    go : (u : Bool) → eqb b 0 ≡ u → octet s (length (unfilled s)) ≡ 0 → octet (b ∷ s) (length (unfilled (b ∷ s))) ≡ 0
    go true q r = let e = eqb-true b 0 q in rw (unfilled-first b s e) e
    go false q r = rw (unfilled_next b s (eqb-false b 0 q)) r

-- ---- a name's field, and octets
-- the field and the octets differ at their first places
first-other : (f b : ℕ) (l x : List ℕ) → (f ≡ b → ⊥) → same (unfilled (f ∷ l)) (b ∷ x) ≡ false
first-other f b l x n = go (eqb f 0) refl
  where
    go : (u : Bool) → eqb f 0 ≡ u → same (unfilled (f ∷ l)) (b ∷ x) ≡ false
    go true q = rw (unfilled-first f l (eqb-true f 0 q)) (same_shorter b x)
    go false q = rw (unfilled_next f l (eqb-false f 0 q), same-cons f b (unfilled l) x, ne_eqb f b n)

first-fill : (f b : ℕ) (l x : List ℕ) → f ≡ b → b ≡ 0 → same (unfilled (f ∷ l)) (b ∷ x) ≡ false
first-fill f b l x e z = rw (unfilled-first f l (e ∙ z)) (same_shorter b x)

first-same : (f b : ℕ) (l x : List ℕ) → f ≡ b → (b ≡ 0 → ⊥) → same (unfilled (f ∷ l)) (b ∷ x) ≡ same (unfilled l) x
first-same f b l x e n = rw (unfilled_next f l (λ z. n (sym e ∙ z)), same-cons f b (unfilled l) x, eq-eqb f b e)

named-empty : (l : List ℕ) → octet l 0 ≡ 0 → same (unfilled l) [] ≡ true
named-empty [] z = rw unfilled-none same-nil
named-empty (f ∷ l) z = rw (unfilled-first f l z) same-nil

named-first : (l x : List ℕ) → (octet l 0 ≡ octet x 0 → ⊥) → false ≡ same (unfilled l) x
named-first [] [] n = absurd (n refl)
named-first [] (b ∷ x) n = sym (rw unfilled-none (same_shorter b x))
named-first (f ∷ l) [] n = sym (rw (unfilled_next f l n) (same_longer f (unfilled l)))
named-first (f ∷ l) (b ∷ x) n = sym (first-other f b l x n)

pub name-short : (l x : List ℕ) → length l < length x → false ≡ same (unfilled l) x
name-short l x h = same-lengths (unfilled l) x (λ e. omega (arith, unfilled-within l))

-- o is the octet after as many as x has
pub name_longer : (l x : List ℕ) (o : ℕ) → o ≡ octet l (length x) → (o ≡ 0 → ⊥) → false ≡ same (unfilled l) x
name_longer l x o read n = same-lengths (unfilled l) x (λ e. n (read ∙ (rw e at (filled-end l))))

module _ (l x : List ℕ) (i : ℕ) (inv : same (unfilled (drop i l)) (drop i x) ≡ same (unfilled l) x) where
  pub name_done : (o : ℕ) → o ≡ octet l (length x) → o ≡ 0 → i ≤ length x → length x ≤ i → true ≡ same (unfilled l) x
  name_done o read z h g =
      let e : i ≡ length x = omega arith in
      let at-end : octet (drop i l) 0 ≡ 0 = get_or-drop i l 0 0 ∙ rw (add-zero i, e) (sym read ∙ z) in
      sym (named-empty (drop i l) at-end) ∙ (rw (rest-none x i g) at inv)

  module _ (h : i < length x) (g : length x ≤ length l) where
    heads : same (unfilled (octet l i ∷ drop (i + 1) l)) (octet x i ∷ drop (i + 1) x) ≡ same (unfilled l) x
    heads = let k : i < length l = omega arith in sym (ap₂ (λ (v w : List ℕ). same (unfilled v) w) (rest-cons l i k) (rest-cons x i h)) ∙ inv

    pub name-other : (octet l i ≡ octet x i → ⊥) → false ≡ same (unfilled l) x
    name-other n = sym (first-other _ _ _ _ n) ∙ heads

    pub name-fill : octet l i ≡ octet x i → octet x i ≡ 0 → false ≡ same (unfilled l) x
    name-fill e z = sym (first-fill _ _ _ _ e z) ∙ heads

    pub name-on : octet l i ≡ octet x i → (octet x i ≡ 0 → ⊥) → same (unfilled (drop (i + 1) l)) (drop (i + 1) x) ≡ same (unfilled l) x
    name-on e n = sym (first-same _ _ _ _ e n) ∙ heads

-- ---- the name of a member row: x and l are the octets and the field that the code found
pub named_other : (t x z : List ℕ) (p a b : ℕ) → x ≡ z → a ≡ octet t (p + 1) → b ≡ octet x 0 → (a ≡ b → ⊥) → false ≡ same (unfilled (name_at t p)) z
named_other t x z p a b octets e f n =
    let w = wide_name (kind_at t p) in
    let first : octet (name_at t p) 0 ≡ octet t (p + 1) = name-octet t p 0 (omega arith) in
    named-first (name_at t p) x (λ q. n (e ∙ sym first ∙ q ∙ sym f)) ∙ ap (same (unfilled (name_at t p))) octets

pub named-is : (l x y z : List ℕ) (u : Bool) → l ≡ y → x ≡ z → u ≡ same (unfilled l) x → u ≡ same (unfilled y) z
named-is l x y z u field octets e = e ∙ ap₂ (λ (v w : List ℕ). same (unfilled v) w) field octets
