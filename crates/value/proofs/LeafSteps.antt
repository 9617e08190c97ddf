-- The functions outside the cycle: one lemma for each return and each turn of a loop; its premises are the facts as the code has them.
use Rattle.std.specs.Prelude.{Option}
use mathlib.Core.Path.{◌≡◌, refl, sym, ap, ◌∙◌}
use mathlib.Core.Bool.{Bool, true, false}
use mathlib.Core.List.{List}
use Prim.Native.Nat.{ℕ, suc, ◌≤◌, ◌<◌, ◌+◌, ◌-◌}
use native.Mathlib.Omega.{arith}
use borrow.Author.Tests.{eq-eqb, ne_eqb}
use lib.ListN.{length}
use lib.Dec.{eqb}
use Rattle.std.specs.Prelude.{None, Some}
use Rattle.octets.specs.Pick.{pick}
use Rattle.octets.specs.Octets.{part, same}
use Rattle.rows.specs.Row.{row_at, named_at, presence_at}
use Rattle.der.specs.Tag.{own_octet, implicit_octet, wrapper_octet}
use Rattle.der.specs.Header.{inside_at}
use Rattle.der.specs.Order.{not_above}
use Rattle.der.proofs.Laws.{inside-within}
use Rattle.types.specs.Types.{Tagging, untagged, explicit, implicit, tagging_of, member_of, type_from}
use Rattle.value.specs.Decode.{tag_octet, starts_here}
use Rattle.value.specs.Inner.Work.{up_to, first, starts_of, contents_at, holds, within, stored_default, absent_checked, neighbours}

-- ---- tags
module _ (mode n k : ℕ) where
  pub octet-none : (r : ℕ) → mode ≡ 0 → r ≡ own_octet k → r ≡ tag_octet (tagging_of mode n) k
  unfolding tagging_of
  octet-none r h e = rw (eq-eqb mode 0 h) e

  module _ (h : mode ≡ 0 → ⊥) where
    pub octet-explicit : (r : ℕ) → mode ≡ 1 → r ≡ own_octet k → r ≡ tag_octet (tagging_of mode n) k
    unfolding tagging_of
    octet-explicit r g e = rw (ne_eqb mode 0 h, eq-eqb mode 1 g) e

    pub octet-implicit : (r : ℕ) → (mode ≡ 1 → ⊥) → r ≡ implicit_octet n k → r ≡ tag_octet (tagging_of mode n) k
    unfolding tagging_of
    octet-implicit r g e = rw (ne_eqb mode 0 h, ne_eqb mode 1 g) e

  -- ---- contents under a tag mode
  module _ (v : List ℕ) (at end : ℕ) where
    pub contents-plain : (o : ℕ) (r : Option (ℕ × ℕ)) → (mode ≡ 1 → ⊥) → o ≡ tag_octet (tagging_of mode n) k → r ≡ inside_at o v at end → r ≡ contents_at (tagging_of mode n) k v at end
    unfolding contents_at tagging_of
    contents-plain o r g e q = go (eqb mode 0) (e' ∙ refl)
      where
        e' : o ≡ tag_octet (pick (eqb mode 0) untagged (pick (eqb mode 1) (explicit n) (implicit n))) k
        e' = e

        off : eqb mode 1 ≡ false
        off = ne_eqb mode 1 g

        go : (x : Bool) → o ≡ tag_octet (pick x untagged (pick (eqb mode 1) (explicit n) (implicit n))) k → r ≡ contents_at (pick x untagged (pick (eqb mode 1) (explicit n) (implicit n))) k v at end
        go true f = q ∙ ap (λ (y : ℕ). inside_at y v at end) f
        go false f = rw off (q ∙ ap (λ (y : ℕ). inside_at y v at end) (rw off at f))

    module _ (w : ℕ) (h : Option (ℕ × ℕ)) (g : mode ≡ 1) (e : w ≡ wrapper_octet n) (told : h ≡ inside_at w v at end) where
      is-explicit : tagging_of mode n ≡ explicit n
      unfolding tagging_of
      is-explicit = rw g

      pub contents-misfit : h ≡ None → None ≡ contents_at (tagging_of mode n) k v at end
      unfolding contents_at
      contents-misfit m = rw (is-explicit, ← e, ← told, m)

      pub contents-inside : (start c o : ℕ) (r : Option (ℕ × ℕ)) → h ≡ Some (start, c) → o ≡ own_octet k → r ≡ inside_at o v start (start + c) → r ≡ contents_at (tagging_of mode n) k v at end
      unfolding contents_at
      contents-inside start c o r m f q = rw (is-explicit, ← e, ← told, m) (q ∙ ap (λ (y : ℕ). inside_at y v start (start + c)) f)

-- contents lie within an end, which is one of the language's numbers
pub inside-fits : (o : ℕ) (v : List ℕ) (at end start n : ℕ) (h : Option (ℕ × ℕ)) → h ≡ inside_at o v at end → h ≡ Some (start, n) → end < 18446744073709551616 → start + n < 18446744073709551616
inside-fits o v at end start n h e q l = let w = inside-within o v at end start n (sym e ∙ q) in omega arith

-- and within the octets, where the end does
pub inside-ends : (o : ℕ) (v : List ℕ) (at end start n : ℕ) (h : Option (ℕ × ℕ)) → h ≡ inside_at o v at end → h ≡ Some (start, n) → end ≤ length v → start + n ≤ length v
inside-ends o v at end start n h e q l = let w = inside-within o v at end start n (sym e ∙ q) in omega arith

contents-within : (g : Tagging) (k : ℕ) (v : List ℕ) (at end start n : ℕ) → contents_at g k v at end ≡ Some (start, n) → start + n ≤ end
unfolding contents_at
contents-within untagged k v at end start n e = inside-within (tag_octet untagged k) v at end start n e
contents-within (implicit m) k v at end start n e = inside-within (tag_octet (implicit m) k) v at end start n e
contents-within (explicit m) k v at end start n e = go (inside_at (wrapper_octet m) v at end) refl e
  where
    go : (i : Option (ℕ × ℕ)) → inside_at (wrapper_octet m) v at end ≡ i → within (inside_at (tag_octet (explicit m) k) v) i ≡ Some (start, n) → start + n ≤ end
    go None q f = absurd (let z : ◌≡◌ {A = ℕ} 0 1 = cc in omega arith)
    go (Some (a, c)) q f =
        let x = inside-within (wrapper_octet m) v at end a c q in
        let y = inside-within (tag_octet (explicit m) k) v a (a + c) start n f in
        omega arith

-- ---- a default that is stored
module _ (v d : List ℕ) (g : Tagging) (k at end : ℕ) (h : Option (ℕ × ℕ)) (e : h ≡ contents_at g k v at end) where
  pub holds-none : h ≡ None → false ≡ holds v d (contents_at g k v at end)
  holds-none m = rw (← e, m)

  pub contents-ends : (start n : ℕ) → h ≡ Some (start, n) → end ≤ length v → start + n ≤ length v
  contents-ends start n m l = let w = contents-within g k v at end start n (sym e ∙ m) in omega arith

  pub contents-fits : (start n : ℕ) → h ≡ Some (start, n) → end < 18446744073709551616 → start + n < 18446744073709551616
  contents-fits start n m l = let w = contents-within g k v at end start n (sym e ∙ m) in omega arith

  pub holds_same : (start n : ℕ) (r : Bool) → h ≡ Some (start, n) → r ≡ same (part v start (start + n - start)) d → r ≡ holds v d (contents_at g k v at end)
  holds_same start n r m q =
      let l : start + n - start ≡ n = omega arith in
      q ∙ ap (λ (x : ℕ). same (part v start x) d) l ∙ sym (ap (holds v d) (sym e ∙ m))

module _ (t s : List ℕ) (p : ℕ) (v : List ℕ) (at end pr : ℕ) (read : pr ≡ presence_at t p) where
  pub stored_not : (pr ≡ 2 → ⊥) → eqb pr 2 ≡ stored_default t s p v at end
  unfolding stored_default
  stored_not h = rw (← read, ne_eqb pr 2 h)

-- a member that is not there
module _ (t : List ℕ) (p i pr : ℕ) (read : pr ≡ presence_at t p) where
  pub absent_bad : pr ≡ 0 → None ≡ absent_checked t p i
  unfolding absent_checked
  absent_bad h = rw (← read, eq-eqb pr 0 h)

  pub absent_is : (pr ≡ 0 → ⊥) → Some i ≡ absent_checked t p i
  unfolding absent_checked
  absent_is h = rw (← read, ne_eqb pr 0 h)

-- ---- neighbours
module _ (k : ℕ) (v : List ℕ) (before i next : ℕ) where
  pub order_any : k ≡ 14 → eqb k 14 ≡ neighbours k v before i next
  unfolding neighbours
  order_any h = rw (eq-eqb k 14 h)

  pub order_is : (r : Bool) → (k ≡ 14 → ⊥) → r ≡ not_above (part v before (i - before)) (part v i (next - i)) → r ≡ neighbours k v before i next
  unfolding neighbours
  order_is r h q = rw (ne_eqb k 14 h) q

-- ---- contents of a basic kind
module _ (stop : ℕ) (r x : Bool) (e : r ≡ x) where
  pub up_checked : r ≡ true → Some stop ≡ up_to stop x
  up_checked h = rw (sym e ∙ h)

  pub up_not : r ≡ false → None ≡ up_to stop x
  up_not h = rw (sym e ∙ h)

pub first-none : (f : ℕ → Bool) (a : ℕ) → a ≡ first f 0 a
unfolding first
first-none f a = refl

pub first-start : (f : ℕ → Bool) (n : ℕ) → first f n 0 ≡ first f (n - 0) 0
first-start f n = let q : n ≡ n - 0 = omega arith in ap (λ (x : ℕ). first f x 0) q

pub first_step_lem : (f : ℕ → Bool) (k a : ℕ) → first f (suc k) a ≡ pick (f a) a (first f k (a + 1))
unfolding first
first_step_lem f k a = refl

-- the loop over alternatives, by the test f of each
module _ (f : ℕ → Bool) (n j : ℕ) (inv : first f n 0 ≡ first f (n - j) j) where
  opens : j < n → first f (n - j) j ≡ pick (f j) j (first f (n - (j + 1)) (j + 1))
  opens l = let q : n - j ≡ suc (n - (j + 1)) = omega arith in ap (λ (x : ℕ). first f x j) q ∙ first_step_lem f (n - (j + 1)) j

  module _ (l : j < n) (r : Bool) (told : r ≡ f j) where
    pub first_found : r ≡ true → j ≡ first f n 0
    first_found h = sym (inv ∙ opens l ∙ ap (λ (x : Bool). pick x j (first f (n - (j + 1)) (j + 1))) (sym told ∙ h))

    pub first_again : r ≡ false → first f n 0 ≡ first f (n - (j + 1)) (j + 1)
    first_again h = inv ∙ opens l ∙ ap (λ (x : Bool). pick x j (first f (n - (j + 1)) (j + 1))) (sym told ∙ h)

  pub first_done : n ≤ j → j ≡ first f n 0
  first_done h = let q : n - j ≡ 0 = omega arith in first-none f j ∙ ap (λ (x : ℕ). first f x j) (sym q) ∙ sym inv

pub starts-here : (chain : ℕ) (t s : List ℕ) (row : ℕ) (v : List ℕ) (stop i j : ℕ) (r : Bool)
    → r ≡ starts_here (member_of t (row + 1 + j) (row_at s (row + 1 + j))) (type_from chain t s (named_at t (row_at s (row + 1 + j)))) v stop i
    → r ≡ starts_of chain t s row v stop i j
unfolding starts_of
starts-here chain t s row v stop i j r told = told
