-- Defaults by their words: one lemma for each return; its premises are the facts as the code has them.
use Rattle.std.specs.Prelude.{Option, Some, None}
use mathlib.Core.Path.{◌≡◌, refl, sym, ap, ap₂, ◌∙◌}
use mathlib.Core.Bool.{Bool, true, false}
use mathlib.Core.List.{List, [], ◌∷◌}
use Prim.Native.Nat.{ℕ, suc, ◌≤◌, ◌<◌, ◌+◌, ◌-◌, ◌*◌}
use native.Mathlib.Omega.{arith}
use mir.Val.{Fits}
use mir.Syntax.{w8}
use borrow.Author.Tests.{eq-eqb, ne_eqb, eqb-true, eqb-false}
use lib.ListN.{length, length-take}
use lib.Dec.{eqb}
use Rattle.octets.specs.Pick.{pick, both}
use Rattle.octets.specs.Octets.{octet, part, same, base_from}
use Rattle.der.specs.Tag.{own_octet, wrapper_octet}
use Rattle.der.specs.Header.{inside_at}
use Rattle.rows.proofs.NumberSteps.{part_bytes}
use Rattle.rows.specs.Row.{kind_at, behind_name, is_member, mode_at, number_at, presence_at, default_length_at, default_at}
use Rattle.types.specs.Types.{Tagging, tagging_of}
use Rattle.table.specs.Inner.Rows.{table_rows, place_at, tagging_at, member_kind_at}
use Rattle.table.specs.Inner.Words.{first_octet, is_basic, how, Worded}
use Rattle.table.proofs.KindLaws.{small_basic}
use Rattle.value.specs.Inner.Work.{contents_at, holds, stored_default, is_default_at}
use Rattle.value.proofs.LeafSteps.{contents-misfit, contents-inside}
use Rattle.value.proofs.TagSteps.{default-small}

-- ---- contents as numbers
digits_eqb : (x y p q : ℕ) → p < 256 → q < 256 → eqb (x * 256 + p) (y * 256 + q) ≡ both (eqb x y) (eqb p q)
digits_eqb x y p q a b = go (eqb x y) refl (eqb p q) refl
  where
    go : (c : Bool) → eqb x y ≡ c → (d : Bool) → eqb p q ≡ d → eqb (x * 256 + p) (y * 256 + q) ≡ both c d
    go true e true f = let g = eqb-true x y e in let h = eqb-true p q f in eq-eqb (x * 256 + p) (y * 256 + q) (omega arith)
    go true e false f = let h = eqb-false p q f in ne_eqb (x * 256 + p) (y * 256 + q) (λ z. h (let g = eqb-true x y e in omega arith))
    go false e d f = let g = eqb-false x y e in ne_eqb (x * 256 + p) (y * 256 + q) (λ z. g (omega arith))

digits : (x y : ℕ) (a b : List ℕ) → length a ≡ length b → ((i : ℕ) → octet a i < 256) → ((i : ℕ) → octet b i < 256)
    → eqb (base_from x a) (base_from y b) ≡ both (eqb x y) (same a b)
unfolding base_from same
digits x y [] [] l f g = go (eqb x y)
  where
    go : (c : Bool) → c ≡ both c true
    go true = refl
    go false = refl
digits x y [] (q ∷ b) l f g = absurd (omega arith)
digits x y (p ∷ a) [] l f g = absurd (omega arith)
digits x y (p ∷ a) (q ∷ b) l f g =
    digits (x * 256 + p) (y * 256 + q) a b (omega arith) (λ i. f (suc i)) (λ i. g (suc i))
    ∙ ap (λ (c : Bool). both c (same a b)) (digits_eqb x y p q (f 0) (g 0))
    ∙ go (eqb x y) (eqb p q) (same a b)
  where
    go : (c d e : Bool) → both (both c d) e ≡ both c (both d e)
    go true d e = refl
    go false d e = refl

same-long : (a b : List ℕ) → (length a ≡ length b → ⊥) → same a b ≡ false
unfolding same
same-long [] [] h = absurd (h refl)
same-long [] (q ∷ b) h = refl
same-long (p ∷ a) [] h = refl
same-long (p ∷ a) (q ∷ b) h = ap (both (eqb p q)) (same-long a b (λ z. h (omega arith))) ∙ go (eqb p q)
  where
    go : (c : Bool) → both c false ≡ false
    go true = refl
    go false = refl

-- ---- contents that are a default
module _ (t : List ℕ) (p : ℕ) (v : List ℕ) (start n pr : ℕ) (read : pr ≡ presence_at t p) where
  pub default_none : (pr ≡ 2 → ⊥) → false ≡ is_default_at t p v start n
  unfolding is_default_at
  default_none h = rw (← read, ne_eqb pr 2 h)

  pub default-is : (r : Bool) → pr ≡ 2 → r ≡ same (part v start (start + n - start)) (default_at t p) → r ≡ is_default_at t p v start n
  unfolding is_default_at
  default-is r h q =
      let l : start + n - start ≡ n = omega arith in
      rw (← read, eq-eqb pr 2 h) (q ∙ ap (λ (x : ℕ). same (part v start x) (default_at t p)) l)

-- ---- a member row
module _ (t w : List ℕ) (row : ℕ) (ok : Worded t w) (here : row < length (table_rows t)) (member : is_member (kind_at t (place_at t row)) ≡ true) where
  abbrev p : ℕ
  p = place_at t row

  abbrev k : ℕ
  k = member_kind_at t row

  abbrev g : Tagging
  g = tagging_at t row

  module _ (c : List ℕ) (n : ℕ) (sized : n ≡ length (default_at t (place_at t row))) where
    pub default_longer : (length c ≡ n → ⊥) → eqb (length c) n ≡ same c (default_at t (place_at t row))
    default_longer h = ne_eqb (length c) n h ∙ sym (same-long c (default_at t p) (λ z. h (z ∙ sym sized)))

    pub default-short : length c ≡ n → length c ≤ 8
    default-short e = let a = ok.ready.size row here member in let q : n ≤ 8 = rw sized (simp length-take (omega arith)) in omega arith

    pub default-same : (x y : ℕ) → length c ≡ n → x ≡ base_from 0 c → y ≡ base_from 0 (default_at t (place_at t row)) → ((i : ℕ) → Fits w8 (octet t i))
        → ((i : ℕ) → Fits w8 (octet c i))
        → eqb x y ≡ same c (default_at t (place_at t row))
    default-same x y e a b ft fc = ap₂ eqb a b
        ∙ digits 0 0 c (default_at t p) (e ∙ sized) (λ i. omega (arith, fc i)) (part_bytes (default_length_at t p) (behind_name t p + 6) t (λ i. omega (arith, ft i)))

  -- ---- in a wrapper
  first_wrapper : (f : ℕ) → mode_at t p ≡ 1 → f ≡ first_octet g k → f ≡ wrapper_octet (number_at t p)
  unfolding first_octet tagging_of
  first_wrapper f h e = e ∙ rw h

  module _ (v : List ℕ) (at end f : ℕ) (h : Option (ℕ × ℕ)) (explicitly : mode_at t p ≡ 1) (first : f ≡ first_octet g k) (opening : h ≡ inside_at f v at end) where
    pub wrapped_none : h ≡ None → None ≡ contents_at g k v at end
    wrapped_none e = contents-misfit (mode_at t p) (number_at t p) k v at end f h explicitly (first_wrapper f explicitly first) opening e

    pub wrapped_found : (start c q o : ℕ) (r : Option (ℕ × ℕ)) → h ≡ Some (start, c) → q ≡ member_kind_at t row → o ≡ own_octet q → r ≡ inside_at o v start (start + c)
        → r ≡ contents_at g k v at end
    wrapped_found start c q o r m j i told =
        contents-inside (mode_at t p) (number_at t p) k v at end f h explicitly (first_wrapper f explicitly first) opening start c o r m (i ∙ ap own_octet j) told

  module _ (pr : ℕ) (read : pr ≡ presence_at t (place_at t row)) (has : pr ≡ 2) where
    pub presence-is : presence_at t (place_at t row) ≡ 2
    presence-is = sym read ∙ has

    pub explicit-is : (how k (mode_at t (place_at t row)) ≡ 0 → ⊥) → mode_at t (place_at t row) ≡ 1
    unfolding how
    explicit-is h = go (eqb (mode_at t p) 1) refl h
      where
        go : (x : Bool) → eqb (mode_at t p) 1 ≡ x → (◌≡◌ {A = ℕ} (pick x 1 (pick (is_basic k) 0 2)) 0 → ⊥) → mode_at t p ≡ 1
        go true q z = eqb-true (mode_at t p) 1 q
        go false q z = absurd (z (let l = default-small t w row ok here member presence-is in rw (small_basic k (omega arith))))

    pub stored_told : (v : List ℕ) (at end : ℕ) (r : Bool) → r ≡ holds v (default_at t p) (contents_at g k v at end)
        → r ≡ stored_default t (table_rows t) p v at end
    unfolding stored_default
    stored_told v at end r e = rw (eq-eqb (presence_at t p) 2 presence-is) e
