-- Members by name: one lemma for each return and each turn of the loop; its premises are the facts as the code has them.
use mathlib.Core.Path.{◌≡◌, sym, ap, ◌∙◌}
use mathlib.Core.Bool.{Bool, true, false}
use mathlib.Core.List.{List}
use Prim.Native.Nat.{ℕ, suc, ◌≤◌, ◌<◌, ◌+◌, ◌-◌}
use native.Mathlib.Omega.{arith}
use Rattle.octets.specs.Pick.{pick}
use Rattle.octets.specs.Octets.{part, same}
use Rattle.rows.specs.Row.{name_at, row_at, members_at, unfilled}
use Rattle.clauses.specs.Clauses.{member_place}
use Rattle.value.specs.Inner.Work.{first}
use Rattle.value.proofs.LeafSteps.{first-none, first-start, first_step_lem}
use Rattle.reference.specs.Inner.Work.{named_of}

module _ (t s : List ℕ) (row : ℕ) (r : List ℕ) (a b n : ℕ) where
  abbrev x : List ℕ
  x = part r a (b - a)

  abbrev f : ℕ → Bool
  f = named_of t s row (part r a (b - a))

  pub find_start : first (named_of t s row (part r a (b - a))) n 0 ≡ first (named_of t s row (part r a (b - a))) (n - 0) 0
  find_start = first-start f n

  module _ (j : ℕ) (inv : first (named_of t s row (part r a (b - a))) n 0 ≡ first (named_of t s row (part r a (b - a))) (n - j) j) where
    opens : j < n → first f (n - j) j ≡ pick (f j) j (first f (n - (j + 1)) (j + 1))
    opens l = let q : n - j ≡ suc (n - (j + 1)) = omega arith in ap (λ (y : ℕ). first f y j) q ∙ first_step_lem f (n - (j + 1)) j

    module _ (l : j < n) (p : ℕ) (u : Bool) (placed : p ≡ member_place s row j) (told : u ≡ same (unfilled (name_at t p)) (part r a (b - a))) where
      here : u ≡ f j
      unfolding named_of
      here = told ∙ ap (λ (y : ℕ). same (unfilled (name_at t y)) x) placed

      pub find_found : n ≡ members_at t (row_at s row) → u ≡ true → j ≡ first (named_of t s row (part r a (b - a))) (members_at t (row_at s row)) 0
      find_found c h = sym (inv ∙ opens l ∙ ap (λ (y : Bool). pick y j (first f (n - (j + 1)) (j + 1))) (sym here ∙ h)) ∙ ap (λ (y : ℕ). first f y 0) c

      pub find_again : u ≡ false → first (named_of t s row (part r a (b - a))) n 0 ≡ first (named_of t s row (part r a (b - a))) (n - (j + 1)) (j + 1)
      find_again h = inv ∙ opens l ∙ ap (λ (y : Bool). pick y j (first f (n - (j + 1)) (j + 1))) (sym here ∙ h)

    pub find_done : j ≤ n → n ≤ j → n ≡ members_at t (row_at s row) → n ≡ first (named_of t s row (part r a (b - a))) (members_at t (row_at s row)) 0
    find_done g h c =
        let e : n ≡ j = omega arith in
        let q : n - j ≡ 0 = omega arith in
        e ∙ first-none f j ∙ ap (λ (y : ℕ). first f y j) (sym q) ∙ sym inv ∙ ap (λ (y : ℕ). first f y 0) c
