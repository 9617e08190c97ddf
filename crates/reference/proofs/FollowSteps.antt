-- Along a reference: one lemma for each return and each turn of the loop; its premises are the facts as the code has them.
use mathlib.Core.Path.{◌≡◌, refl, sym, ap, ◌∙◌}
use mathlib.Core.Bool.{Bool, true, false, not}
use Rattle.std.specs.Prelude.{Option, None, Some}
use mathlib.Core.List.{List, [], ◌∷◌}
use Prim.Native.Nat.{ℕ}
use borrow.Author.Tests.{not-true, not-false}
use Rattle.octets.specs.Pick.{bind, consed}
use Rattle.types.specs.Types.{type_from}
use Rattle.reference.specs.Reference.{Id}
use Rattle.reference.specs.Allowed as allowed
use Rattle.reference.specs.Allowed.{allowed_from}
use Rattle.reference.specs.Inner.Work.{head_capped, ids_at, report_target, at_told, along, leads_to}
use Rattle.reference.specs.declared.Target.{Target}
use Rattle.reference.proofs.Laws.{under-capped, ids_all}

-- ---- identifiers from a target on
pub along-capped : (o : Option (List Id)) (g : Option allowed.Target) → along (head_capped o) g ≡ along o g
unfolding allowed_from
along-capped None g = refl
along-capped (Some []) g = refl
along-capped (Some (i ∷ is)) None = refl
along-capped (Some (i ∷ is)) (Some h) = ap (λ (y : Option allowed.Target). bind y (λ z. allowed_from is z)) (under-capped i h)

pub along_next : (i : Id) (l : Option (List Id)) (g : Option allowed.Target) → along (consed i l) g ≡ along l (at_told (Some i) g)
unfolding allowed_from
along_next i None g = refl
along_next i (Some is) None = refl
along_next i (Some is) (Some h) = refl

-- ---- where a reference is given
module _ (chain : ℕ) (t s r : List ℕ) (given : Bool) where
  pub target-whole : not given ≡ true → report_target chain t s (Some (Target.Row 0)) ≡ leads_to given r (type_from chain t s 0)
  unfolding allowed.allowed allowed_from
  target-whole h = rw (not-true given h)

  pub target_is : (g : Option Target) → not given ≡ false → report_target chain t s g ≡ along (ids_at r 0) (report_target chain t s (Some (Target.Row 0))) → report_target chain t s g ≡ leads_to given r (type_from chain t s 0)
  unfolding allowed.allowed
  target_is g h e = e ∙ ap (λ (y : Option (List Id)). along y (report_target chain t s (Some (Target.Row 0)))) (ids_all r) ∙ sym (rw (not-false given h))
