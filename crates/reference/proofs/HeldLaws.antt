-- What is held at the end of the identifiers: of nothing, of one list after another, and after one identifier more.
use mathlib.Core.Path.{◌≡◌, refl, sym, ap, ◌∙◌}
use mathlib.Core.Bool.{Bool}
use mathlib.Core.List.{List, [], ◌∷◌, ◌++◌, append_assoc, append-nil}
use Rattle.reference.specs.Reference.{Id}
use Rattle.reference.specs.Named.{Held, step, replaced, held}

pub held_none : (defaults : Bool) (is : List Id) → held defaults is [] ≡ []
unfolding held replaced
held_none defaults [] = refl
held_none defaults (i ∷ is) = held_none defaults is

replaced-append : (defaults : Bool) (i : Id) (a b : List Held) → replaced defaults i (a ++ b) ≡ replaced defaults i a ++ replaced defaults i b
unfolding replaced
replaced-append defaults i [] b = refl
replaced-append defaults i (x ∷ a) b = ap (λ (l : List Held). step defaults i x ++ l) (replaced-append defaults i a b) ∙ sym (append_assoc (step defaults i x) (replaced defaults i a) (replaced defaults i b))

pub held-append : (defaults : Bool) (is : List Id) (a b : List Held) → held defaults is (a ++ b) ≡ held defaults is a ++ held defaults is b
unfolding held
held-append defaults [] a b = refl
held-append defaults (i ∷ is) a b = ap (held defaults is) (replaced-append defaults i a b) ∙ held-append defaults is (replaced defaults i a) (replaced defaults i b)

pub held-step : (defaults : Bool) (i : Id) (is : List Id) (h : Held) → held defaults (i ∷ is) (h ∷ []) ≡ held defaults is (step defaults i h)
unfolding held replaced
held-step defaults i is h = ap (held defaults is) (append-nil (step defaults i h))
