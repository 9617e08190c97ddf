-- What the code's answers say of stored arcs. none: the contents are no subidentifiers.
use Rattle.std.specs.Prelude.{ℕ, ◌-◌, Bool, false, List, [], ◌∷◌, map, ltb, eqb, drop}
use Rattle.std.specs.Prelude.{Option, None, Some}
use Rattle.octets.specs.Pick.{pick, consed}
use Rattle.octets.specs.Octets.{same}
use Rattle.octets.specs.Text.{decimal_from}
use Rattle.der.specs.Contents.{subidentifiers}
use Rattle.der.specs.Meaning.{first_arcs}
use Rattle.dotted.specs.Inner.Arcs.{rest_pieces}
use Rattle.dotted.specs.declared.Held.{Held}
use Rattle.dotted.specs.declared.HeldStep.{HeldStep}

abbrev pub split_first : Option (List ℕ) → Option (List ℕ)
split_first None = None
split_first (Some []) = Some []
split_first (Some (n ∷ l)) = Some (first_arcs n l)

-- the arcs from a place on
unfoldable pub rest_held : List ℕ → Held → Option (List ℕ)
rest_held c Held.Start = split_first (subidentifiers c)
rest_held c (Held.Second b next) = consed b (subidentifiers (drop next c))
rest_held c (Held.At at) = subidentifiers (drop at c)

abbrev pub report_held : List ℕ → HeldStep → Option (List ℕ)
report_held c (HeldStep.End whole) = pick whole (Some []) None
report_held c (HeldStep.Next n h) = consed n (rest_held c h)

abbrev pub first_step : ℕ → ℕ → HeldStep
first_step n next =
    pick (ltb n 40) (HeldStep.Next 0 (Held.Second n next))
    (pick (ltb n 80) (HeldStep.Next 1 (Held.Second (n - 40) next))
    (HeldStep.Next 2 (Held.Second (n - 80) next)))

abbrev pub is_over : HeldStep → Bool
is_over (HeldStep.End whole) = whole
is_over (HeldStep.Next n h) = false

-- an arc of the text, as the code holds it, is a stored one
abbrev pub same_arc : Option ℕ → ℕ → Bool
same_arc None n = false
same_arc (Some m) n = eqb m n

-- the arcs of the text from the next on
abbrev pub rest_arcs : List ℕ → Option ℕ → List ℕ
rest_arcs t d = map (decimal_from 0) (rest_pieces t d)

-- stored arcs, if there are any, are those of a list
abbrev pub matches : Option (List ℕ) → List ℕ → Bool
matches None l = false
matches (Some s) l = same s l
