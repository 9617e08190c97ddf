-- "The value text runs to the first closing brace that is neither in double quotes nor paired with an opening one inside; spaces at its ends are
-- dropped; it may not be empty."
use Rattle.std.specs.Prelude.{ℕ, ◌+◌, ◌-◌, Bool, false, List, [], ◌∷◌, length, drop, eqb}
use Rattle.std.specs.Prelude.{Option, None, Some}
use Rattle.octets.specs.Pick.{pick, no, ◌>>=◌}
use Rattle.octets.specs.Octets.{part}
use Rattle.octets.specs.Text.{trimmed}
use Rattle.assertion.specs.Spaces.{open_brace, close_brace}

-- the place of the closing brace, in a text that stands at a place, where so many braces are open inside, and in quotes or not
unfoldable pub brace_from : List ℕ → ℕ → ℕ → Bool → Option ℕ
brace_from [] at inner quoted = None
brace_from (b ∷ s) at inner quoted =
    let turned = brace_from s (at + 1) inner (no quoted) in
    let further = brace_from s (at + 1) inner quoted in
    let deeper = brace_from s (at + 1) (inner + 1) quoted in
    let higher = brace_from s (at + 1) (inner - 1) quoted in
    pick (eqb b 34) turned
    (pick quoted further
    (pick (eqb b open_brace) deeper
    (pick (eqb b close_brace) (pick (eqb inner 0) (Some at) higher)
    further)))

unfoldable pub brace_at : List ℕ → ℕ → Option ℕ
brace_at s at = brace_from (drop at s) at 0 false

-- a value text, and the place of the brace behind it
pub record ValueText : Type 0 where
  pub text : List ℕ
  pub brace : ℕ

abbrev pub not_empty : List ℕ → ℕ → Option ValueText
not_empty text brace = pick (eqb (length text) 0) None (Some (record { text = text; brace = brace }))

unfoldable pub value_text_at : List ℕ → ℕ → Option ValueText
value_text_at s at = do
  brace ← brace_at s at
  not_empty (trimmed (part s at (brace - at))) brace
