-- An assertion as a filter holds it.
use Rattle.std.specs.Prelude.{ℕ, Bool, List}
use Rattle.std.specs.Prelude.{Option}

-- its reference or none, useDefaultValues, the text of its rule, its value text
pub record Item : Type 0 where
  pub component : Option (List ℕ)
  pub defaults : Bool
  pub rule : List ℕ
  pub value : List ℕ
