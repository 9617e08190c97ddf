-- What a function of the walk is told of a place in a stored value: a value of a type stands there, or the parts of one. Functions know neither the type
-- nor the value; the records hold them.
use Rattle.std.specs.Prelude.{List, ℕ, ◌≤◌, length}
use Rattle.types.specs.Types.{Tagging, untagged, explicit, implicit, Ty}
use Rattle.table.specs.Inner.Rows.{members_after}
use Rattle.value.specs.Value.{Value, Fields, Values}
use Rattle.value.specs.Inner.Decodes.{Decodes, Fielded, Elements}
use Rattle.walk.specs.Inner.Raw.{start_of, next_after}

-- x is the value of a type at a place, behind its wrapper where there is one
pub record Stands (ty : Ty) (v : List ℕ) (at : ℕ) (x : Value) : Type 0 where
  pub tagging : Tagging
  pub decoded : Decodes v ty tagging at (length v) x (next_after v at)

-- behind the wrapper of a tag mode
abbrev pub within : Tagging → List ℕ → ℕ → ℕ
within untagged v i = i
within (implicit n) v i = i
within (explicit n) v i = start_of v i

-- a list's elements between two places
pub record InList (v : List ℕ) (start stop : ℕ) : Type 0 where
  pub element : Ty
  pub most : ℕ
  pub xs : Values
  pub turn : Elements v element stop most start xs
  pub inside : stop ≤ length v

-- the members of the SEQUENCE of a row between two places
pub record InRow (t v : List ℕ) (row start stop : ℕ) : Type 0 where
  pub fs : Fields
  pub members : Fielded v stop (members_after t row) start fs
  pub inside : stop ≤ length v
