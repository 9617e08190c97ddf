-- The limits of a table: its octets, its rows, the type rows of a chain, the members of a SEQUENCE or CHOICE or named bits of a BIT STRING.
use Rattle.std.specs.Prelude.{ℕ, Bool, List, length}
use Rattle.octets.specs.Text.{within}

pub record Limits : Type 0 where
  pub least : ℕ
  pub most : ℕ
  pub rows : ℕ
  pub chain : ℕ
  pub members : ℕ

-- refusal 1: the table's size
unfoldable pub table_fits : Limits → List ℕ → Bool
table_fits l t = within l.least l.most (length t)
