-- The limits of a stored value: the least and the most octets.
use Rattle.std.specs.Prelude.{ℕ}

pub record Limits : Type 0 where
  pub least : ℕ
  pub most : ℕ
