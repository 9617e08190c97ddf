-- The limits of a filter: octets of its text, depth, items.
use Rattle.std.specs.Prelude.{ℕ}

pub record Limits : Type 0 where
  pub bytes : ℕ
  pub depth : ℕ
  pub items : ℕ
