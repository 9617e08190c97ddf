-- The members that stand after a row of an admitted table.
use Prim.Native.Nat.{ℕ, ◌<◌, ◌+◌}
use mathlib.Core.List.{List}
use native.Mathlib.Omega.{arith}
use lib.ListN.{length}
use Rattle.rows.specs.Row.{members_at}
use Rattle.table.specs.Inner.Rows.{table_rows, MemberRow, place_at}
use Rattle.table.specs.Inner.Words.{Worded}

module _ (t w : List ℕ) (row : ℕ) (ok : Worded t w) (here : row < length (table_rows t)) where
  pub row_fits_lem : row + 1 < 18446744073709551616
  row_fits_lem = let f = ok.ready.few in omega arith

  module _ (j : ℕ) (one : j < members_at t (place_at t row)) where
    pub member-here : row + 1 + j < length (table_rows t)
    member-here = ok.ready.sound.stands row here j one

    pub member-kind : MemberRow t (row + 1 + j)
    member-kind = ok.ready.sound.members row here j one

    pub member-fits : row + 1 + j < 18446744073709551616
    member-fits = let q = member-here in let f = ok.ready.few in omega arith
