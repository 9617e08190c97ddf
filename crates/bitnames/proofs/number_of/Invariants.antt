use Prim.Native.Nat.{◌≤◌, ◌+◌, ◌-◌}
use mathlib.Core.Path.{◌≡◌}
use Rattle.octets.specs.Octets.{part}
use Rattle.rows.specs.Row.{bit_names_at}
use Rattle.types.specs.Types.{bits_from}
use Rattle.table.specs.Inner.Rows.{table_rows, place_at}
use Rattle.bitnames.specs.Names.{number_of}
use Rattle.bitnames.specs.Inner.Sets.{names_after}
use Rattle.bitnames.proofs.number_of.Given as goal

abbrev pub invariant-loop-j : goal.invariant-loop-j
invariant-loop-j l =
    (l.j ≤ l.n) × (l.n ≡ bit_names_at l.t (place_at l.t l.row))
    × (number_of (bits_from l.t (table_rows l.t) (l.row + 1 + l.j) (l.n - l.j)) (part l.s l.a (l.b - l.a)) ≡ number_of (names_after l.t l.row) (part l.s l.a (l.b - l.a)))
