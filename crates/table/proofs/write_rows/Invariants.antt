use Rattle.table.specs.Inner.Pass.{Going}
use Prim.Native.Nat.{◌≤◌}
use Rattle.table.proofs.write_rows.Given as goal

abbrev pub invariant-loop-i : goal.invariant-loop-i
invariant-loop-i l = (l.n ≤ 128) × Going l.t l.w l.i
