use Prim.Native.Nat.{◌-◌}
use mathlib.Core.Path.{◌≡◌}
use Rattle.names.specs.Inner.Operand.{start_back}
use Rattle.namematch.proofs.start_back.Given as goal

abbrev pub invariant-loop : goal.invariant-loop
invariant-loop l = start_back (l.n - l.counter) l.x l.start ≡ start_back l.n l.x l.end
