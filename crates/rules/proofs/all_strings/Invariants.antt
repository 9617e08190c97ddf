use Prim.Native.Nat.{◌≤◌}
use Rattle.octets.specs.Pick.{all}
use Rattle.rules.specs.Inner.Answers.{string_row}
use mathlib.Core.Bool.{true}
use mathlib.Core.Path.{◌≡◌}
use Rattle.rules.proofs.all_strings.Given as goal

abbrev pub invariant-loop-j : goal.invariant-loop-j
invariant-loop-j l = (l.j ≤ l.n) × (all (string_row l.t l.i) l.j ≡ true)
