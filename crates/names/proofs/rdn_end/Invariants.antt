use Prim.Native.Nat.{◌-◌}
use mathlib.Core.Path.{◌≡◌}
use Rattle.der.specs.Names.{most_pairs}
use Rattle.names.specs.Rfc4514.{rdn_from}
use Rattle.names.specs.Inner.Reading.{letters_at, rest_of}
use Rattle.names.proofs.rdn_end.Given as goal

abbrev pub invariant-loop : goal.invariant-loop
invariant-loop l = rest_of (rdn_from (most_pairs - l.counter) (letters_at l.p l.i)) ≡ rest_of (rdn_from most_pairs (letters_at l.p l.at))
