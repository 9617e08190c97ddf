use Prim.Native.Nat.{◌-◌}
use mathlib.Core.Path.{◌≡◌}
use Rattle.octets.specs.Pick.{is_some}
use Rattle.octets.specs.Quoted.{undoubled}
use Rattle.der.specs.Names.{most_rdns}
use Rattle.names.specs.Rfc4514.{rdns_from, distinguished_name}
use Rattle.names.specs.Inner.Reading.{letters_at}
use Rattle.names.proofs.is_name.Given as goal

abbrev pub invariant-loop : goal.invariant-loop
invariant-loop l = is_some (rdns_from (most_rdns - l.counter) (letters_at l.p l.i)) ≡ is_some (distinguished_name (undoubled l.p))
