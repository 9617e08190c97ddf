-- What is written of an RDN.
use Rattle.std.specs.Prelude.{ℕ, ◌≤◌, ◌<◌, ◌*◌, ◌≡◌, List, ◌++◌, length, take}
use Rattle.std.specs.Prelude.{Some}
use Rattle.der.specs.Names.{most_pairs}
use Rattle.names.specs.Rfc4514.{Attribute, rdn_from}
use Rattle.names.specs.Inner.Reading.{letters_at}
use Rattle.names.specs.Inner.Operand.{rdn_octets}
use Rattle.nameoperand.specs.declared.Written.{Written}

-- the RDN that starts at a place of a text, behind what stood in the memory m₀ up to `from`
pub record RdnWritten (p : List ℕ) (first from : ℕ) (m₀ : List ℕ) (r : Written) (m : List ℕ) : Type 0 where
  pub long : length m ≡ 5120
  pub rdn : List Attribute
  pub read : rdn_from most_pairs (letters_at p first) ≡ Some (record { got = rdn; rest = letters_at p r.end })
  pub octets : take r.place m ≡ take from m₀ ++ rdn_octets rdn
  pub on : first < r.end
  pub within : r.end ≤ length p
  pub most : 2 * r.place ≤ 5 * r.end
