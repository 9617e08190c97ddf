-- Where the RDNs of a stored name and of the operand lie: RDN i from 0 of the one beside RDN i of the other, which the operand has from its end on.
use Rattle.std.specs.Prelude.{Option, Some, None}
use Rattle.std.specs.Prelude.{ℕ, zero, suc, ◌+◌, ◌-◌, Bool, List, map, length}
use Rattle.der.specs.Header.{inside_at}
use Rattle.der.specs.Names.{Element, elements_from, elements_of}
use Rattle.names.specs.Compared.{Compared, stored_rdn, same_name}
use Rattle.names.specs.Inner.Operand.{rdn_start, rdns_back}

abbrev pub behind : Option (ℕ × ℕ) → ℕ
behind None = 0
behind (Some (start, n)) = start + n

-- the place of RDN i of a stored name; 31 is the tag octet of an RDN
unfoldable pub rdn_at : List ℕ → ℕ → ℕ
rdn_at c zero = 0
rdn_at c (suc i) = behind (inside_at 49 c (rdn_at c i) (length c))

-- where RDN i of the operand ends; 0 where it has no more
unfoldable pub operand_at : List ℕ → ℕ → ℕ
operand_at x zero = length x
operand_at x (suc i) = rdn_start x (operand_at x i)

-- how many RDNs a stored name has
abbrev pub rdn_count : List ℕ → ℕ
rdn_count c = length (elements_of (elements_from 16 49 c 0))

abbrev pub rdn_of : Element → List Compared
rdn_of e = stored_rdn e.contents

-- the RDNs from RDN i on are the same
unfoldable pub same_from : List ℕ → List ℕ → ℕ → Bool
same_from c x i = same_name (map rdn_of (elements_of (elements_from (16 - i) 49 c (rdn_at c i)))) (rdns_back (suc (16 - i)) x (operand_at x i))
