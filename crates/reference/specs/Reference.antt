-- Component references (RFC 3687 section 3.1): component identifiers, divided by dots.
use Rattle.std.specs.Prelude.{ℕ, Bool, List, [], ◌∷◌, drop, eqb}
use Rattle.std.specs.Prelude.{Option, None, Some}
use Rattle.octets.specs.Pick.{pick, both, no, consed, ◌>>=◌}
use Rattle.octets.specs.Octets.{octet, same, bytes}
use Rattle.octets.specs.Text.{is_name, is_number, decimal, pieces}

-- "Identifiers on SEQUENCE and CHOICE; on SEQUENCE OF and SET OF a position from 1, `-`position from the end, `0` for the count, `*` for all."
pub data Index : Type 0 where
  position : ℕ → Index
  from_end : ℕ → Index
  count : Index
  all : Index

pub data Id : Type 0 where
  name : List ℕ → Id
  index : Index → Id

-- "Positions may be of any size, without leading zeros"
unfoldable pub is_position : List ℕ → Bool
is_position p = both (is_number p) (no (same p (bytes "0")))

-- one component identifier. "`content` and `(..)` are allowed on no base type; a member may bear the name `content`": it is read as a name,
-- and `(..)` as nothing
unfoldable pub id_of : List ℕ → Option Id
id_of p =
    pick (same p (bytes "*")) (Some (index all))
    (pick (same p (bytes "0")) (Some (index count))
    (pick (is_position p) (Some (index (position (decimal p))))
    (pick (both (eqb (octet p 0) 45) (is_position (drop 1 p))) (Some (index (from_end (decimal (drop 1 p)))))
    (pick (is_name p) (Some (name p))
    None))))

unfoldable pub ids_of : List (List ℕ) → Option (List Id)
ids_of [] = Some []
ids_of (p ∷ ps) = do
  i ← id_of p
  consed i (ids_of ps)

-- the component identifiers of a reference; none where it is malformed
unfoldable pub read_reference : List ℕ → Option (List Id)
read_reference s = ids_of (pieces s)

-- the same of a reference that may be missing: "A missing reference names the whole value", by no identifiers
abbrev pub identifiers : Option (List ℕ) → Option (List Id)
identifiers None = Some []
identifiers (Some s) = read_reference s

-- of r, where it is given
abbrev pub given_ids : Bool → List ℕ → Option (List Id)
given_ids given r = pick given (identifiers (Some r)) (identifiers None)
