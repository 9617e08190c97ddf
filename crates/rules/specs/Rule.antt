-- Rules: the table of matching rules, with names and object identifiers.
use Rattle.std.specs.Prelude.{ℕ, Bool, true, false, List, [], ◌∷◌, map}
use Prim.Native.String.{String}
use Rattle.std.specs.Prelude.{Option, None, Some}
use Rattle.octets.specs.Pick.{pick, either}
use Rattle.octets.specs.Octets.{same, bytes}
use Rattle.octets.specs.Text.{lower}

-- what a rule compares; strings with letters folded, for caseIgnoreMatch (true), or as they are, for caseExactMatch; distinguished names and RDNs
-- (document 02, Q-3)
pub data Syntax : Type 0 where
  booleans : Syntax
  integers : Syntax
  object_identifiers : Syntax
  octet_strings : Syntax
  bit_strings : Syntax
  strings : Bool → Syntax
  times : Syntax
  names : Syntax
  rdns : Syntax

-- presentMatch accepts any value, an equality rule an equal one, an ordering rule one less than the asserted
pub data Rule : Type 0 where
  present : Rule
  equal : Syntax → Rule
  less : Syntax → Rule

pub record Known : Type 0 where
  pub name : List ℕ
  pub oid : List ℕ
  pub rule : Rule

abbrev pub known : String → String → Rule → Known
known name oid rule = record { name = bytes name; oid = bytes oid; rule = rule }

unfoldable pub known_rules : List Known
known_rules =
    known "presentMatch" "1.2.36.79672281.1.13.5" present
    ∷ known "booleanMatch" "2.5.13.13" (equal booleans)
    ∷ known "integerMatch" "2.5.13.14" (equal integers)
    ∷ known "integerOrderingMatch" "2.5.13.15" (less integers)
    ∷ known "objectIdentifierMatch" "2.5.13.0" (equal object_identifiers)
    ∷ known "octetStringMatch" "2.5.13.17" (equal octet_strings)
    ∷ known "octetStringOrderingMatch" "2.5.13.18" (less octet_strings)
    ∷ known "bitStringMatch" "2.5.13.16" (equal bit_strings)
    ∷ known "caseIgnoreMatch" "2.5.13.2" (equal (strings true))
    ∷ known "caseExactMatch" "2.5.13.5" (equal (strings false))
    ∷ known "generalizedTimeMatch" "2.5.13.27" (equal times)
    ∷ known "generalizedTimeOrderingMatch" "2.5.13.28" (less times)
    ∷ known "distinguishedNameMatch" "2.5.13.1" (equal names)
    ∷ known "rdnMatch" "1.2.36.79672281.1.13.3" (equal rdns)
    ∷ []

-- names are compared without regard to case (RFC 4512), in ASCII
unfoldable pub same_name : List ℕ → List ℕ → Bool
same_name a b = same (map lower a) (map lower b)

-- the rule that a name or dotted OID has among the known ones; none where it is unknown
unfoldable pub rule_of : List Known → List ℕ → Option Rule
rule_of [] t = None
rule_of (k ∷ ks) t = let r = rule_of ks t in pick (either (same_name t k.name) (same t k.oid)) (Some k.rule) r
