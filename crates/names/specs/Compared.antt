-- How names are compared (document 02, Q-3): "compared as caseIgnoreMatch"; "Pairs in an RDN match one to one, in any order." Source document 004
-- section 4.2.10: the same number of RDNs, and each is the same as the one at its place.
use Rattle.std.specs.Prelude.{ℕ, Bool, true, false, List, [], ◌∷◌, ◌++◌, map}
use Rattle.std.specs.Prelude.{Option, None, Some}
use Rattle.octets.specs.Pick.{pick, both, consed}
use Rattle.octets.specs.Octets.{same}
use Rattle.der.specs.Meaning.{arcs_of}
use Rattle.der.specs.Dotted.{dotted_arcs}
use Rattle.der.specs.Names.{Pair, rdn_of, name_of}
use Rattle.strings.specs.Prepared.{prepared}
use Rattle.names.specs.Rfc4514.{Attribute, distinguished_name, relative_distinguished_name}

-- a pair as it is compared: the arcs of its type, and its value as prepared for caseIgnoreMatch
pub record Compared : Type 0 where
  pub arcs : List ℕ
  pub text : List ℕ

abbrev pub stored : Pair → Compared
stored p = record { arcs = arcs_of p.type; text = prepared true p.value }

abbrev pub asserted : Attribute → Compared
asserted a = record { arcs = dotted_arcs a.type; text = prepared true a.value }

abbrev pub same_pair : Compared → Compared → Bool
same_pair a b = both (same a.arcs b.arcs) (same a.text b.text)

-- ---- one to one, in any order
-- pairs without the first that is the same as a; none where none is
unfoldable pub without : Compared → List Compared → Option (List Compared)
without a [] = None
without a (b ∷ bs) = let r = without a bs in pick (same_pair a b) (Some bs) (consed b r)

abbrev pub others : (List Compared → Bool) → Option (List Compared) → Bool
others f None = false
others f (Some bs) = f bs

unfoldable pub same_rdn : List Compared → List Compared → Bool
same_rdn [] [] = true
same_rdn [] (b ∷ bs) = false
same_rdn (a ∷ l) bs = others (λ cs. same_rdn l cs) (without a bs)

-- ---- by their places
unfoldable pub same_name : List (List Compared) → List (List Compared) → Bool
same_name [] [] = true
same_name [] (r ∷ rs) = false
same_name (q ∷ qs) [] = false
same_name (q ∷ qs) (r ∷ rs) = let s = same_name qs rs in both (same_rdn q r) s

-- ---- stored, and asserted: a text has the last RDN first (RFC 4514 section 2.1)
abbrev pub stored_rdn : List ℕ → List Compared
stored_rdn c = map stored (rdn_of c)

abbrev pub stored_name : List ℕ → List (List Compared)
stored_name c = map (map stored) (name_of c)

unfoldable pub turned : {A : Type 0} → List A → List A
turned [] = []
turned (a ∷ l) = turned l ++ (a ∷ [])

abbrev pub mapped : {A B : Type 0} → (A → B) → Option A → Option B
mapped f None = None
mapped f (Some a) = Some (f a)

unfoldable pub asserted_name : List ℕ → Option (List (List Compared))
asserted_name s = mapped (λ rs. turned (map (map asserted) rs)) (distinguished_name s)

unfoldable pub asserted_rdn : List ℕ → Option (List Compared)
asserted_rdn s = mapped (map asserted) (relative_distinguished_name s)
