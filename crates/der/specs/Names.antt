-- Stored distinguished names (document 02, Q-3). An RDNSequence is a SEQUENCE OF RelativeDistinguishedName, an RDN a SET OF pairs, a pair a SEQUENCE of an
-- attribute type, which is an OBJECT IDENTIFIER, and a value. "Attribute values are the three string kinds"; "0 to 16 RDNs, with 1 to 4 pairs in one".
use Rattle.std.specs.Prelude.{ℕ, zero, suc, ◌+◌, ◌-◌, Bool, true, false, List, [], ◌∷◌, map, length, leb, eqb}
use Rattle.std.specs.Prelude.{Option, None, Some}
use Rattle.octets.specs.Pick.{pick, both, consed}
use Rattle.octets.specs.Octets.{part}
use Rattle.der.specs.Kind.{object_identifier, utf8_string, printable_string, ia5_string, sequence, set_of}
use Rattle.der.specs.Tag.{own_octet}
use Rattle.der.specs.Header.{header_at, inside_at, opened}
use Rattle.der.specs.Contents.{legal_oid, legal_text}
use Rattle.der.specs.Order.{not_above}

abbrev pub most_rdns : ℕ
most_rdns = 16

abbrev pub most_pairs : ℕ
most_pairs = 4

-- ---- elements, one after another
-- an element: its whole encoding, and its contents
pub record Element : Type 0 where
  pub encoding : List ℕ
  pub contents : List ℕ

-- the element at a place whose contents are n octets from start on
abbrev pub element_at : List ℕ → ℕ → ℕ → ℕ → Element
element_at c at start n = record { encoding = part c at (start + n - at); contents = part c start n }

-- the elements from a place on, to the end: each has the tag octet o, and there are at most so many
unfoldable pub elements_from : ℕ → ℕ → List ℕ → ℕ → Option (List Element)
elements_from zero o c at = pick (leb (length c) at) (Some []) None
elements_from (suc most) o c at =
    pick (leb (length c) at) (Some [])
    (opened (inside_at o c at (length c)) (λ start n. consed (element_at c at start n) (elements_from most o c (start + n))))

abbrev pub rdns_in : List ℕ → Option (List Element)
rdns_in c = elements_from most_rdns (own_octet set_of) c 0

abbrev pub pairs_in : List ℕ → Option (List Element)
pairs_in c = elements_from most_pairs (own_octet sequence) c 0

-- ---- legal contents
-- a string of one of the three kinds, by the tag octet o
unfoldable pub legal_string : ℕ → List ℕ → Bool
legal_string o c =
    pick (eqb o (own_octet utf8_string)) (legal_text utf8_string c)
    (pick (eqb o (own_octet printable_string)) (legal_text printable_string c)
    (pick (eqb o (own_octet ia5_string)) (legal_text ia5_string c)
    false))

-- the value of a pair: it ends where the pair ends
abbrev pub legal_value : List ℕ → Option (ℕ × ℕ × ℕ) → Bool
legal_value c None = false
legal_value c (Some (o, start, n)) = both (eqb (start + n) (length c)) (legal_string o (part c start n))

abbrev pub legal_type : List ℕ → Option (ℕ × ℕ) → Bool
legal_type c None = false
legal_type c (Some (start, n)) = both (legal_oid (part c start n)) (legal_value c (header_at c (start + n) (length c)))

unfoldable pub legal_pair : List ℕ → Bool
legal_pair c = legal_type c (inside_at (own_octet object_identifier) c 0 (length c))

unfoldable pub every_element : (List ℕ → Bool) → List Element → Bool
every_element f [] = true
every_element f (e ∷ es) = let r = every_element f es in both (f e.contents) r

-- "SET OF elements do not fall in X.690 order"
unfoldable pub in_order : List Element → Bool
in_order [] = true
in_order (a ∷ []) = true
in_order (a ∷ b ∷ es) = let r = in_order (b ∷ es) in both (not_above a.encoding b.encoding) r

abbrev pub legal_pairs : Option (List Element) → Bool
legal_pairs None = false
legal_pairs (Some es) = both (leb 1 (length es)) (both (in_order es) (every_element legal_pair es))

unfoldable pub legal_rdn : List ℕ → Bool
legal_rdn c = legal_pairs (pairs_in c)

abbrev pub legal_rdns : Option (List Element) → Bool
legal_rdns None = false
legal_rdns (Some es) = every_element legal_rdn es

unfoldable pub legal_rdn_sequence : List ℕ → Bool
legal_rdn_sequence c = legal_rdns (rdns_in c)

-- ---- what they mean: RDNs, each the list of its pairs
-- a pair: the contents of its attribute type and of its value
pub record Pair : Type 0 where
  pub type : List ℕ
  pub value : List ℕ

abbrev pub contents_of : List ℕ → Option (ℕ × ℕ × ℕ) → List ℕ
contents_of c None = []
contents_of c (Some (o, start, n)) = part c start n

abbrev pub pair_behind : List ℕ → Option (ℕ × ℕ) → Pair
pair_behind c None = record { type = []; value = [] }
pair_behind c (Some (start, n)) = record { type = part c start n; value = contents_of c (header_at c (start + n) (length c)) }

unfoldable pub pair_of : List ℕ → Pair
pair_of c = pair_behind c (inside_at (own_octet object_identifier) c 0 (length c))

abbrev pub elements_of : Option (List Element) → List Element
elements_of None = []
elements_of (Some es) = es

unfoldable pub rdn_of : List ℕ → List Pair
rdn_of c = map (λ e. pair_of e.contents) (elements_of (pairs_in c))

unfoldable pub name_of : List ℕ → List (List Pair)
name_of c = map (λ e. rdn_of e.contents) (elements_of (rdns_in c))
