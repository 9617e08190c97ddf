-- Names built of escaped values.
use Rattle.std.specs.Prelude.{ℕ, ◌≡◌, Bool, true, List, [], ◌∷◌, ◌++◌, length, leb}
use Rattle.std.specs.Prelude.{Some}
use Rattle.octets.specs.Pick.{both}
use Rattle.octets.specs.Utf8.{utf8}
use Rattle.der.specs.Dotted.{is_dotted}
use Rattle.der.specs.Names.{most_rdns, most_pairs}
use Rattle.names.specs.Rfc4514.{Attribute, distinguished_name}
use Rattle.escape.specs.Escape.{escaped_text}

-- a type, `=` and the escaped value
abbrev pub pair_text : Attribute → List ℕ
pair_text a = a.type ++ (61 ∷ escaped_text a.value)

-- pairs with plus signs between them
unfoldable pub rdn_text : List Attribute → List ℕ
rdn_text [] = []
rdn_text (a ∷ []) = pair_text a
rdn_text (a ∷ b ∷ r) = pair_text a ++ (43 ∷ rdn_text (b ∷ r))

-- RDNs with commas between them
unfoldable pub name_text : List (List Attribute) → List ℕ
name_text [] = []
name_text (r ∷ []) = rdn_text r
name_text (r ∷ q ∷ rs) = rdn_text r ++ (44 ∷ name_text (q ∷ rs))

-- ---- within the limits of names: dotted types, values in UTF-8, 1 to 4 pairs in an RDN, 0 to 16 RDNs
unfoldable pub every_pair : List Attribute → Bool
every_pair [] = true
every_pair (a ∷ r) = let q = every_pair r in both (both (is_dotted a.type) (utf8 a.value)) q

abbrev pub is_rdn : List Attribute → Bool
is_rdn r = both (every_pair r) (both (leb 1 (length r)) (leb (length r) most_pairs))

unfoldable pub every_rdn : List (List Attribute) → Bool
every_rdn [] = true
every_rdn (r ∷ rs) = let q = every_rdn rs in both (is_rdn r) q

abbrev pub is_name : List (List Attribute) → Bool
is_name rs = both (every_rdn rs) (leb (length rs) most_rdns)

-- such a name is read back from its text, which is valid UTF-8
pub record ReadBack (rs : List (List Attribute)) : Type 0 where
  pub name : distinguished_name (name_text rs) ≡ Some rs
  pub characters : utf8 (name_text rs) ≡ true
