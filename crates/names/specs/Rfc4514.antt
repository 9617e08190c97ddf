-- Distinguished names as text: RFC 4514 section 3, with document 02's Q-3: "dotted attribute types and valid UTF-8 values only", "no `#` values", "0 to 16
-- RDNs, with 1 to 4 pairs in one"; "An asserted name beyond these limits doesn't conform."
--   distinguishedName         = [ relativeDistinguishedName *( COMMA relativeDistinguishedName ) ]
--   relativeDistinguishedName = attributeTypeAndValue *( PLUS attributeTypeAndValue )
--   attributeTypeAndValue     = attributeType EQUALS attributeValue
--   string                    = [ ( leadchar / pair ) [ *( stringchar / pair ) ( trailchar / pair ) ] ]
--   pair                      = ESC ( ESC / special / hexpair )
use Rattle.std.specs.Prelude.{ℕ, zero, suc, ◌+◌, ◌*◌, Bool, true, false, List, [], ◌∷◌, map, eqb}
use Rattle.std.specs.Prelude.{Option, None, Some}
use Rattle.octets.specs.Pick.{pick, both, either, no, bind, consed}
use Rattle.octets.specs.Text.{is_hex, hex_value}
use Rattle.octets.specs.Utf8.{utf8}
use Rattle.der.specs.Dotted.{is_dotted}
use Rattle.der.specs.Names.{most_rdns, most_pairs}

-- ---- letters: the octets of a text, with escapes
-- an octet that stands for itself, one that is escaped, or a backslash that escapes nothing
pub data Letter : Type 0 where
  bare : ℕ → Letter
  escaped : ℕ → Letter
  wrong : Letter

-- escaped = DQUOTE / PLUS / COMMA / SEMI / LANGLE / RANGLE
unfoldable pub is_reserved : ℕ → Bool
is_reserved b = either (eqb b 34) (either (eqb b 43) (either (eqb b 44) (either (eqb b 59) (either (eqb b 60) (eqb b 62)))))

-- special = escaped / SPACE / SHARP / EQUALS; and ESC itself
unfoldable pub is_special : ℕ → Bool
is_special b = either (eqb b 32) (either (eqb b 35) (either (eqb b 61) (either (eqb b 92) (is_reserved b))))

-- what comes of octets b, c and d (hexpair = HEX HEX), with the letters of the text after one, two and three of them
abbrev pub letter_of : ℕ → ℕ → ℕ → List Letter → List Letter → List Letter → List Letter
letter_of b c d one two three =
    pick (no (eqb b 92)) (bare b ∷ one)
    (pick (is_special c) (escaped c ∷ two)
    (pick (both (is_hex c) (is_hex d)) (escaped (hex_value c * 16 + hex_value d) ∷ three)
    (wrong ∷ [])))

unfoldable pub letters : List ℕ → List Letter
letters [] = []
letters (b ∷ []) = pick (eqb b 92) (wrong ∷ []) (bare b ∷ [])
letters (b ∷ c ∷ []) = let one = letters (c ∷ []) in pick (no (eqb b 92)) (bare b ∷ one) (pick (is_special c) (escaped c ∷ []) (wrong ∷ []))
letters (b ∷ c ∷ d ∷ s) =
    let one = letters (c ∷ d ∷ s) in
    let two = letters (d ∷ s) in
    let three = letters s in
    letter_of b c d one two three

-- ---- attributeValue
-- a comma or a plus sign that isn't escaped: an attributeTypeAndValue ends before it
abbrev pub ends : Letter → Bool
ends (bare b) = either (eqb b 43) (eqb b 44)
ends (escaped b) = false
ends wrong = false

unfoldable pub up_to_end : List Letter → List Letter
up_to_end [] = []
up_to_end (l ∷ ls) = let r = up_to_end ls in pick (ends l) [] (l ∷ r)

unfoldable pub from_end : List Letter → List Letter
from_end [] = []
from_end (l ∷ ls) = let r = from_end ls in pick (ends l) (l ∷ ls) r

-- stringchar: SUTF1 is any octet but NUL, escaped and ESC; UTFMB from 80 on. leadchar: but for SPACE and SHARP; trailchar: but for SPACE
unfoldable pub is_string_char : ℕ → Bool
is_string_char b = no (either (eqb b 0) (either (eqb b 92) (is_reserved b)))

abbrev pub may_stand : Letter → Bool
may_stand (bare b) = is_string_char b
may_stand (escaped b) = true
may_stand wrong = false

abbrev pub may_lead : Letter → Bool
may_lead (bare b) = no (either (eqb b 32) (eqb b 35))
may_lead (escaped b) = true
may_lead wrong = false

abbrev pub may_trail : Letter → Bool
may_trail (bare b) = no (eqb b 32)
may_trail (escaped b) = true
may_trail wrong = false

abbrev pub octet_of : Letter → ℕ
octet_of (bare b) = b
octet_of (escaped b) = b
octet_of wrong = 0

unfoldable pub every_letter : List Letter → Bool
every_letter [] = true
every_letter (l ∷ ls) = let r = every_letter ls in both (may_stand l) r

abbrev pub leads : List Letter → Bool
leads [] = true
leads (l ∷ ls) = may_lead l

unfoldable pub trails : List Letter → Bool
trails [] = true
trails (l ∷ []) = may_trail l
trails (l ∷ m ∷ ls) = trails (m ∷ ls)

-- string; "valid UTF-8 values only", after escapes are taken away
unfoldable pub is_string : List Letter → Bool
is_string v = both (leads v) (both (every_letter v) (both (trails v) (utf8 (map octet_of v))))

-- ---- attributeTypeAndValue
pub record Attribute : Type 0 where
  -- the dotted text
  pub type : List ℕ
  -- the octets of the value
  pub value : List ℕ

-- what was read, and the letters after it
pub record Read (A : Type 0) : Type 0 where
  pub got : A
  pub rest : List Letter

abbrev pub with_first : {A : Type 0} → A → Option (Read (List A)) → Option (Read (List A))
with_first a None = None
with_first a (Some r) = Some (record { got = a ∷ r.got; rest = r.rest })

-- attributeType and EQUALS: octets that stand for themselves up to the first `=`
unfoldable pub type_from : List Letter → Option (Read (List ℕ))
type_from [] = None
type_from (bare b ∷ ls) = let r = type_from ls in pick (eqb b 61) (Some (record { got = []; rest = ls })) (with_first b r)
type_from (escaped b ∷ ls) = None
type_from (wrong ∷ ls) = None

abbrev pub with_value : Read (List ℕ) → Option (Read Attribute)
with_value t =
    pick (both (is_dotted t.got) (is_string (up_to_end t.rest)))
    (Some (record { got = record { type = t.got; value = map octet_of (up_to_end t.rest) }; rest = from_end t.rest }))
    None

unfoldable pub attribute_from : List Letter → Option (Read Attribute)
attribute_from ls = bind (type_from ls) with_value

-- ---- relativeDistinguishedName: attributes, at most so many, each but the last before a plus sign
abbrev pub is_before : ℕ → List Letter → Bool
is_before b [] = false
is_before b (bare c ∷ ls) = eqb c b
is_before b (escaped c ∷ ls) = false
is_before b (wrong ∷ ls) = false

abbrev pub behind : List Letter → List Letter
behind [] = []
behind (l ∷ ls) = ls

unfoldable pub rdn_from : ℕ → List Letter → Option (Read (List Attribute))
rdn_from zero ls = None
rdn_from (suc most) ls =
    bind (attribute_from ls) (λ a.
    pick (is_before 43 a.rest) (with_first a.got (rdn_from most (behind a.rest)))
    (Some (record { got = a.got ∷ []; rest = a.rest })))

-- ---- distinguishedName: RDNs, at most so many, each but the last before a comma
unfoldable pub rdns_from : ℕ → List Letter → Option (List (List Attribute))
rdns_from zero ls = None
rdns_from (suc most) ls =
    bind (rdn_from most_pairs ls) (λ r.
    pick (is_before 44 r.rest) (consed r.got (rdns_from most (behind r.rest)))
    (Some (r.got ∷ [])))

-- the RDNs of a text in its order, the last RDN of the name first; none where it doesn't conform
abbrev pub distinguished_name : List ℕ → Option (List (List Attribute))
distinguished_name [] = Some []
distinguished_name (b ∷ s) = rdns_from most_rdns (letters (b ∷ s))

-- one RDN
abbrev pub if_ended : List Attribute → List Letter → Option (List Attribute)
if_ended attributes [] = Some attributes
if_ended attributes (l ∷ ls) = None

abbrev pub alone : Option (Read (List Attribute)) → Option (List Attribute)
alone None = None
alone (Some r) = if_ended r.got r.rest

unfoldable pub relative_distinguished_name : List ℕ → Option (List Attribute)
relative_distinguished_name s = alone (rdn_from most_pairs (letters s))
