-- Computed examples of names as texts (document 02, Q-3).
use Rattle.std.specs.Prelude.{◌≡◌, refl, Bool, true, false, List, [], ◌∷◌, ◌++◌, map, ℕ, zero, suc}
use Rattle.std.specs.Prelude.{Option, None, Some}
use Prim.Native.String.{String}
use Rattle.octets.specs.Pick.{bind, is_some}
use Rattle.octets.specs.Octets.{bytes, hex}
use Rattle.octets.specs.Quoted.{unquoted}
use Rattle.names.specs.Rfc4514.{Attribute, distinguished_name, relative_distinguished_name}
use Rattle.names.specs.Computing.{names_compute}

abbrev conform : List String → List Bool
conform ts = map (λ t. is_some (distinguished_name (bytes t))) ts

abbrev attribute : String → String → Attribute
attribute t v = record { type = bytes t; value = bytes v }

-- the value of a text that is one attribute
abbrev only_value : List Attribute → Option (List ℕ)
only_value [] = None
only_value (a ∷ []) = Some a.value
only_value (a ∷ b ∷ l) = None

-- the value that stands after `2.5.4.3=`
abbrev value_of : List ℕ → Option (List ℕ)
value_of v = bind (relative_distinguished_name (bytes "2.5.4.3=" ++ v)) only_value

abbrev values : List String → List (Option (List ℕ))
values vs = map (λ v. value_of (bytes v)) vs

-- the value of a value text, with its quotes
abbrev quoted_value : String → Option (List ℕ)
quoted_value t = bind (unquoted (bytes t)) (λ s. bind (relative_distinguished_name s) only_value)

-- so many attributes `2.5=a` with an octet between them
abbrev copies : ℕ → ℕ → List ℕ
copies b zero = []
copies b (suc zero) = bytes "2.5=a"
copies b (suc (suc n)) = bytes "2.5=a" ++ (b ∷ copies b (suc n))

-- the last RDN stands first; pairs in an RDN
order : distinguished_name (bytes "2.5.4.3=Steven Legg,2.5.4.10=Adacel+2.5.4.11=x,2.5.4.6=AU")
    ≡ Some ((attribute "2.5.4.3" "Steven Legg" ∷ []) ∷ (attribute "2.5.4.10" "Adacel" ∷ attribute "2.5.4.11" "x" ∷ []) ∷ (attribute "2.5.4.6" "AU" ∷ []) ∷ [])
unfolding names_compute
order = refl

-- a type may stand twice in an RDN
twice : relative_distinguished_name (bytes "2.5.4.3=b+2.5.4.3=a") ≡ Some (attribute "2.5.4.3" "b" ∷ attribute "2.5.4.3" "a" ∷ [])
unfolding names_compute
twice = refl

-- no RDN is a name, and is no RDN
nothing : distinguished_name [] ≡ Some []
nothing = refl

no-rdn : map (λ t. is_some (relative_distinguished_name (bytes t))) ("" ∷ "2.5.4.3=a" ∷ "2.5.4.3=a,2.5.4.3=b" ∷ "2.5.4.3=a+2.5.4.3=b" ∷ [])
    ≡ false ∷ true ∷ false ∷ true ∷ []
unfolding names_compute
no-rdn = refl

-- values may be empty
empty : values ("" ∷ []) ≡ Some [] ∷ []
unfolding names_compute
empty = refl

empty_among : distinguished_name (bytes "2.5.4.3=+2.5.4.4=,2.5.4.5=")
    ≡ Some ((attribute "2.5.4.3" "" ∷ attribute "2.5.4.4" "" ∷ []) ∷ (attribute "2.5.4.5" "" ∷ []) ∷ [])
unfolding names_compute
empty_among = refl

-- no spaces around `,` `+` `=`; a semicolon isn't a comma
signs : conform
    ("2.5.4.3=a,2.5.4.4=b" ∷ "2.5.4.3=a, 2.5.4.4=b" ∷ "2.5.4.3=a ,2.5.4.4=b" ∷ "2.5.4.3=a+ 2.5.4=b" ∷ "2.5.4.3 =a" ∷ " 2.5.4.3=a" ∷ "2.5.4.3=a;2.5.4.4=b" ∷ [])
    ≡ true ∷ false ∷ false ∷ false ∷ false ∷ false ∷ false ∷ []
unfolding names_compute
signs = refl

-- nothing after the last sign; nothing but attributes
signs-last : conform ("2.5.4.3=a," ∷ "2.5.4.3=a+" ∷ ",2.5.4.3=a" ∷ "2.5.4.3=a,,2.5.4.4=b" ∷ "2.5.4.3" ∷ "=a" ∷ "a" ∷ " " ∷ [])
    ≡ false ∷ false ∷ false ∷ false ∷ false ∷ false ∷ false ∷ false ∷ []
unfolding names_compute
signs-last = refl

-- spaces at the ends of a value: bare, and escaped
spaces : values (" a" ∷ "a " ∷ " " ∷ "a  b" ∷ "\\ a\\ " ∷ "\\20a\\20" ∷ "\\ " ∷ "a\\  " ∷ " \\ a" ∷ "a \\ " ∷ [])
    ≡ None ∷ None ∷ None ∷ Some (bytes "a  b") ∷ Some (bytes " a ") ∷ Some (bytes " a ") ∷ Some (bytes " ") ∷ None ∷ None ∷ Some (bytes "a  ") ∷ []
unfolding names_compute
spaces = refl

-- pairs of hexadecimal digits are octets, in either case; the whole value is UTF-8
pairs : values ("\\c3\\A9" ∷ "\\C3a" ∷ "\\C3" ∷ "\\C3\\Adacel" ∷ "\\Adacel" ∷ "\\41cel" ∷ "\\00" ∷ "\\2C\\2b" ∷ [])
    ≡ Some (hex "C3A9") ∷ None ∷ None ∷ Some (hex "C3AD6163656C") ∷ None ∷ Some (bytes "Acel") ∷ Some (0 ∷ []) ∷ Some (bytes ",+") ∷ []
unfolding names_compute
pairs = refl

-- octets from 80 on, bare, and beside an escaped one
octets-high : map value_of (hex "C3A9" ∷ hex "C3" ∷ (hex "C3" ++ bytes "\\A9") ∷ (bytes "\\C3" ++ hex "A9") ∷ hex "EDA080" ∷ [])
    ≡ Some (hex "C3A9") ∷ None ∷ Some (hex "C3A9") ∷ Some (hex "C3A9") ∷ None ∷ []
unfolding names_compute
octets-high = refl

-- what may stand after a backslash
escapes : values ("\\\\" ∷ "\\\"" ∷ "\\+" ∷ "\\," ∷ "\\;" ∷ "\\<" ∷ "\\>" ∷ "\\ " ∷ "\\#" ∷ "\\=" ∷ "x\\,y\\+z" ∷ [])
    ≡ map (λ v. Some (bytes v)) ("\\" ∷ "\"" ∷ "+" ∷ "," ∷ ";" ∷ "<" ∷ ">" ∷ " " ∷ "#" ∷ "=" ∷ "x,y+z" ∷ [])
unfolding names_compute
escapes = refl

-- and what not: the end, another octet, one digit
escapes_wrong : values ("\\" ∷ "a\\" ∷ "\\-" ∷ "\\n" ∷ "\\4" ∷ "\\4g" ∷ "\\g4" ∷ "\\4\\1" ∷ "\\'" ∷ [])
    ≡ None ∷ None ∷ None ∷ None ∷ None ∷ None ∷ None ∷ None ∷ None ∷ []
unfolding names_compute
escapes_wrong = refl

-- octets that stand for themselves, `=` among them; and those that have to be escaped
bares : values ("a=b" ∷ "=" ∷ "a'b/c:d" ∷ "a;b" ∷ "a<b" ∷ "a>b" ∷ "a\"b" ∷ "\"a\"" ∷ [])
    ≡ Some (bytes "a=b") ∷ Some (bytes "=") ∷ Some (bytes "a'b/c:d") ∷ None ∷ None ∷ None ∷ None ∷ None ∷ []
unfolding names_compute
bares = refl

-- `#`: not first; escaped or later as any character
sharps : values ("#" ∷ "#04024869" ∷ "\\#04024869" ∷ "a#" ∷ "a#b" ∷ "\\23" ∷ [])
    ≡ None ∷ None ∷ Some (bytes "#04024869") ∷ Some (bytes "a#") ∷ Some (bytes "a#b") ∷ Some (bytes "#") ∷ []
unfolding names_compute
sharps = refl

-- controls: 01 to 1F and 7F bare, 00 escaped only
controls : map value_of ((1 ∷ []) ∷ (31 ∷ []) ∷ (127 ∷ []) ∷ (0 ∷ []) ∷ (97 ∷ 0 ∷ []) ∷ []) ≡ Some (1 ∷ []) ∷ Some (31 ∷ []) ∷ Some (127 ∷ []) ∷ None ∷ None ∷ []
unfolding names_compute
controls = refl

-- types: dotted alone, of any size
types : conform ("2.5.4.3=a" ∷ "2.5.4.4294967299=a" ∷ "2.5.99999999999999999999999=a" ∷ "0.39=a" ∷ "1.40=a" ∷ "3.1=a" ∷ "2.05=a" ∷ "2=a" ∷ "2.=a" ∷ [])
    ≡ true ∷ true ∷ true ∷ true ∷ false ∷ false ∷ false ∷ false ∷ false ∷ []
unfolding names_compute
types = refl

types_other : conform ("cn=a" ∷ "OID.2.5.4.3=a" ∷ "oid.2.5.4.3=a" ∷ "\\32.5.4.3=a" ∷ "2.5.4.3\\=a" ∷ "2.5.4.3#=a" ∷ "+2.5.4.3=a" ∷ [])
    ≡ false ∷ false ∷ false ∷ false ∷ false ∷ false ∷ false ∷ []
unfolding names_compute
types_other = refl

-- 16 RDNs, and 4 pairs in one; not 17, and not 5
limits : map (λ s. is_some (distinguished_name s))
    (copies 44 16 ∷ copies 44 17 ∷ copies 43 4 ∷ copies 43 5 ∷ (copies 43 4 ++ (44 ∷ copies 43 4)) ∷ (copies 43 4 ++ (44 ∷ copies 43 5)) ∷ [])
    ≡ true ∷ false ∷ true ∷ false ∷ true ∷ false ∷ []
unfolding names_compute
limits = refl

limits-rdn : map (λ s. is_some (relative_distinguished_name s)) (copies 43 4 ∷ copies 43 5 ∷ copies 44 2 ∷ []) ≡ true ∷ false ∷ false ∷ []
unfolding names_compute
limits-rdn = refl

-- value texts: "2.5.4.3=x\""" and "2.5.4.3=\""x", where two quotes are one; "2.5.4.3=x""", where it isn't escaped; rdnSequence:"2.5.4.3=x"; 2.5.4.3=x
quoted : map quoted_value
    ("\"2.5.4.3=x\\\"\"\"" ∷ "\"2.5.4.3=\\\"\"x\"" ∷ "\"2.5.4.3=x\"\"\"" ∷ "rdnSequence:\"2.5.4.3=x\"" ∷ "2.5.4.3=x" ∷ "\"2.5.4.3=x\"" ∷ [])
    ≡ Some (bytes "x\"") ∷ Some (bytes "\"x") ∷ None ∷ None ∷ None ∷ Some (bytes "x") ∷ []
unfolding names_compute
quoted = refl
