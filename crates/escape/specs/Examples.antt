-- Computed examples.
use Rattle.std.specs.Prelude.{Ok, Err}
use Rattle.std.specs.Prelude.{◌≡◌, refl, true, List, [], ◌∷◌, map}
use Rattle.std.specs.Prelude.{Some}
use Prim.Native.String.{String}
use Rattle.octets.specs.Octets.{bytes, hex}
use Rattle.names.specs.Rfc4514.{Attribute, distinguished_name}
use Rattle.escape.specs.declared.EscapeError.{EscapeError}
use Rattle.escape.specs.Escape.{escaped_text, escaping, escaped_report}
use Rattle.escape.specs.Building.{name_text, is_name}
use Rattle.escape.specs.Computing.{escape_computes}

forms : map escaped_text (map bytes ("Steven Legg" ∷ " a " ∷ "#a" ∷ "a#" ∷ "a,b+c\"d\\e<f>g;h=i" ∷ "" ∷ " " ∷ "  " ∷ "   " ∷ "#" ∷ "# #" ∷ []))
    ≡ map bytes
    ("Steven Legg" ∷ "\\ a\\ " ∷ "\\#a" ∷ "a#" ∷ "a\\,b\\+c\\\"d\\\\e\\<f\\>g\\;h=i" ∷ "" ∷ "\\ " ∷ "\\ \\ " ∷ "\\  \\ " ∷ "\\#" ∷ "\\# #" ∷ [])
unfolding escape_computes
forms = refl

-- NUL, alone and between digits; é; control characters
others : map escaped_text (hex "00" ∷ hex "300030" ∷ hex "C3A9" ∷ hex "0A7F" ∷ [])
    ≡ bytes "\\00" ∷ bytes "0\\000" ∷ hex "C3A9" ∷ hex "0A7F" ∷ []
unfolding escape_computes
others = refl

-- room of two octets and more, and of one, for the text `,`; no text, in no room; a text that isn't UTF-8, in no room
answers : escaped_report (bytes ",") (bytes "yz") ∷ escaped_report (bytes ",") (bytes "yz!") ∷ escaped_report (bytes ",") (bytes "z") ∷ escaped_report [] []
    ∷ escaped_report (hex "C3") [] ∷ []
    ≡ escaping (Ok 2) (bytes "\\,") ∷ escaping (Ok 2) (bytes "\\,!") ∷ escaping (Err EscapeError.TooLittleRoom) (bytes "z")
    ∷ escaping (Ok 0) [] ∷ escaping (Err EscapeError.NotUtf8) [] ∷ []
unfolding escape_computes
answers = refl

-- ---- a name
abbrev attribute : String → String → Attribute
attribute type text = record { type = bytes type; value = bytes text }

-- texts that hold the end of a value, and further pairs and RDNs; and an empty text
attributes : List (List Attribute)
attributes = (attribute "2.5.4.3" "#a,2.5.4.6=AU " ∷ attribute "2.5.4.11" "x+2.5.4.6=\\" ∷ []) ∷ (attribute "2.5.4.10" "" ∷ []) ∷ []

built : name_text attributes ≡ bytes "2.5.4.3=\\#a\\,2.5.4.6=AU\\ +2.5.4.11=x\\+2.5.4.6=\\\\,2.5.4.10="
unfolding escape_computes attributes
built = refl

limits : is_name attributes ≡ true
unfolding escape_computes attributes
limits = refl

back : distinguished_name (name_text attributes) ≡ Some attributes
unfolding escape_computes attributes
back = refl

-- the text `x,2.5.4.6=AU` as a value without escapes ends before its comma
unescaped : distinguished_name (bytes "2.5.4.3=x,2.5.4.6=AU") ≡ Some ((attribute "2.5.4.3" "x" ∷ []) ∷ (attribute "2.5.4.6" "AU" ∷ []) ∷ [])
unfolding escape_computes
unescaped = refl
