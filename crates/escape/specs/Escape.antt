-- The value of an attribute as a name has it: RFC 4514 section 2.4, on a text in UTF-8. "If that UTF-8-encoded Unicode string does not have any of the
-- following characters that need escaping, then that string can be used as the string representation of the value."
use Rattle.std.specs.Prelude.{Result, Ok, Err}
use Rattle.std.specs.Prelude.{ℕ, Bool, true, false, List, [], ◌∷◌, ◌++◌, length, drop, leb, eqb}
use Rattle.octets.specs.Pick.{pick, both, either}
use Rattle.octets.specs.Utf8.{utf8}
use Rattle.escape.specs.declared.EscapeError.{EscapeError}

-- "one of the characters `"`, `+`, `,`, `;`, `<`, `>`, or `\`"
unfoldable pub always_escaped : ℕ → Bool
always_escaped b = either (eqb b 34) (either (eqb b 43) (either (eqb b 44) (either (eqb b 59) (either (eqb b 60) (either (eqb b 62) (eqb b 92))))))

-- "a space or number sign occurring at the beginning of the string; a space character occurring at the end of the string"
unfoldable pub edge_escaped : Bool → Bool → ℕ → Bool
edge_escaped first last b = pick (eqb b 32) (either first last) (both (eqb b 35) first)

-- what is written for octet b, the first or the last of the text or not: for "the null (U+0000) character" a backslash and two hexadecimal digits, any other
-- of these "prefixed by a backslash"; else, `=` too, the octet itself
unfoldable pub escaped_octet : Bool → Bool → ℕ → List ℕ
escaped_octet first last b =
    pick (eqb b 0) (92 ∷ 48 ∷ 48 ∷ [])
    (pick (either (always_escaped b) (edge_escaped first last b)) (92 ∷ b ∷ [])
    (b ∷ []))

-- a text from its first octet on, or from a later one
unfoldable pub escaped_from : Bool → List ℕ → List ℕ
escaped_from first [] = []
escaped_from first (b ∷ s) = let r = escaped_from false s in escaped_octet first (eqb (length s) 0) b ++ r

abbrev pub escaped_text : List ℕ → List ℕ
escaped_text text = escaped_from true text

-- ---- answers
-- an answer, and the lent memory afterwards
pub record Escaping : Type 0 where
  pub answer : Result ℕ EscapeError
  pub memory : List ℕ

abbrev pub escaping : Result ℕ EscapeError → List ℕ → Escaping
escaping answer memory = record { answer = answer; memory = memory }

-- the escaped text from the start of the room, and no more; the answer has its length
abbrev pub written : List ℕ → List ℕ → Escaping
written text room = escaping (Ok (length (escaped_text text))) (escaped_text text ++ drop (length (escaped_text text)) room)

abbrev pub fits : List ℕ → ℕ → Bool
fits text size = leb (length (escaped_text text)) size

-- too little room, and nothing is written; or all of it
unfoldable pub escaped_into : List ℕ → List ℕ → Escaping
escaped_into text room = pick (fits text (length room)) (written text room) (escaping (Err EscapeError.TooLittleRoom) room)

-- a text that isn't UTF-8, and nothing is written; then as the room is
unfoldable pub escaped_report : List ℕ → List ℕ → Escaping
escaped_report text room = pick (utf8 text) (escaped_into text room) (escaping (Err EscapeError.NotUtf8) room)
