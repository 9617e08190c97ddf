-- Computed examples.
use Rattle.std.specs.Prelude.{Ok, Err}
use Rattle.std.specs.Prelude.{◌≡◌, refl, true, List, [], ◌∷◌, ◌++◌, map, ℕ, length}
use Rattle.std.specs.Prelude.{Option, None, Some}
use Rattle.octets.specs.Octets.{bytes, hex}
use Rattle.assertion.specs.Item.{Item}
use Rattle.assertion.specs.Assertion.{Read, read_to, assertion_at}
use Rattle.quote.specs.declared.QuoteError.{QuoteError}
use Rattle.quote.specs.Quote.{quoted, quoting, quoted_report}
use Rattle.quote.specs.Reading.{opening_at}
use Rattle.quote.specs.Computing.{quote_computes}

-- the texts a, "", ", a"b}
forms : map quoted (bytes "a" ∷ [] ∷ bytes "\"" ∷ bytes "a\"b}" ∷ []) ≡ bytes "\"a\"" ∷ bytes "\"\"" ∷ bytes "\"\"\"\"" ∷ bytes "\"a\"\"b}\"" ∷ []
unfolding quote_computes
forms = refl

-- room of four and of three octets for the text "; no text; a text that isn't UTF-8, in no room
answers : quoted_report (bytes "\"") (bytes "wxyz!") ∷ quoted_report (bytes "\"") (bytes "xyz") ∷ quoted_report [] (bytes "xyz") ∷ quoted_report (hex "C2") [] ∷ []
    ≡ quoting (Ok 4) (bytes "\"\"\"\"!") ∷ quoting (Err QuoteError.TooLittleRoom) (bytes "xyz") ∷ quoting (Err QuoteError.Empty) (bytes "xyz")
    ∷ quoting (Err QuoteError.NotUtf8) [] ∷ []
unfolding quote_computes
answers = refl

-- ---- a text that holds the end of an item and further items, as the value of an item
before : List ℕ
before = bytes "and:{item:{component \"event\",rule caseExactMatch,value "

text : List ℕ
text = bytes "x\"},item:{rule presentMatch,value NULL},item:{rule presentMatch,value \""

-- the value text of the assertion that is read
value_of : Option (Read Item) → Option (List ℕ)
value_of None = None
value_of (Some p) = Some p.is.value

-- the assertion is open up to its value text
opening : opening_at (before ++ (34 ∷ [])) 10
    ≡ read_to (record { component = Some (bytes "event"); defaults = true; rule = bytes "caseExactMatch" }) (length before)
unfolding quote_computes before
opening = refl

-- the text alone in quotes ends its item; quoted it is the value, and the item ends behind it
unquoted-text : value_of (assertion_at (before ++ ((34 ∷ text) ++ bytes "\"}}")) 10) ≡ Some (bytes "\"x\"")
unfolding quote_computes before text value_of
unquoted-text = refl

quoted-text : value_of (assertion_at (before ++ (quoted text ++ bytes "}}")) 10) ≡ Some (quoted text)
unfolding quote_computes before text value_of
quoted-text = refl
