-- The quoted form of a text: "Strings: quoted, `""` for a quote, at least one character."
use Rattle.std.specs.Prelude.{Result, Ok, Err}
use Rattle.std.specs.Prelude.{ℕ, Bool, List, [], ◌∷◌, ◌++◌, length, drop, leb, eqb}
use Rattle.octets.specs.Pick.{pick}
use Rattle.octets.specs.Utf8.{utf8}
use Rattle.quote.specs.declared.QuoteError.{QuoteError}

-- each quote of a text twice
unfoldable pub doubled : List ℕ → List ℕ
doubled [] = []
doubled (b ∷ s) = let r = doubled s in pick (eqb b 34) (34 ∷ 34 ∷ r) (b ∷ r)

-- a quote, the text with each quote twice, a quote
unfoldable pub quoted : List ℕ → List ℕ
quoted text = 34 ∷ (doubled text ++ (34 ∷ []))

-- an answer, and the lent memory afterwards
pub record Quoting : Type 0 where
  pub answer : Result ℕ QuoteError
  pub memory : List ℕ

abbrev pub quoting : Result ℕ QuoteError → List ℕ → Quoting
quoting answer memory = record { answer = answer; memory = memory }

-- the quoted form from the start of the room, and no more; the answer has its length
abbrev pub written : List ℕ → List ℕ → Quoting
written text room = quoting (Ok (length (quoted text))) (quoted text ++ drop (length (quoted text)) room)

abbrev pub fits : List ℕ → ℕ → Bool
fits text size = leb (length (quoted text)) size

-- too little room, and nothing is written; or all of it
unfoldable pub quoted_into : List ℕ → List ℕ → Quoting
quoted_into text room = pick (fits text (length room)) (written text room) (quoting (Err QuoteError.TooLittleRoom) room)

-- an empty text, then one that isn't UTF-8, and nothing is written; then as the room is
unfoldable pub quoted_report : List ℕ → List ℕ → Quoting
quoted_report text room =
    pick (eqb (length text) 0) (quoting (Err QuoteError.Empty) room)
    (pick (utf8 text) (quoted_into text room) (quoting (Err QuoteError.NotUtf8) room))
