-- An answer as two numbers: what it is, and a count, which is 0 with a refusal. The first is 0 for done, a refusal's number, a truth's: 16 FALSE,
-- 17 TRUE, 18 Undefined, or why nothing was quoted or escaped: 32 an empty text, 33 not UTF-8, 34 too little room.
use Rattle.std.specs.Prelude.{Result, Ok, Err}
use Rattle.std.specs.Prelude.{ℕ, Bool, not, List, length, eqb}
use Rattle.std.specs.Prelude.{Option, None, Some}
use Rattle.octets.specs.Octets.{part}
use Rattle.types.specs.Check.{TableReport}
use Rattle.value.specs.Check.{ValueReport}
use Rattle.value.specs.Part.{PartReport}
use Rattle.quote.specs.declared.QuoteError.{QuoteError}
use Rattle.quote.specs.Quote.{Quoting}
use Rattle.escape.specs.declared.EscapeError.{EscapeError}
use Rattle.escape.specs.Escape.{Escaping}
use Rattle.evaluation.specs.Truth.{Truth, TRUE, FALSE, UNDEFINED}
use Rattle.engine.specs.Answer.{Report}
use Rattle.engine.specs.Listing.{ListReport, Listing}
use Rattle.capi.specs.declared.CAnswer.{CAnswer}

-- a flag: any number but 0
abbrev pub is_set : ℕ → Bool
is_set n = not (eqb n 0)

abbrev pub numbers : ℕ → ℕ → CAnswer
numbers number count = record { number = number; count = count }

-- the table check: the count is the number of rows
abbrev pub of_table : TableReport → CAnswer
of_table r = numbers r.refusal r.rows

-- the value check has no count
abbrev pub of_value : ValueReport → CAnswer
of_value r = numbers r.refusal 0

-- ---- the part of a value: the count is its octets, which stand in the value from the place on
pub record CPart : Type 0 where
  pub answer : CAnswer
  pub octets : List ℕ

abbrev pub of_part : PartReport → CPart
of_part r = record { answer = numbers r.refusal (length r.octets); octets = r.octets }

-- what a caller has of it
abbrev pub part_seen : List ℕ → ℕ → CAnswer → CPart
part_seen value place a = record { answer = a; octets = part value place a.count }

-- ---- an answer with the lent memory afterwards
pub record CWritten : Type 0 where
  pub answer : CAnswer
  pub memory : List ℕ

-- what a caller has of it
abbrev pub written_seen : CAnswer → List ℕ → CWritten
written_seen a memory = record { answer = a; memory = memory }

-- the listing: the count is the number of named values
abbrev pub of_listed : ListReport → CAnswer
of_listed r = numbers r.refusal r.count

abbrev pub of_listing : Listing → CWritten
of_listing l = written_seen (of_listed l.report) l.memory

-- the quoted form of a text: the count is the octets written
abbrev pub of_quoted : Result ℕ QuoteError → CAnswer
of_quoted (Ok n) = numbers 0 n
of_quoted (Err QuoteError.Empty) = numbers 32 0
of_quoted (Err QuoteError.NotUtf8) = numbers 33 0
of_quoted (Err QuoteError.TooLittleRoom) = numbers 34 0

abbrev pub of_quoting : Quoting → CWritten
of_quoting q = written_seen (of_quoted q.answer) q.memory

-- a value escaped for a name: the count is the octets written
abbrev pub of_escaped : Result ℕ EscapeError → CAnswer
of_escaped (Ok n) = numbers 0 n
of_escaped (Err EscapeError.NotUtf8) = numbers 33 0
of_escaped (Err EscapeError.TooLittleRoom) = numbers 34 0

abbrev pub of_escaping : Escaping → CWritten
of_escaping e = written_seen (of_escaped e.answer) e.memory

-- ---- the answer to a filter: the count is the tests made
abbrev pub truth_number : ℕ → Option Truth → ℕ
truth_number refusal None = refusal
truth_number refusal (Some FALSE) = 16
truth_number refusal (Some TRUE) = 17
truth_number refusal (Some UNDEFINED) = 18

abbrev pub of_report : Report → CAnswer
of_report r = numbers (truth_number r.refusal r.truth) r.tests
