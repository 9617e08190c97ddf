-- The five entries' answers as lists of numbers, for comparing with another program: a refusal is its number alone; any other answer begins with 0.
use Rattle.std.specs.Prelude.{ℕ, Bool, eqb, List, [], ◌∷◌, take, replicate, ◌*◌}
use Rattle.std.specs.Prelude.{Option, None, Some}
use Rattle.octets.specs.Pick.{pick}
use Rattle.octets.specs.Octets as octets
use Prim.Native.String.{String}
use Rattle.rows.specs.Paper.{table_limits}
use Rattle.types.specs.Check as table
use Rattle.value.specs.Paper.{value_limits}
use Rattle.value.specs.Check as value
use Rattle.value.specs.Part as part
use Rattle.rules.specs.Rule.{known_rules}
use Rattle.engine.specs.Paper.{limits}
use Rattle.evaluation.specs.Truth.{Truth, TRUE, FALSE, UNDEFINED}
use Rattle.engine.specs.Answer as answer
use Rattle.engine.specs.Listing as listing

abbrev pub hex : String → List ℕ
hex s = octets.hex s

-- a refusal alone, or 0 and what follows it
abbrev pub answered : ℕ → List ℕ → List ℕ
answered refusal rest = pick (eqb refusal 0) (0 ∷ rest) (refusal ∷ [])

-- then the number of rows
abbrev pub show_table : table.TableReport → List ℕ
show_table r = answered r.refusal (r.rows ∷ [])

abbrev pub shown_table : List ℕ → List ℕ
shown_table t = show_table (table.table_report table_limits t)

abbrev pub show_value : value.ValueReport → List ℕ
show_value r = answered r.refusal []

abbrev pub shown_value : List ℕ → List ℕ → List ℕ
shown_value t v = show_value (value.value_report table_limits value_limits t v)

-- then the octets
abbrev pub show_part : part.PartReport → List ℕ
show_part r = answered r.refusal r.octets

abbrev pub shown_part : List ℕ → ℕ → ℕ → List ℕ
shown_part v place size = show_part (part.part_report value_limits v place size)

-- 3 for no truth
abbrev pub truth_number : Option Truth → ℕ
truth_number (Some FALSE) = 0
truth_number (Some TRUE) = 1
truth_number (Some UNDEFINED) = 2
truth_number None = 3

-- then the truth and the tests
abbrev pub show_answer : answer.Report → List ℕ
show_answer r = answered r.refusal (truth_number r.truth ∷ r.tests ∷ [])

abbrev pub shown_ask : List ℕ → List ℕ → List ℕ → ℕ → List ℕ
shown_ask t v f budget = show_answer (answer.ask_report limits known_rules t v f budget)

-- then the number of values and their numbers
abbrev pub show_listing : listing.Listing → List ℕ
show_listing l = answered l.report.refusal (l.report.count ∷ take (l.report.count * 3) l.memory)

-- the room is so many zeros
abbrev pub shown_list : List ℕ → List ℕ → Bool → List ℕ → Bool → ℕ → List ℕ
shown_list t v given r defaults room = show_listing (listing.list_report limits t v given r defaults (replicate room 0))
