-- The answer to a filter: a truth with the tests made, or a refusal. "Of 5 and 7 the first met is given, each value being reached just before its
-- test".
use Rattle.std.specs.Prelude.{ℕ, Bool, List, leb}
use Rattle.std.specs.Prelude.{Option, None, Some, Result, Ok, Err}
use Rattle.octets.specs.Pick.{pick, both}
use Rattle.rows.specs.Limits.{table_fits}
use Rattle.types.specs.Types.{Ty, type_at}
use Rattle.types.specs.Admitted.{admitted}
use Rattle.value.specs.Value.{Value}
use Rattle.value.specs.Decode.{stored_value}
use Rattle.value.specs.Check.{value_fits}
use Rattle.rules.specs.Rule.{Known}
use Rattle.filter.specs.Filter.{Item, Filter}
use Rattle.filter.specs.Parse.{filter_fits, parse}
use Rattle.engine.specs.Limits.{Limits}
use Rattle.evaluation.specs.Truth.{Truth, TRUE, FALSE, UNDEFINED}
use Rattle.evaluation.specs.Reading.{Outcome, settled, reading}
use Rattle.evaluation.specs.Assertion.{outcome}
use Rattle.engine.specs.Misfit.{meets_misfit}
use Rattle.table.specs.declared.Refusal.{Refusal}
use Rattle.table.specs.Check.{refusal_number}
use Rattle.engine.specs.declared.Answer.{Answer}

-- a refusal number, 0 for none; the truth and the number of tests. A refusal "returns its number, no truth and count 0"
pub record Report : Type 0 where
  pub refusal : ℕ
  pub truth : Option Truth
  pub tests : ℕ

abbrev pub refused : ℕ → Report
refused n = record { refusal = n; truth = None; tests = 0 }

abbrev pub answers : Truth → ℕ → Report
answers t n = record { refusal = 0; truth = Some t; tests = n }

-- 5: "tests needed exceed the budget"; "A budget is enough if it is at least the tests needed."
unfoldable pub budgeted : ℕ → Outcome → Report
budgeted budget (settled t n) = pick (leb n budget) (answers t n) (refused 5)

-- 1: sizes and the budget
unfoldable pub question_fits : Limits → List ℕ → List ℕ → List ℕ → ℕ → Bool
question_fits l t v s budget = both (table_fits l.table t) (both (value_fits l.value v) (both (filter_fits l.filter s) (leb budget l.budget)))

-- a filter that has been read, put to a decoded value of a type; ks are the known rules
unfoldable pub evaluated : List Known → Ty → Value → Filter Item → Outcome
evaluated ks ty x f = reading (outcome ks ty x) f

-- 4: "value not as above"; 7 where a header that doesn't fit is met within the budget, else 5 where the tests needed exceed it
unfoldable pub with_value : List Known → Ty → List ℕ → ℕ → Filter Item → Option Value → Report
with_value ks ty v budget f None = refused 4
with_value ks ty v budget f (Some x) = pick (meets_misfit ks ty v budget f) (refused 7) (budgeted budget (evaluated ks ty x f))

-- 3: "filter not of the form above, or over depth or items"; then the others, by the value of the type of row 0 that the octets decode to
unfoldable pub with_filter : List Known → Ty → List ℕ → ℕ → Option (Filter Item) → Report
with_filter ks ty v budget None = refused 3
with_filter ks ty v budget (Some f) = with_value ks ty v budget f (stored_value ty v)

-- 2, then 3 and the others
unfoldable pub question_of : Limits → List Known → List ℕ → List ℕ → List ℕ → ℕ → Report
question_of l ks t v s budget = pick (admitted l.table t) (with_filter ks (type_at l.table t 0) v budget (parse l.filter s)) (refused 2)

-- 1, then the others
unfoldable pub ask_report : Limits → List Known → List ℕ → List ℕ → List ℕ → ℕ → Report
ask_report l ks t v s budget = pick (question_fits l t v s budget) (question_of l ks t v s budget) (refused 1)

-- ---- what the code's answer says
abbrev pub report : Result Answer Refusal → Report
report (Ok (Answer.True n)) = answers TRUE n
report (Ok (Answer.False n)) = answers FALSE n
report (Ok (Answer.Undefined n)) = answers UNDEFINED n
report (Err r) = refused (refusal_number r)
