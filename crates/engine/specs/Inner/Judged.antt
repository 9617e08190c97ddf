-- What the evaluation of a filter comes to, as the code has it.
use Rattle.std.specs.Prelude.{ℕ}
use Rattle.std.specs.Prelude.{Option, None, Some, Result, Ok, Err}
use Rattle.table.specs.declared.Refusal.{Refusal}
use Rattle.filter.specs.Filter.{Item, Filter}
use Rattle.evaluation.specs.declared.Verdict.{Verdict}
use Rattle.evaluation.specs.declared.Judged.{Judged}
use Rattle.evaluation.specs.declared.Fault.{Fault}
use Rattle.engine.specs.Answer.{Report, refused, report}
use Rattle.engine.specs.declared.Answer.{Answer}

-- a refusal of what was read of a filter text, behind that of a text that is no filter
abbrev pub refused_behind : Refusal → Option (Filter Item) → Result Answer Refusal
refused_behind r None = Err Refusal.Form
refused_behind r (Some f) = Err r

-- a truth with the tests made, and what the evaluation of a filter comes to
abbrev pub settled_as : Verdict → ℕ → Answer
settled_as Verdict.True n = Answer.True n
settled_as Verdict.False n = Answer.False n
settled_as Verdict.Undefined n = Answer.Undefined n

abbrev pub judged_report : Result Judged Fault → Report
judged_report (Ok j) = report (Ok (settled_as j.verdict j.tests))
judged_report (Err e) = refused 5
