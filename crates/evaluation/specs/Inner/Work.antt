-- What the code's answers say: a truth with the tests made, within a budget, for an assertion, a filter and the filters of a list.
use Rattle.std.specs.Prelude.{ℕ, ◌+◌, ◌≤◌, ◌≡◌, Bool, true, false, List, length, leb}
use Rattle.std.specs.Prelude.{Option, None, Some, Result, Ok, Err}
use Rattle.octets.specs.Pick.{pick, bind, is_some}
use Rattle.rows.specs.Paper.{table_limits}
use Rattle.types.specs.Types.{Ty}
use Rattle.types.specs.Admitted.{admitted}
use Rattle.table.specs.Inner.Rows.{table_rows, type_at}
use Rattle.table.specs.Inner.Words.{Worded}
use Rattle.value.specs.Value.{Value}
use Rattle.value.specs.Decode.{stored_value}
use Rattle.reference.specs.Reference.{Id, identifiers}
use Rattle.reference.specs.Allowed.{Target, allowed}
use Rattle.reference.specs.Inner.Work.{report_target}
use Rattle.reference.specs.declared.Target as target
use Rattle.rules.specs.Rule.{Rule, known_rules}
use Rattle.rules.specs.Suits.{suits}
use Rattle.plan.specs.Inner.Test.{Test, bits_test}
use Rattle.plan.specs.Inner.Plan.{Planned}
use Rattle.plan.specs.Inner.Resolve.{Lands}
use Rattle.walk.specs.declared.State.{State}
use Rattle.assertion.specs.Assertion.{Read}
use Rattle.filter.specs.Filter.{Item, Join, and, or, Filter, Filters}
use Rattle.filter.specs.Inner.Answers.{bounded, bounded_in, rest_of}
use Rattle.evaluation.specs.Truth.{Truth, TRUE, FALSE, UNDEFINED, opposite}
use Rattle.evaluation.specs.Reading.{Outcome, settled, of_none, with_rest, reading, reading_in}
use Rattle.evaluation.specs.Assertion.{outcome}
use Rattle.evaluation.specs.declared.Verdict.{Verdict}
use Rattle.evaluation.specs.declared.Judged.{Judged}
use Rattle.evaluation.specs.declared.Judging.{Judging}
use Rattle.evaluation.specs.declared.Fault.{Fault}
use Rattle.evaluation.specs.declared.Progress.{Progress}

-- what evaluation rests on: the words w of an admitted table t, a stored value v of the type of row 0, and a filter text f within its limit
pub record Ready (t w v f : List ℕ) : Type 0 where
  pub worded : Worded t w
  pub admits : admitted table_limits t ≡ true
  pub short : length v ≤ 65536
  pub stored : is_some (stored_value (type_at t 0) v) ≡ true
  pub brief : length f ≤ 2048

-- ---- truths
abbrev pub verdict_of : Truth → Verdict
verdict_of TRUE = Verdict.True
verdict_of FALSE = Verdict.False
verdict_of UNDEFINED = Verdict.Undefined

abbrev pub opposed : Verdict → Verdict
opposed Verdict.True = Verdict.False
opposed Verdict.False = Verdict.True
opposed Verdict.Undefined = Verdict.Undefined

-- a truth after so many tests; the same with the place after the filter and the items left
abbrev pub judged : Verdict → ℕ → Judged
judged u k = record { verdict = u; tests = k }

abbrev pub judging : Verdict → ℕ → ℕ → ℕ → Judging
judging u k after left = record { judged = judged u k; after = after; items = left }

-- ---- an assertion
-- its outcome for the value that octets decode to; of other octets nothing is asked
abbrev pub outcome_for : Ty → Option Value → Item → Outcome
outcome_for ty None i = settled UNDEFINED 0
outcome_for ty (Some x) i = outcome known_rules ty x i

unfoldable pub stored_outcome : Ty → List ℕ → Item → Outcome
stored_outcome ty v i = outcome_for ty (stored_value ty v) i

-- what the code's target is, by the table t
abbrev pub target_of : List ℕ → Option target.Target → Option Target
target_of t g = report_target table_limits.chain t (table_rows t) g

-- what a reference leads to from a type, if it leads anywhere
abbrev pub leads_by : Option (List ℕ) → Ty → Option Target
leads_by component ty = bind (identifiers component) (λ is. allowed is ty)

-- a rule is for it
abbrev pub suits_any : Rule → Option Target → Bool
suits_any r None = false
suits_any r (Some g) = suits r g

-- the test of a rule of bits there
abbrev pub bits_any : Rule → Option Target → List ℕ → Option Test
bits_any r None x = None
bits_any r (Some g) x = bits_test r g x

-- the identifiers of a reference that leads to g are planned, for a test with the operand x
unfoldable pub PlannedFor : List ℕ → List ℕ → List ℕ → Bool → Option (List ℕ) → Option target.Target → Type 0
PlannedFor t q x defaults component g = (is : List Id) → identifiers component ≡ Some is → Lands g → Planned t q x defaults 1 (type_at t 0) is

-- what the end of a walk says
abbrev pub ended : State → Result Judged Fault
ended (State.Going k) = Ok (judged Verdict.False k)
ended (State.Accepted k) = Ok (judged Verdict.True k)
ended State.Over = Err Fault.Over

-- ---- tests within a budget
-- an outcome after n tests
unfoldable pub charged : ℕ → ℕ → Outcome → Result Judged Fault
charged budget n (settled t k) = pick (leb (n + k) budget) (Ok (judged (verdict_of t) (n + k))) (Err Fault.Over)

-- the same with the place after the filter
pub data Ended : Type 0 where
  ends : Verdict → ℕ → ℕ → Ended
  over : Ended

abbrev pub placed : ℕ → Result Judged Fault → Ended
placed after (Ok j) = ends j.verdict j.tests after
placed after (Err e) = over

-- a filter that is passed over makes no test
abbrev pub judged_if : Bool → ℕ → ℕ → Outcome → ℕ → Ended
judged_if true budget n o after = placed after (charged budget n o)
judged_if false budget n o after = ends Verdict.Undefined n after

-- under `not`
abbrev pub inverse : Ended → Ended
inverse (ends u k after) = ends (opposed u) k after
inverse over = over

-- a filter that was read; of a text that was not nothing is asked
unfoldable pub judged_filter : (Item → Outcome) → Bool → ℕ → ℕ → Option (Read (Filter Item)) → Ended
judged_filter says live budget n None = over
judged_filter says live budget n (Some r) = judged_if live budget n (reading says r.is) r.after

-- ---- the filters of a list, from one of them on
-- the rest's outcome behind an Undefined filter
abbrev pub unsure : Join → Outcome → Outcome
unsure j (settled u k) = settled (with_rest j UNDEFINED u) k

-- the rest of a list, by what the filters before it were
abbrev pub judged_rest : Join → Progress → ℕ → ℕ → Outcome → ℕ → Ended
judged_rest j Progress.Plain budget n o after = placed after (charged budget n o)
judged_rest j Progress.Unsure budget n o after = placed after (charged budget n (unsure j o))
judged_rest j Progress.Stopped budget n o after = ends (verdict_of (opposite (of_none j))) n after
judged_rest j Progress.Passed budget n o after = ends Verdict.Undefined n after

unfoldable pub judged_filters : (Item → Outcome) → Join → Progress → ℕ → ℕ → Option (Read (Filters Item)) → Ended
judged_filters says j p budget n None = over
judged_filters says j p budget n (Some r) = judged_rest j p budget n (reading_in says j r.is) r.after

-- ---- what the code says where it reads and judges: the place after the filter and the items left, with the truth; a text that is no filter, or not within
-- the depth d and so many items; or more tests than the budget, and then nothing of the text behind
abbrev pub JudgedAs : (Item → Outcome) → ℕ → ℕ → Bool → ℕ → ℕ → Option (Read (Filter Item)) → Result Judging Fault → Type 0
JudgedAs says d room live budget n x (Ok g) =
    (Some (rest_of g.after g.items) ≡ bounded d room x) × ((g.judged.tests ≤ budget) × (ends g.judged.verdict g.judged.tests g.after ≡ judged_filter says live budget n x))
JudgedAs says d room live budget n x (Err Fault.Over) = is_some x ≡ true → over ≡ judged_filter says live budget n x
JudgedAs says d room live budget n x (Err Fault.Malformed) = None ≡ bounded d room x

unfoldable pub Judges : (Item → Outcome) → ℕ → ℕ → Bool → ℕ → ℕ → Option (Read (Filter Item)) → Result Judging Fault → Type 0
Judges says d room live budget n x w = JudgedAs says d room live budget n x w

abbrev pub JudgedInAs : (Item → Outcome) → Join → Progress → ℕ → ℕ → ℕ → ℕ → Option (Read (Filters Item)) → Result Judging Fault → Type 0
JudgedInAs says j p d room budget n x (Ok g) =
    (Some (rest_of g.after g.items) ≡ bounded_in d room x) × ((g.judged.tests ≤ budget) × (ends g.judged.verdict g.judged.tests g.after ≡ judged_filters says j p budget n x))
JudgedInAs says j p d room budget n x (Err Fault.Over) = is_some x ≡ true → over ≡ judged_filters says j p budget n x
JudgedInAs says j p d room budget n x (Err Fault.Malformed) = None ≡ bounded_in d room x

unfoldable pub JudgesIn : (Item → Outcome) → Join → Progress → ℕ → ℕ → ℕ → ℕ → Option (Read (Filters Item)) → Result Judging Fault → Type 0
JudgesIn says j p d room budget n x w = JudgedInAs says j p d room budget n x w

-- a filter under `not`
abbrev pub inverse_of : Judging → Judging
inverse_of g = judging (opposed g.judged.verdict) g.judged.tests g.after g.items

-- a list in steps: how a list begins, whether it goes on, what one filter more makes of it, and its truth at the end
abbrev pub begun : Bool → Progress
begun true = Progress.Plain
begun false = Progress.Passed

abbrev pub goes_on : Progress → Bool
goes_on Progress.Plain = true
goes_on Progress.Unsure = true
goes_on Progress.Stopped = false
goes_on Progress.Passed = false

abbrev pub behind : Progress → Bool → Progress
behind p true = Progress.Unsure
behind p false = p

abbrev pub is_falsity : Verdict → Bool
is_falsity Verdict.True = false
is_falsity Verdict.False = true
is_falsity Verdict.Undefined = false

abbrev pub stops_at : Join → Verdict → Bool
stops_at and u = is_falsity u
stops_at or u = is_falsity (opposed u)

abbrev pub is_undefined : Verdict → Bool
is_undefined Verdict.True = false
is_undefined Verdict.False = false
is_undefined Verdict.Undefined = true

abbrev pub joined_by : Join → Progress → Verdict → Progress
joined_by j p u = pick (goes_on p) (pick (stops_at j u) Progress.Stopped (behind p (is_undefined u))) p

abbrev pub none_of : Join → Verdict
none_of and = Verdict.True
none_of or = Verdict.False

abbrev pub at_end : Join → Progress → Verdict
at_end j Progress.Plain = none_of j
at_end j Progress.Unsure = Verdict.Undefined
at_end j Progress.Stopped = opposed (none_of j)
at_end j Progress.Passed = Verdict.Undefined

-- ---- the filter of a whole text, if it is one: a truth within the budget, or more tests; where the budget is met first nothing is said of the text
abbrev pub EvaluatedAs : (Item → Outcome) → ℕ → Option (Filter Item) → Result Judged Fault → Type 0
EvaluatedAs says budget x (Ok j) = (f : Filter Item) × ((x ≡ Some f) × (Ok j ≡ charged budget 0 (reading says f)))
EvaluatedAs says budget x (Err Fault.Over) = (f : Filter Item) → x ≡ Some f → Err Fault.Over ≡ charged budget 0 (reading says f)
EvaluatedAs says budget x (Err Fault.Malformed) = x ≡ None

unfoldable pub Evaluates : (Item → Outcome) → ℕ → Option (Filter Item) → Result Judged Fault → Type 0
Evaluates says budget x r = EvaluatedAs says budget x r
