-- Demand 2: "Otherwise the truth is the one RFC 3687 gives the filter for that value, with the rules of RFC 4517 as document 01 states them, and the
-- reported tests are those of the stated left-to-right reading."
use Rattle.std.specs.Prelude.{ℕ, ◌≤◌, ◌*◌, ◌/◌, ◌≡◌, List, length}
use Rattle.std.specs.Prelude.{Some}
use Rattle.types.specs.Types.{type_at}
use Rattle.value.specs.Value.{Value}
use Rattle.value.specs.Decode.{stored_value}
use Rattle.rules.specs.Rule.{known_rules}
use Rattle.filter.specs.Filter.{Item, Filter, item, items, Each}
use Rattle.filter.specs.Parse.{parse}
use Rattle.evaluation.specs.Truth as logic
use Rattle.evaluation.specs.Truth.{Truth}
use Rattle.evaluation.specs.Reading as left-to-right
use Rattle.evaluation.specs.Reading.{settled}
use Rattle.engine.specs.Paper.{limits}
use Rattle.engine.specs.Answer.{Report, answers, ask_report}
use Rattle.demands.specs.Named.{item_truth, item_tests}

-- "An assertion's truth there is the engine's for a filter of that item alone", with budget enough for it: `ask` answers truth u
pub record Alone (t v : List ℕ) (u : Truth) (i : Item) : Type 0 where
  pub text : List ℕ
  pub budget : ℕ
  pub tests : ℕ
  pub parses : parse limits.filter text ≡ Some (item i)
  pub answered : ask_report limits known_rules t v text budget ≡ answers u tests

-- an answer with truth u and n tests to the filter f, for the stored value that decodes to x
pub record Answers (t v s : List ℕ) (f : Filter Item) (x : Value) (u : Truth) (n : ℕ) : Type 0 where
  -- what RFC 3687 section 4 makes of the items' truths, each by what its reference names in the decoded value
  pub truth : u ≡ logic.truth (item_truth known_rules (type_at limits.table t 0) x) f
  -- the tests of the reading from left to right, with its stops
  pub tests : left-to-right.reading (λ i. settled (item_truth known_rules (type_at limits.table t 0) x i) (item_tests known_rules (type_at limits.table t 0) x i)) f ≡ settled u n
  -- "The count is at most items times half the value's length, rounded down."
  pub few : n ≤ length (items f) * (length v / 2)
  -- "a larger filter's, where it isn't refused, nor any of its items alone with budget enough for it, is what its lists and `not` make of these"
  pub larger : (alone : Item → Truth) → Each (λ i. Alone t v (alone i) i) f → u ≡ logic.truth alone f

-- every answer that is no refusal: the filter was read, the value is stored, and the answer is as above
pub record Answered (t v s : List ℕ) (u : Truth) (n : ℕ) : Type 0 where
  pub filter : Filter Item
  pub value : Value
  pub parses : parse limits.filter s ≡ Some filter
  pub decodes : stored_value (type_at limits.table t 0) v ≡ Some value
  pub answers : Answers t v s filter value u n

pub record AnswersTruly (t v s : List ℕ) (r : Report) : Type 0 where
  pub answered : (u : Truth) (n : ℕ) → r ≡ answers u n → Answered t v s u n
