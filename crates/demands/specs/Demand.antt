-- Demand 3, of the listing and the answer to a filter for one table and value.
use Rattle.std.specs.Prelude.{ℕ, ◌≤◌, ◌<◌, ◌*◌, ◌≡◌, Bool, true, List, ◌++◌, length, drop, leb}
use Rattle.std.specs.Prelude.{Option, None, Some}
use Rattle.octets.specs.Pick.{pick}
use Rattle.types.specs.Types.{type_at}
use Rattle.types.specs.Admitted as table
use Rattle.value.specs.Value.{Value}
use Rattle.value.specs.Decode.{stored_value}
use Rattle.reference.specs.Reference.{Id, given_ids}
use Rattle.reference.specs.Allowed as reference
use Rattle.reference.specs.Named.{Held, named}
use Rattle.reference.specs.Numbers.{Component, threes}
use Rattle.rules.specs.Rule.{known_rules}
use Rattle.rules.specs.RuleFor as rules
use Rattle.rules.specs.RuleFor.{Comparison}
use Rattle.rules.specs.Accepts.{accepts}
use Rattle.filter.specs.Filter.{Item, item}
use Rattle.filter.specs.Parse.{filter_fits, parse}
use Rattle.misfit.specs.Spread.{Spread}
use Rattle.evaluation.specs.Truth.{UNDEFINED}
use Rattle.engine.specs.Paper.{limits}
use Rattle.engine.specs.Answer as answer
use Rattle.engine.specs.Listing.{Listing, listing_fits, refused_list, lists}
use Rattle.demands.specs.Named.{components, needed, truth_by}
use Rattle.demands.specs.Numbers.{Determined}
use Rattle.demands.specs.Truths.{AnswersTruly}

-- "Take any admitted table, any value of its type, any component reference allowed there or none, .. with sizes within limits": table t, stored
-- value v, which decodes to x; reference r where one is given, with the identifiers is, which lead to a target. There is no cause for refusal 7: the
-- walk along a stored value meets no header that doesn't fit
pub record Taken (t v : List ℕ) (given : Bool) (r : List ℕ) (x : Value) (is : List Id) (target : reference.Target) : Type 0 where
  pub sizes : listing_fits limits t v given r ≡ true
  pub admitted : table.admitted limits.table t ≡ true
  pub decodes : stored_value (type_at limits.table t 0) v ≡ Some x
  pub reads : given_ids given r ≡ Some is
  pub allowed : reference.allowed is (type_at limits.table t 0) ≡ Some target

-- ---- the listing, of the components cs that the reference names
pub record Listed (v room : List ℕ) (cs : List Component) (l : Listing) : Type 0 where
  -- "With enough room, the listing is, in document 01's three numbers, exactly the component values that the reference names: every one of them, ..
  -- and no other"; the rest of the room is as it was
  pub enough : length cs * 3 ≤ length room → l ≡ record { report = lists (length cs); memory = threes cs ++ drop (length cs * 3) room }
  -- with too little room it is refused 6, and nothing is written
  pub short : length room < length cs * 3 → l ≡ refused_list 6 room
  -- "each once, by rising place in the record"
  pub rising : Spread 0 (length v) cs

-- ---- an assertion
-- "Now put any assertion to the same table and value, with the same reference and choice, .. With filter and budget within their limits": the
-- filter text s is the assertion i alone
pub record Put (given : Bool) (r : List ℕ) (defaults : Bool) (s : List ℕ) (i : Item) (budget : ℕ) : Type 0 where
  pub fits : filter_fits limits.filter s ≡ true
  pub within : leb budget limits.budget ≡ true
  pub parses : parse limits.filter s ≡ Some (item i)
  pub same-reference : i.component ≡ pick given (Some r) None
  pub same-choice : i.defaults ≡ defaults

-- its rule with what it asserts, where document 01 doesn't make it Undefined: the rule is known, for the target, and the value text conforms
abbrev pub rule_for : reference.Target → Item → Option Comparison
rule_for target i = rules.rule_for known_rules target i.rule i.value

-- the values hs are those that the reference names
pub record Asserted (i : Item) (budget : ℕ) (target : reference.Target) (hs : List Held) (b : answer.Report) : Type 0 where
  -- where document 01 makes it Undefined
  pub undefined : rule_for target i ≡ None → b ≡ answer.answers UNDEFINED 0
  -- "with .. budget enough, if document 01 .. doesn't make it Undefined, it is TRUE if its rule accepts at least one value on that list, else FALSE"
  pub defined : (u : Comparison) → rule_for target i ≡ Some u → needed (accepts u.rule u.asserted) hs ≤ budget
      → b ≡ answer.answers (truth_by (accepts u.rule u.asserted) hs) (needed (accepts u.rule u.asserted) hs)

-- ---- in one piece: a listing l with its memory and a filter's report b
pub record Demanded (t v : List ℕ) (given : Bool) (r : List ℕ) (defaults : Bool) (room s : List ℕ) (budget : ℕ) (l : Listing) (b : answer.Report) : Type 0 where
  pub listed : (x : Value) (is : List Id) (target : reference.Target) → Taken t v given r x is target → Listed v room (components defaults is x) l
  -- the listed numbers determine the named values' components, and so what a rule accepts
  pub determined : (x : Value) (is : List Id) (target : reference.Target) → Taken t v given r x is target → Determined limits.table t v (named defaults is x)
  pub asserted : (x : Value) (is : List Id) (target : reference.Target) → Taken t v given r x is target → (i : Item) → Put given r defaults s i budget
      → Asserted i budget target (named defaults is x) b
  -- any other filter, among which are the larger ones
  pub answered : AnswersTruly t v s b
