-- Tests and budget: the reading from left to right. "`and` [stops] at its first FALSE, `or` at its first TRUE, left to right; Undefined stops
-- nothing".
use Rattle.std.specs.Prelude.{ℕ, ◌+◌, Bool}
use Rattle.octets.specs.Pick.{pick}
use Rattle.filter.specs.Filter.{Join, and, or, Filter, Filters, item, list, inverse, end_filters, next}
use Rattle.evaluation.specs.Truth.{Truth, TRUE, FALSE, UNDEFINED, is_true, is_false, opposite}

-- a truth with the tests made
pub data Outcome : Type 0 where
  settled : Truth → ℕ → Outcome

-- the truth of an empty list
abbrev pub of_none : Join → Truth
of_none and = TRUE
of_none or = FALSE

-- a list stops at a filter of this truth
abbrev pub stops : Join → Truth → Bool
stops and t = is_false t
stops or t = is_true t

-- a filter that does not stop the list, and the rest of the list: Undefined stays unless the rest stops
abbrev pub with_rest : Join → Truth → Truth → Truth
with_rest j TRUE u = u
with_rest j FALSE u = u
with_rest j UNDEFINED u = pick (stops j u) u UNDEFINED

-- the rest's outcome, after a filter of truth t that made n tests and did not stop the list
abbrev pub added : Join → Truth → ℕ → Outcome → Outcome
added j t n (settled u m) = settled (with_rest j t u) (n + m)

abbrev pub and_then : Join → Outcome → Outcome → Outcome
and_then j (settled t n) rest = pick (stops j t) (settled t n) (added j t n rest)

abbrev pub inverted : Outcome → Outcome
inverted (settled t n) = settled (opposite t) n

unfoldable mutual
  pub reading : {A : Type 0} → (A → Outcome) → Filter A → Outcome
  reading says (item i) = says i
  reading says (list j fs) = reading_in says j fs
  reading says (inverse f) = inverted (reading says f)

  pub reading_in : {A : Type 0} → (A → Outcome) → Join → Filters A → Outcome
  reading_in says j end_filters = settled (of_none j) 0
  reading_in says j (next f fs) =
      let rest = reading_in says j fs in
      and_then j (reading says f) rest
