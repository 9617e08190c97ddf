-- Lists and `not` (RFC 3687 section 4): a filter's truth, by what each of its items says.
use Rattle.std.specs.Prelude.{Bool, true, false, List, [], ◌∷◌}
use Rattle.octets.specs.Pick.{pick, both, either}
use Rattle.filter.specs.Filter.{Join, and, or, Filter, Filters, item, list, inverse, end_filters, next}

pub data Truth : Type 0 where
  TRUE : Truth
  FALSE : Truth
  UNDEFINED : Truth

abbrev pub is_true : Truth → Bool
is_true TRUE = true
is_true FALSE = false
is_true UNDEFINED = false

abbrev pub is_false : Truth → Bool
is_false TRUE = false
is_false FALSE = true
is_false UNDEFINED = false

unfoldable pub every_truth : (Truth → Bool) → List Truth → Bool
every_truth f [] = true
every_truth f (t ∷ ts) = both (f t) (every_truth f ts)

unfoldable pub any_truth : (Truth → Bool) → List Truth → Bool
any_truth f [] = false
any_truth f (t ∷ ts) = either (f t) (any_truth f ts)

-- "The "and" of a sequence of component filters evaluates to TRUE if the sequence is empty or if each component filter evaluates to TRUE,
-- evaluates to FALSE if at least one component filter is FALSE, and evaluates to Undefined otherwise."
unfoldable pub conjunction : List Truth → Truth
conjunction ts = pick (every_truth is_true ts) TRUE (pick (any_truth is_false ts) FALSE UNDEFINED)

-- "The "or" .. evaluates to FALSE if the sequence is empty or if each component filter evaluates to FALSE, evaluates to TRUE if at least one
-- component filter is TRUE, and evaluates to Undefined otherwise."
unfoldable pub disjunction : List Truth → Truth
disjunction ts = pick (every_truth is_false ts) FALSE (pick (any_truth is_true ts) TRUE UNDEFINED)

abbrev pub joined : Join → List Truth → Truth
joined and ts = conjunction ts
joined or ts = disjunction ts

-- "The "not" of a component filter evaluates to TRUE if the component filter is FALSE, evaluates to FALSE if the component filter is TRUE, and
-- evaluates to Undefined otherwise."
abbrev pub opposite : Truth → Truth
opposite TRUE = FALSE
opposite FALSE = TRUE
opposite UNDEFINED = UNDEFINED

unfoldable mutual
  pub truth : {A : Type 0} → (A → Truth) → Filter A → Truth
  truth says (item i) = says i
  truth says (list j fs) = joined j (truths says fs)
  truth says (inverse f) = opposite (truth says f)

  pub truths : {A : Type 0} → (A → Truth) → Filters A → List Truth
  truths says end_filters = []
  truths says (next f fs) = truth says f ∷ truths says fs
