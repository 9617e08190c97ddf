-- The truth of the reading from left to right is the one that RFC 3687 section 4 gives by looking at every filter of a list.
use mathlib.Core.Path.{◌≡◌, refl, sym, ap, ◌∙◌}
use mathlib.Core.Bool.{Bool, true, false, false≢true}
use mathlib.Core.List.{List, [], ◌∷◌}
use Prim.Native.Nat.{ℕ}
use Rattle.octets.specs.Pick.{pick}
use Rattle.filter.specs.Filter.{Join, and, or, Filter, Filters, item, list, inverse, end_filters, next}
use Rattle.evaluation.specs.Truth.{Truth, TRUE, FALSE, UNDEFINED, is_true, is_false, every_truth, any_truth, conjunction, disjunction, joined, opposite, truth, truths}
use Rattle.evaluation.specs.Reading.{Outcome, settled, of_none, with_rest, and_then, inverted, reading, reading_in}

-- the truth of an outcome
abbrev pub truth_of : Outcome → Truth
truth_of (settled t n) = t

-- ---- an Undefined filter before a list
undefined-and : (a b : Bool) → (a ≡ true → b ≡ false) → with_rest and UNDEFINED (pick a TRUE (pick b FALSE UNDEFINED)) ≡ pick b FALSE UNDEFINED
undefined-and true b h = sym (ap (λ x. pick x FALSE UNDEFINED) (h refl))
undefined-and false true h = refl
undefined-and false false h = refl

undefined-or : (a b : Bool) → (a ≡ true → b ≡ false) → with_rest or UNDEFINED (pick a FALSE (pick b TRUE UNDEFINED)) ≡ pick b TRUE UNDEFINED
undefined-or true b h = sym (ap (λ x. pick x TRUE UNDEFINED) (h refl))
undefined-or false true h = refl
undefined-or false false h = refl

-- where each is TRUE none is FALSE, and where each is FALSE none is TRUE
no_false : (us : List Truth) → every_truth is_true us ≡ true → any_truth is_false us ≡ false
unfolding every_truth any_truth
no_false [] h = refl
no_false (TRUE ∷ us) h = no_false us h
no_false (FALSE ∷ us) h = sym h
no_false (UNDEFINED ∷ us) h = absurd (false≢true h)

no_true : (us : List Truth) → every_truth is_false us ≡ true → any_truth is_true us ≡ false
unfolding every_truth any_truth
no_true [] h = refl
no_true (TRUE ∷ us) h = sym h
no_true (FALSE ∷ us) h = no_true us h
no_true (UNDEFINED ∷ us) h = absurd (false≢true h)

-- ---- one filter more at the head of a list
head_and : (t : Truth) (n : ℕ) (rest : Outcome) (us : List Truth) → truth_of rest ≡ conjunction us → truth_of (and_then and (settled t n) rest) ≡ conjunction (t ∷ us)
unfolding conjunction every_truth any_truth
head_and TRUE n (settled w m) us h = h
head_and FALSE n rest us h = refl
head_and UNDEFINED n (settled w m) us h = ap (with_rest and UNDEFINED) h ∙ undefined-and (every_truth is_true us) (any_truth is_false us) (no_false us)

head-or : (t : Truth) (n : ℕ) (rest : Outcome) (us : List Truth) → truth_of rest ≡ disjunction us → truth_of (and_then or (settled t n) rest) ≡ disjunction (t ∷ us)
unfolding disjunction every_truth any_truth
head-or TRUE n rest us h = refl
head-or FALSE n (settled w m) us h = h
head-or UNDEFINED n (settled w m) us h = ap (with_rest or UNDEFINED) h ∙ undefined-or (every_truth is_false us) (any_truth is_true us) (no_true us)

head : (j : Join) (o : Outcome) (u : Truth) (rest : Outcome) (us : List Truth) → truth_of o ≡ u → truth_of rest ≡ joined j us → truth_of (and_then j o rest) ≡ joined j (u ∷ us)
head and (settled t n) u rest us e h = head_and t n rest us h ∙ ap (λ (x : Truth). conjunction (x ∷ us)) e
head or (settled t n) u rest us e h = head-or t n rest us h ∙ ap (λ (x : Truth). disjunction (x ∷ us)) e

empty : (j : Join) → of_none j ≡ joined j []
unfolding conjunction disjunction every_truth any_truth
empty and = refl
empty or = refl

under_not : (o : Outcome) → truth_of (inverted o) ≡ opposite (truth_of o)
under_not (settled t n) = refl

mutual
  unfolding reading truth

  pub reading_truth : {A : Type 0} (f : Filter A) (says : A → Outcome) → truth_of (reading says f) ≡ truth (λ i. truth_of (says i)) f
  reading_truth (item i) says = refl
  reading_truth (list j fs) says = reading_truths fs says j
  reading_truth (inverse f) says = under_not (reading says f) ∙ ap opposite (reading_truth f says)

  reading_truths : {A : Type 0} (fs : Filters A) (says : A → Outcome) (j : Join) → truth_of (reading_in says j fs) ≡ joined j (truths (λ i. truth_of (says i)) fs)
  reading_truths end_filters says j = empty j
  reading_truths (next f fs) says j = head j (reading says f) (truth (λ i. truth_of (says i)) f) (reading_in says j fs) (truths (λ i. truth_of (says i)) fs) (reading_truth f says) (reading_truths fs says j)
