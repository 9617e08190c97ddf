-- The reading of a filter over other items, and of a filter whose items say the same.
use mathlib.Core.Path.{◌≡◌, refl, ap, ap₂}
use mathlib.Core.List.{List, ◌∷◌}
use Rattle.filter.specs.Filter.{Join, Filter, Filters, item, list, inverse, end_filters, next, mapped, mapped_in, Each, EachIn, of_item, of_list, of_not, of_none, of_next}
use Rattle.evaluation.specs.Truth.{Truth, joined, opposite, truth, truths}
use Rattle.evaluation.specs.Reading.{Outcome, and_then, inverted, reading, reading_in}

-- ---- over other items
module _ {A B : Type 0} (g : A → B) (says : B → Outcome) where
  mutual
    unfolding reading mapped

    pub reading_mapped : (f : Filter A) → reading says (mapped g f) ≡ reading (λ i. says (g i)) f
    reading_mapped (item i) = refl
    reading_mapped (list j fs) = reading_mapped_in j fs
    reading_mapped (inverse f) = ap inverted (reading_mapped f)

    reading_mapped_in : (j : Join) (fs : Filters A) → reading_in says j (mapped_in g fs) ≡ reading_in (λ i. says (g i)) j fs
    reading_mapped_in j end_filters = refl
    reading_mapped_in j (next f fs) = ap₂ (and_then j) (reading_mapped f) (reading_mapped_in j fs)

-- ---- items that say the same
module _ {A : Type 0} (first second : A → Outcome) where
  mutual
    unfolding reading

    pub reading_alike : (f : Filter A) → Each (λ i. first i ≡ second i) f → reading first f ≡ reading second f
    reading_alike (item i) (of_item h) = h
    reading_alike (list j fs) (of_list hs) = reading_alike_in j fs hs
    reading_alike (inverse f) (of_not h) = ap inverted (reading_alike f h)

    reading_alike_in : (j : Join) (fs : Filters A) → EachIn (λ i. first i ≡ second i) fs → reading_in first j fs ≡ reading_in second j fs
    reading_alike_in j end_filters of_none = refl
    reading_alike_in j (next f fs) (of_next h hs) = ap₂ (and_then j) (reading_alike f h) (reading_alike_in j fs hs)

module _ {A : Type 0} (first second : A → Truth) where
  mutual
    unfolding truth

    pub truth-alike : (f : Filter A) → Each (λ i. first i ≡ second i) f → truth first f ≡ truth second f
    truth-alike (item i) (of_item h) = h
    truth-alike (list j fs) (of_list hs) = ap (joined j) (truths_alike fs hs)
    truth-alike (inverse f) (of_not h) = ap opposite (truth-alike f h)

    truths_alike : (fs : Filters A) → EachIn (λ i. first i ≡ second i) fs → truths first fs ≡ truths second fs
    truths_alike end_filters of_none = refl
    truths_alike (next f fs) (of_next h hs) = ap₂ (λ (u : Truth) (us : List Truth). u ∷ us) (truth-alike f h) (truths_alike fs hs)

-- ---- what holds of each item
module _ {A : Type 0} {P Q : A → Type 0} (f : (i : A) → P i → Q i) where
  mutual
    pub each_so : (x : Filter A) → Each P x → Each Q x
    each_so (item i) (of_item h) = of_item (f i h)
    each_so (list j fs) (of_list hs) = of_list (each_so_in fs hs)
    each_so (inverse x) (of_not h) = of_not (each_so x h)

    each_so_in : (fs : Filters A) → EachIn P fs → EachIn Q fs
    each_so_in end_filters of_none = of_none
    each_so_in (next x fs) (of_next h hs) = of_next (each_so x h) (each_so_in fs hs)

module _ {A : Type 0} {P : A → Type 0} (f : (i : A) → P i) where
  mutual
    pub each_of_all : (x : Filter A) → Each P x
    each_of_all (item i) = of_item (f i)
    each_of_all (list j fs) = of_list (each_of_all_in fs)
    each_of_all (inverse x) = of_not (each_of_all x)

    each_of_all_in : (fs : Filters A) → EachIn P fs
    each_of_all_in end_filters = of_none
    each_of_all_in (next x fs) = of_next (each_of_all x) (each_of_all_in fs)
