-- The order of a list's filters, as a relation: one list is another in some order.
use Rattle.filter.specs.Filter.{Filter, Filters, end_filters, next}

pub data Reordered {A : Type 0} : Filters A → Filters A → Type 0 where
  none : Reordered end_filters end_filters
  keeps : {f : Filter A} {fs gs : Filters A} → Reordered fs gs → Reordered (next f fs) (next f gs)
  swaps : {f g : Filter A} {fs : Filters A} → Reordered (next f (next g fs)) (next g (next f fs))
  then : {fs gs hs : Filters A} → Reordered fs gs → Reordered gs hs → Reordered fs hs
