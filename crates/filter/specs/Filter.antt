-- Filters. "`item:` before a braced assertion, `and:` and `or:` before a braced list, `not:` before a filter. So a list holds filters and a
-- filter may hold a list." A filter is a tree over its items, whatever these are: in a text each is an assertion (`Filter Item`).
use Rattle.std.specs.Prelude.{ℕ, ◌+◌, List, [], ◌∷◌, ◌++◌}
use Rattle.octets.specs.Octets.{larger}
pub use Rattle.assertion.specs.Item.{Item}

pub data Join : Type 0 where
  and : Join
  or : Join

mutual
  pub data Filter (A : Type 0) : Type 0 where
    item : A → Filter A
    list : Join → Filters A → Filter A
    inverse : Filter A → Filter A

  pub data Filters (A : Type 0) : Type 0 where
    end_filters : Filters A
    next : Filter A → Filters A → Filters A

-- "an item or empty list is 1; `not` and a list add 1 to their deepest"
unfoldable mutual
  pub depth : {A : Type 0} → Filter A → ℕ
  depth (item i) = 1
  depth (list j fs) = depth_in fs + 1
  depth (inverse f) = depth f + 1

  pub depth_in : {A : Type 0} → Filters A → ℕ
  depth_in end_filters = 0
  depth_in (next f fs) = larger (depth f) (depth_in fs)

-- the items, in the order of the text; their number is this list's length
unfoldable mutual
  pub items : {A : Type 0} → Filter A → List A
  items (item i) = i ∷ []
  items (list j fs) = items_in fs
  items (inverse f) = items f

  pub items_in : {A : Type 0} → Filters A → List A
  items_in end_filters = []
  items_in (next f fs) = items f ++ items_in fs

-- the same filter over other items
unfoldable mutual
  pub mapped : {A B : Type 0} → (A → B) → Filter A → Filter B
  mapped g (item i) = item (g i)
  mapped g (list j fs) = list j (mapped_in g fs)
  mapped g (inverse f) = inverse (mapped g f)

  pub mapped_in : {A B : Type 0} → (A → B) → Filters A → Filters B
  mapped_in g end_filters = end_filters
  mapped_in g (next f fs) = next (mapped g f) (mapped_in g fs)

-- P holds of each item
mutual
  pub data Each {A : Type 0} (P : A → Type 0) : Filter A → Type 0 where
    of_item : {i : A} → P i → Each P (item i)
    of_list : {j : Join} {fs : Filters A} → EachIn P fs → Each P (list j fs)
    of_not : {f : Filter A} → Each P f → Each P (inverse f)

  pub data EachIn {A : Type 0} (P : A → Type 0) : Filters A → Type 0 where
    of_none : EachIn P end_filters
    of_next : {f : Filter A} {fs : Filters A} → Each P f → EachIn P fs → EachIn P (next f fs)
