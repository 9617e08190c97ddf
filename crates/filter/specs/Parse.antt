-- Filter text: "GSER, case sensitive, valid UTF-8". The filter that a text is.
use Rattle.std.specs.Prelude.{ℕ, zero, suc, ◌+◌, Bool, List, length, drop, leb, eqb}
use Rattle.std.specs.Prelude.{Option, None, Some}
use Rattle.octets.specs.Pick.{pick, both, bind}
use Rattle.octets.specs.Octets.{octet, bytes}
use Rattle.octets.specs.Text.{within as in_range, starts, skip}
use Rattle.octets.specs.Utf8.{utf8}
use Rattle.filter.specs.Limits.{Limits}
use Rattle.filter.specs.Filter.{Item, Join, and, or, Filter, Filters, item, list, inverse, end_filters, next, depth, items}
use Rattle.assertion.specs.Spaces.{mark_at, comma, open_brace, close_brace}
use Rattle.assertion.specs.Assertion.{Read, read_to, assertion_at}

-- what a filter begins with: an assertion at a place, an empty list that ends at a place, a list whose first filter is at a place, a filter
-- under `not:`, or nothing that a filter begins with
pub data Head : Type 0 where
  assertion : ℕ → Head
  empty_list : Join → ℕ → Head
  open_list : Join → ℕ → Head
  negation : ℕ → Head
  no_head : Head

-- behind a list's opening brace and its spaces
abbrev pub in_braces : List ℕ → Join → Option ℕ → Head
in_braces s j None = no_head
in_braces s j (Some p) = pick (eqb (octet s p) close_brace) (empty_list j (p + 1)) (open_list j p)

unfoldable pub head_at : List ℕ → ℕ → Head
head_at s at =
    pick (starts (bytes "item:") (drop at s)) (assertion (at + 5))
    (pick (starts (bytes "and:") (drop at s)) (in_braces s and (mark_at open_brace s (at + 4)))
    (pick (starts (bytes "or:") (drop at s)) (in_braces s or (mark_at open_brace s (at + 3)))
    (pick (starts (bytes "not:") (drop at s)) (negation (at + 4))
    no_head)))

-- what follows a filter in a list: a comma and another filter, or the closing brace
pub data Tail : Type 0 where
  another : ℕ → Tail
  closed : ℕ → Tail
  no_tail : Tail

abbrev pub or_closed : List ℕ → ℕ → Option ℕ → Tail
or_closed s p None = pick (eqb (octet s p) close_brace) (closed (p + 1)) no_tail
or_closed s p (Some q) = another q

unfoldable pub tail_at : List ℕ → ℕ → Tail
tail_at s at = or_closed s (skip s at) (mark_at comma s at)

-- ---- a filter, and the filters of a list from one of them on, with the place after them
-- f of what has been read
abbrev pub made : {A B : Type 0} → (A → B) → Option (Read A) → Option (Read B)
made f None = None
made f (Some p) = read_to (f p.is) p.after

abbrev pub by_head : List ℕ → (ℕ → Option (Read (Filters Item))) → (ℕ → Option (Read (Filter Item))) → Head → Option (Read (Filter Item))
by_head s lists filters (assertion p) = made item (assertion_at s p)
by_head s lists filters (empty_list j p) = read_to (list j end_filters) p
by_head s lists filters (open_list j p) = made (list j) (lists p)
by_head s lists filters (negation p) = made inverse (filters p)
by_head s lists filters no_head = None

abbrev pub by_tail : (ℕ → Option (Read (Filters Item))) → Filter Item → Tail → Option (Read (Filters Item))
by_tail lists f (another p) = made (next f) (lists p)
by_tail lists f (closed p) = read_to (next f end_filters) p
by_tail lists f no_tail = None

abbrev pub after_first : List ℕ → (ℕ → Option (Read (Filters Item))) → Read (Filter Item) → Option (Read (Filters Item))
after_first s lists p = by_tail lists p.is (tail_at s p.after)

-- n bounds the calls: more than the length of the text is enough
unfoldable mutual
  pub filter_from : ℕ → List ℕ → ℕ → Option (Read (Filter Item))
  filter_from zero s at = None
  filter_from (suc n) s at = by_head s (λ p. filters_from n s p) (λ p. filter_from n s p) (head_at s at)

  pub filters_from : ℕ → List ℕ → ℕ → Option (Read (Filters Item))
  filters_from zero s at = None
  filters_from (suc n) s at = bind (filter_from n s at) (after_first s (λ p. filters_from n s p))

unfoldable pub filter_at : List ℕ → ℕ → Option (Read (Filter Item))
filter_at s at = filter_from (length s + 1) s at

-- ---- the whole text; "Depth at most 16 .., at most 64 items"
abbrev pub if_whole : List ℕ → Read (Filter Item) → Option (Filter Item)
if_whole s p = pick (eqb p.after (length s)) (Some p.is) None

abbrev pub within_limits : ℕ → ℕ → Filter Item → Option (Filter Item)
within_limits deepest many f = pick (both (leb (depth f) deepest) (leb (length (items f)) many)) (Some f) None

-- refusal 1: the text's size
unfoldable pub filter_fits : Limits → List ℕ → Bool
filter_fits l s = in_range 1 l.bytes (length s)

-- the filter of the whole text, whatever its depth and items
unfoldable pub whole : List ℕ → Option (Filter Item)
whole s = pick (utf8 s) (bind (filter_at s 0) (if_whole s)) None

-- within a depth and so many items
unfoldable pub parse_within : ℕ → ℕ → List ℕ → Option (Filter Item)
parse_within deepest many s = bind (whole s) (within_limits deepest many)

abbrev pub parse : Limits → List ℕ → Option (Filter Item)
parse l s = parse_within l.depth l.items s
