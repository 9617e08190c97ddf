-- What the code's answers say.
use Rattle.std.specs.Prelude.{ℕ, ◌+◌, ◌-◌, List, length, leb}
use Rattle.std.specs.Prelude.{Option, None, Some}
use Rattle.octets.specs.Pick.{pick, both}
use Rattle.assertion.specs.Assertion.{Read}
use Rattle.filter.specs.Filter as filter
use Rattle.filter.specs.Filter.{Item, Filter, Filters, depth, depth_in, items, items_in}
use Rattle.filter.specs.Parse as parsing
use Rattle.filter.specs.declared.Filter as declared
use Rattle.filter.specs.declared.Join.{Join}
use Rattle.filter.specs.declared.Head.{Head}
use Rattle.filter.specs.declared.Tail.{Tail}
use Rattle.filter.specs.declared.Rest.{Rest}

-- ---- heads and tails
abbrev pub report_join : Join → filter.Join
report_join Join.And = filter.and
report_join Join.Or = filter.or

abbrev pub report_head : Option Head → parsing.Head
report_head (Some (Head.Assertion p)) = parsing.assertion p
report_head (Some (Head.EmptyList j p)) = parsing.empty_list (report_join j) p
report_head (Some (Head.OpenList j p)) = parsing.open_list (report_join j) p
report_head (Some (Head.Negation p)) = parsing.negation p
report_head None = parsing.no_head

abbrev pub report_tail : Option Tail → parsing.Tail
report_tail (Some (Tail.Another p)) = parsing.another p
report_tail (Some (Tail.Closed p)) = parsing.closed p
report_tail None = parsing.no_tail

-- ---- what is left behind a filter that was read
abbrev pub rest_of : ℕ → ℕ → Rest
rest_of after left = record { after = after; left = left }

-- ---- what is read within a depth d and so many items: the place after it, and the items that are left
abbrev pub fitting : ℕ → ℕ → ℕ → ℕ → ℕ → Option Rest
fitting d room deep used after = pick (both (leb deep d) (leb used room)) (Some (rest_of after (room - used))) None

unfoldable pub bounded : ℕ → ℕ → Option (Read (Filter Item)) → Option Rest
bounded d room None = None
bounded d room (Some r) = fitting d room (depth r.is) (length (items r.is)) r.after

unfoldable pub bounded_in : ℕ → ℕ → Option (Read (Filters Item)) → Option Rest
bounded_in d room None = None
bounded_in d room (Some r) = fitting d room (depth_in r.is) (length (items_in r.is)) r.after

-- ---- the whole text
-- the items of a filter that was read, or a refusal
abbrev pub report : Option declared.Filter → Option ℕ
report (Some f) = Some f.items
report None = None

abbrev pub items_of : Option (Filter Item) → Option ℕ
items_of None = None
items_of (Some f) = Some (length (items f))

unfoldable pub filters_at : List ℕ → ℕ → Option (Read (Filters Item))
filters_at s at = parsing.filters_from (length s + 2) s at
