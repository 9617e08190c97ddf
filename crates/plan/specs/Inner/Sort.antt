-- The sorts of a plan's steps: where the identifiers end, a member, an alternative, a position, a position from the end, the count, all elements.
use Rattle.std.specs.Prelude.{ℕ}

abbrev pub end : ℕ
end = 0

abbrev pub member : ℕ
member = 1

abbrev pub alternative : ℕ
alternative = 2

abbrev pub position : ℕ
position = 3

abbrev pub from_end : ℕ
from_end = 4

abbrev pub count : ℕ
count = 5

abbrev pub all : ℕ
all = 6
