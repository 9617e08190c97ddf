-- The listing: "three numbers for each named value", or a refusal; and the lent memory afterwards. Order: 1, 2, 3, 4, 7, 6.
use Rattle.std.specs.Prelude.{ℕ, ◌*◌, Bool, true, false, List, ◌++◌, map, length, drop, ltb, leb}
use Rattle.std.specs.Prelude.{Option, None, Some, Result, Ok, Err}
use Rattle.octets.specs.Pick.{pick, both, either, no, is_some}
use Rattle.rows.specs.Limits.{table_fits}
use Rattle.types.specs.Types.{Ty, type_at}
use Rattle.types.specs.Admitted.{admitted}
use Rattle.value.specs.Value.{Value}
use Rattle.value.specs.Decode.{stored_value}
use Rattle.value.specs.Check.{value_fits}
use Rattle.reference.specs.Reference.{Id, given_ids}
use Rattle.reference.specs.Allowed.{allowed}
use Rattle.reference.specs.Named.{named}
use Rattle.reference.specs.Numbers.{Component, component, threes}
use Rattle.engine.specs.Limits.{Limits}
use Rattle.misfit.specs.Trail.{trail, has_misfit}
use Rattle.table.specs.declared.Refusal.{Refusal}
use Rattle.table.specs.Check.{refusal_number}
use Rattle.engine.specs.declared.Listed.{Listed}

-- whether it is done and not refused; the refusal's number, 0 for none; "the count in its answer is the number of named values", and 0 with a refusal
pub record ListReport : Type 0 where
  pub done : Bool
  pub refusal : ℕ
  pub count : ℕ

abbrev pub refused : ℕ → ListReport
refused n = record { done = false; refusal = n; count = 0 }

abbrev pub lists : ℕ → ListReport
lists n = record { done = true; refusal = 0; count = n }

-- an answer, and the lent memory afterwards
pub record Listing : Type 0 where
  pub report : ListReport
  pub memory : List ℕ

-- a refusal "writes nothing"
abbrev pub refused_list : ℕ → List ℕ → Listing
refused_list n room = record { report = refused n; memory = room }

-- "On success it writes three numbers per value from the start and no more."
unfoldable pub written : List Component → List ℕ → List ℕ
written cs room = threes cs ++ drop (length cs * 3) room

-- 6: "room under three numbers per named value"
unfoldable pub listed : List Component → List ℕ → Listing
listed cs room = pick (ltb (length room) (length cs * 3)) (refused_list 6 room) (record { report = lists (length cs); memory = written cs room })

-- 1: "a listing's reference above 2,048"; where none is given its octets are not looked at
abbrev pub reference_fits : Limits → Bool → List ℕ → Bool
reference_fits l given r = either (no given) (leb (length r) l.reference)

-- 1: sizes
unfoldable pub listing_fits : Limits → List ℕ → List ℕ → Bool → List ℕ → Bool
listing_fits l t v given r = both (table_fits l.table t) (both (value_fits l.value v) (reference_fits l given r))

-- 4: "value not as above"; 7 goes before 6; what is listed is what the reference names in the decoded value
unfoldable pub with_stored : Ty → List ℕ → Bool → List ℕ → List Id → Option Value → Listing
with_stored ty v defaults room is None = refused_list 4 room
with_stored ty v defaults room is (Some x) =
    pick (has_misfit (trail defaults is ty v)) (refused_list 7 room) (listed (map component (named defaults is x)) room)

-- "The listing may be given no reference; an empty one is refused 3."
-- 3: "reference malformed or not allowed"; then the others, by the value of the type of row 0 that the octets decode to
unfoldable pub with_ids : Ty → List ℕ → Bool → List ℕ → Option (List Id) → Listing
with_ids ty v defaults room None = refused_list 3 room
with_ids ty v defaults room (Some is) =
    pick (is_some (allowed is ty))
    (with_stored ty v defaults room is (stored_value ty v))
    (refused_list 3 room)

-- 2, then 3 and the others
unfoldable pub listing_of : Limits → List ℕ → List ℕ → Bool → List ℕ → Bool → List ℕ → Listing
listing_of l t v given r defaults room =
    pick (admitted l.table t)
    (with_ids (type_at l.table t 0) v defaults room (given_ids given r))
    (refused_list 2 room)

-- 1, then the others
unfoldable pub list_report : Limits → List ℕ → List ℕ → Bool → List ℕ → Bool → List ℕ → Listing
list_report l t v given r defaults room =
    pick (listing_fits l t v given r)
    (listing_of l t v given r defaults room)
    (refused_list 1 room)

-- ---- what the code's answer says
abbrev pub report : Result Listed Refusal → ListReport
report (Ok l) = lists l.values
report (Err r) = refused (refusal_number r)

-- with the lent memory
abbrev pub listing : Result Listed Refusal → List ℕ → Listing
listing a memory = record { report = report a; memory = memory }
