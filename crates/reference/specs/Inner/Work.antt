-- What the code's answers say: the identifiers of a text from a place on, one step along them, and what a reference leads to.
use Rattle.std.specs.Prelude.{ℕ, suc, ◌+◌, ◌-◌, ◌≡◌, Bool, true, List, [], ◌∷◌, length, drop, ltb, leb, eqb}
use Rattle.std.specs.Prelude.{Option, None, Some}
use Rattle.octets.specs.Pick.{pick, both, bind, consed}
use Rattle.octets.specs.Octets.{octet, part, same}
use Rattle.octets.specs.Text.{is_name, decimal}
use Rattle.rows.specs.Row.{name_at, unfilled, row_at, members_at}
use Rattle.clauses.specs.Clauses.{member_place}
use Rattle.types.specs.Types.{Ty, type_from}
use Rattle.value.specs.Inner.Work.{first}
use Rattle.reference.specs.Reference.{Index, position, from_end, count, all, Id, name, index, is_position, read_reference, given_ids}
use Rattle.reference.specs.Allowed as allowed
use Rattle.reference.specs.declared.Piece.{Piece}
use Rattle.reference.specs.declared.Step.{Step}
use Rattle.reference.specs.declared.Target.{Target}

-- ---- positions as the code holds them: the least of n and the largest number
unfoldable pub cap : ℕ → ℕ
cap n = pick (ltb n 18446744073709551616) n 18446744073709551615

abbrev pub capped_index : Index → Index
capped_index (position n) = position (cap n)
capped_index (from_end n) = from_end (cap n)
capped_index count = count
capped_index all = all

abbrev pub capped : Id → Id
capped (name x) = name x
capped (index i) = index (capped_index i)

-- the first identifier as the code holds it, the others as they are
abbrev pub head_capped : Option (List Id) → Option (List Id)
head_capped None = None
head_capped (Some []) = Some []
head_capped (Some (i ∷ is)) = Some (capped i ∷ is)

-- ---- the identifiers of the text r from place k on; beyond its end there are no more
unfoldable pub ids_at : List ℕ → ℕ → Option (List Id)
ids_at r k = pick (leb k (length r)) (read_reference (drop k r)) (Some [])

-- how many octets stand before the first dot, or the end
unfoldable pub dotless : List ℕ → ℕ
dotless [] = 0
dotless (b ∷ s) = let r = suc (dotless s) in pick (eqb b 46) 0 r

-- the first dot from place k on, or the end
unfoldable pub end_at : List ℕ → ℕ → ℕ
end_at r k = k + dotless (drop k r)

-- ---- one component identifier, in the order of its forms
abbrev pub word_id : List ℕ → Option Id
word_id p = pick (is_name p) (Some (name p)) None

abbrev pub other_id : List ℕ → Option Id
other_id p = pick (both (eqb (octet p 0) 45) (is_position (drop 1 p))) (Some (index (from_end (decimal (drop 1 p))))) (word_id p)

abbrev pub number_id : List ℕ → Option Id
number_id p = pick (is_position p) (Some (index (position (decimal p)))) (other_id p)

abbrev pub capped_id : Option Id → Option Id
capped_id None = None
capped_id (Some i) = Some (capped i)

-- what the code says of the text p
abbrev pub report_piece : List ℕ → Piece → Option Id
report_piece p Piece.Name = Some (name p)
report_piece p (Piece.Position n) = Some (index (position n))
report_piece p (Piece.FromEnd n) = Some (index (from_end n))
report_piece p Piece.Count = Some (index count)
report_piece p Piece.All = Some (index all)
report_piece p Piece.Bad = None

-- ---- one step along the text r
abbrev pub report_id_step : List ℕ → Step → Option (List Id)
report_id_step r (Step.Name a b k) = consed (name (part r a (b - a))) (ids_at r k)
report_id_step r (Step.Position n k) = consed (index (position n)) (ids_at r k)
report_id_step r (Step.FromEnd n k) = consed (index (from_end n)) (ids_at r k)
report_id_step r (Step.Count k) = consed (index count) (ids_at r k)
report_id_step r (Step.All k) = consed (index all) (ids_at r k)
report_id_step r Step.End = Some []
report_id_step r Step.Bad = None

-- the next place lies after k, at most one past the end of r
unfoldable pub rises : List ℕ → ℕ → ℕ → Bool
rises r k n = both (ltb k n) (leb n (length r + 1))

abbrev pub advances : List ℕ → ℕ → Step → Bool
advances r k (Step.Name a b n) = rises r k n
advances r k (Step.Position i n) = rises r k n
advances r k (Step.FromEnd i n) = rises r k n
advances r k (Step.Count n) = rises r k n
advances r k (Step.All n) = rises r k n
advances r k Step.End = true
advances r k Step.Bad = true

-- the step of an identifier that stands from a to b, with the next place
abbrev pub step_of : Piece → ℕ → ℕ → ℕ → Step
step_of Piece.Name a b n = Step.Name a b n
step_of (Piece.Position i) a b n = Step.Position i n
step_of (Piece.FromEnd i) a b n = Step.FromEnd i n
step_of Piece.Count a b n = Step.Count n
step_of Piece.All a b n = Step.All n
step_of Piece.Bad a b n = Step.Bad

-- ---- names
-- member j of a row has the name x
unfoldable pub named_of : List ℕ → List ℕ → ℕ → List ℕ → ℕ → Bool
named_of t s row x j = same (unfilled (name_at t (member_place s row j))) x

-- the first of the row's members that has it; their number where none has
abbrev pub first_named : List ℕ → List ℕ → ℕ → List ℕ → ℕ
first_named t s row x = first (named_of t s row x) (members_at t (row_at s row)) 0

-- ---- what a reference leads to
abbrev pub report_target : ℕ → List ℕ → List ℕ → Option Target → Option allowed.Target
report_target chain t s (Some (Target.Row i)) = Some (allowed.of_type (type_from chain t s i))
report_target chain t s (Some Target.Count) = Some allowed.of_count
report_target chain t s None = None

-- a row that it names is one of the rows s
abbrev pub row_within : List ℕ → Option Target → Bool
row_within s (Some (Target.Row i)) = ltb i (length s)
row_within s (Some Target.Count) = true
row_within s None = true

-- an identifier, if there is one, at a target
abbrev pub at_target : Option Id → allowed.Target → Option allowed.Target
at_target o g = bind o (λ i. allowed.under i g)

abbrev pub at_told : Option Id → Option allowed.Target → Option allowed.Target
at_told o g = bind g (λ h. at_target o h)

-- identifiers from a target on
abbrev pub along : Option (List Id) → Option allowed.Target → Option allowed.Target
along o g = bind o (λ is. bind g (λ h. allowed.allowed_from is h))

-- a reference, where one is given, at a type
abbrev pub leads_to : Bool → List ℕ → Ty → Option allowed.Target
leads_to given r ty = bind (given_ids given r) (λ is. allowed.allowed is ty)

-- ---- what the code's target g says, by the rows s of the table t
-- what identifiers lead to from row 0, and a reference, where one is given
abbrev pub LeadsAlong : ℕ → List ℕ → List ℕ → Option (List Id) → Option Target → Type 0
LeadsAlong chain t s is g = report_target chain t s g ≡ along is (report_target chain t s (Some (Target.Row 0)))

abbrev pub Leads : ℕ → List ℕ → List ℕ → Bool → List ℕ → Option Target → Type 0
Leads chain t s given r g = report_target chain t s g ≡ leads_to given r (type_from chain t s 0)
