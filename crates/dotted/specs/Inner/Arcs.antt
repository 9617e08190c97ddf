-- What the code's answers say of a dotted text. The meaning of a dotted text is in der/specs/Dotted.
use Rattle.std.specs.Prelude.{Option, None, Some}
use Rattle.std.specs.Prelude.{ℕ, ◌+◌, ◌-◌, Bool, true, false, List, [], ◌∷◌, ltb, leb, eqb, length, drop}
use Rattle.octets.specs.Pick.{pick, both, either}
use Rattle.octets.specs.Octets.{octet}
use Rattle.octets.specs.Text.{is_digit, decimal_from, pieces}
use Rattle.octets.specs.Inner.Answers.{clip, grow_of}
use Rattle.der.specs.Dotted.{every_number}
use Rattle.dotted.specs.declared.Form.{Form}
use Rattle.dotted.specs.declared.Digits.{Digits}
use Rattle.dotted.specs.declared.Arc.{Arc}
use Rattle.dotted.specs.declared.SmallArc.{SmallArc}

-- ---- digits, one after another
abbrev pub more_digit : ℕ → Form
more_digit b = pick (is_digit b) Form.Number Form.Broken

abbrev pub first_digit : ℕ → Form
first_digit b = pick (eqb b 48) Form.Zero (more_digit b)

unfoldable pub after_digit : Form → ℕ → Form
after_digit Form.Empty b = first_digit b
after_digit Form.Zero b = Form.Broken
after_digit Form.Number b = more_digit b
after_digit Form.Broken b = Form.Broken

abbrev pub is_formed : Form → Bool
is_formed Form.Empty = false
is_formed Form.Zero = true
is_formed Form.Number = true
is_formed Form.Broken = false

abbrev pub add_digit : Digits → ℕ → Digits
add_digit d b = record { size = grow_of d.size (b - 48); form = after_digit d.form b }

-- the arcs of a text are numbers, after digits of the first of them of form f
unfoldable pub numbers_after : Form → List ℕ → Bool
numbers_after f [] = is_formed f
numbers_after f (b ∷ s) =
    let next = numbers_after Form.Empty s in
    let longer = numbers_after (after_digit f b) s in
    pick (eqb b 46) (both (is_formed f) next) longer

-- the first arc is 2
unfoldable pub is_joint : List ℕ → Bool
is_joint t = both (leb 2 (length t)) (both (eqb (octet t 0) 50) (eqb (octet t 1) 46))

-- ---- the arc that starts at a place, after digits d
abbrev pub arc_of : Digits → Option ℕ → Arc
arc_of d next = record { size = d.size; formed = is_formed d.form; next = next }

unfoldable pub arc_from : Digits → List ℕ → ℕ → Arc
arc_from d [] at = arc_of d None
arc_from d (b ∷ s) at =
    let longer = arc_from (add_digit d b) s (at + 1) in
    pick (eqb b 46) (arc_of d (Some (at + 1))) longer

unfoldable pub arc_at : List ℕ → ℕ → Arc
arc_at t at = arc_from (record { size = Some 0; form = Form.Empty }) (drop at t) at

-- an arc as a stored one may be, by its size and where the next starts
abbrev pub small_of : Option ℕ → Option ℕ → Option SmallArc
small_of None next = None
small_of (Some n) next = pick (ltb n 4294967296) (Some (record { number = n; next = next })) None

unfoldable pub small_at : List ℕ → ℕ → Option SmallArc
small_at t at = small_of (arc_at t at).size (arc_at t at).next

-- the pieces from the next arc on
unfoldable pub rest_pieces : List ℕ → Option ℕ → List (List ℕ)
rest_pieces t None = []
rest_pieces t (Some at) = pieces (drop at t)

-- the first two arcs are within their bounds; a size beyond the code's numbers is above them
abbrev pub are_roots : Option ℕ → Option ℕ → Bool
are_roots None b = false
are_roots (Some m) None = both (leb m 2) (eqb m 2)
are_roots (Some m) (Some n) = both (leb m 2) (either (eqb m 2) (ltb n 40))

-- the arcs after a root a: numbers, the first of them within its bounds
abbrev pub under_root : Option ℕ → List (List ℕ) → Bool
under_root a [] = false
under_root a (p ∷ ps) = are_roots a (clip (decimal_from 0 p))

unfoldable pub dotted_under : Option ℕ → List (List ℕ) → Bool
dotted_under a ps = both (every_number ps) (under_root a ps)
