-- "Spaces stand only where RFC 3641 allows them": after a label (at least one), after an opening brace, after a comma, before a closing brace.
use Rattle.std.specs.Prelude.{ℕ, ◌+◌, List, length, drop, eqb}
use Rattle.std.specs.Prelude.{Option, None, Some}
use Rattle.octets.specs.Pick.{pick, both}
use Rattle.octets.specs.Octets.{octet}
use Rattle.octets.specs.Text.{starts, skip}

-- what follows a label at a place: at least one space stands between
unfoldable pub label_at : List ℕ → List ℕ → ℕ → Option ℕ
label_at w s at = pick (both (starts w (drop at s)) (eqb (octet s (at + length w)) 32)) (Some (skip s (at + length w))) None

-- what follows a character at a place, and any spaces after it
unfoldable pub mark_at : ℕ → List ℕ → ℕ → Option ℕ
mark_at c s at = pick (eqb (octet s at) c) (Some (skip s (at + 1))) None

abbrev pub comma : ℕ
comma = 44

abbrev pub open_brace : ℕ
open_brace = 123

abbrev pub close_brace : ℕ
close_brace = 125
