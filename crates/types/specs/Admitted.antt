-- Type table: "Admitted", all clauses. t is the table, s its rows.
use Rattle.std.specs.Prelude.{ℕ, Bool, List}
use Rattle.octets.specs.Pick.{both}
use Rattle.rows.specs.Limits.{Limits}
use Rattle.rows.specs.Row.{rows}
use Rattle.types.specs.Types.{type_from}
use Rattle.types.specs.Begins.{tags_apart}
use Rattle.clauses.specs.Clauses.{every_row, whole_rows, body_formed, first_is_type, points_later, followers_stand, names_differ, numbers_differ}
use Rattle.clauses.specs.Clauses.{alternatives_mandatory, no_implicit_choice, default_legal, chain_fits}

-- "Alternatives' tags differ; so do those of a run of optional or default members and the mandatory one after it."
unfoldable pub tags_differ : ℕ → List ℕ → List ℕ → ℕ → Bool
tags_differ chain t s i = tags_apart (type_from chain t s i)

-- ---- the clauses together
-- rows and bodies
unfoldable pub rows_formed : ℕ → ℕ → List ℕ → List ℕ → Bool
rows_formed most members t s = both (whole_rows most s) (both (every_row (body_formed members t s) s) (first_is_type t s))

-- the rows that rows name, and where members stand
unfoldable pub rows_named : List ℕ → List ℕ → Bool
rows_named t s = both (every_row (points_later t s) s) (followers_stand t s)

-- rows that follow one, and members' defaults
unfoldable pub members_agree : List ℕ → List ℕ → Bool
members_agree t s =
    both (every_row (names_differ t s) s)
    (both (every_row (numbers_differ t s) s)
    (both (every_row (alternatives_mandatory t s) s)
    (both (every_row (no_implicit_choice t s) s)
    (every_row (default_legal t s) s))))

-- chains and tags
unfoldable pub types_fit : ℕ → List ℕ → List ℕ → Bool
types_fit chain t s = both (every_row (chain_fits chain t s) s) (every_row (tags_differ chain t s) s)

unfoldable pub admitted_rows : Limits → List ℕ → List ℕ → Bool
admitted_rows l t s = both (rows_formed l.rows l.members t s) (both (rows_named t s) (both (members_agree t s) (types_fit l.chain t s)))

unfoldable pub admitted : Limits → List ℕ → Bool
admitted l t = admitted_rows l t (rows l.rows t)
