-- The definitions of this crate and those below, as one name for the `unfolding` line of a computed example.
use Rattle.std.specs.Prelude.{ℕ}
use Rattle.rows.specs.Computing.{rows_compute}
use Rattle.clauses.specs.Clauses.{whole_rows, body_formed, is_type, first_is_type, later_type, points_later, standing, followers_stand, same_name, differs_from}
use Rattle.clauses.specs.Clauses.{new_name, names_differ, same_number, number_differs_from, new_number, numbers_differ, mandatory_at, alternatives_mandatory}
use Rattle.clauses.specs.Clauses.{no_implicit_choice, default_allowed, default_legal, of_member, chain_fits}

unfoldable pub groups_compute : ℕ
unfolding rows_compute whole_rows body_formed is_type first_is_type later_type points_later standing followers_stand same_name differs_from new_name names_differ
    same_number number_differs_from new_number numbers_differ mandatory_at alternatives_mandatory no_implicit_choice default_allowed default_legal of_member chain_fits
groups_compute = 0
