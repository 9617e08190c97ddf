-- The definitions of this crate and those below, as one name for the `unfolding` line of a computed example.
use Rattle.std.specs.Prelude.{ℕ}
use Rattle.filter.specs.Computing.{filter_computes}
use Rattle.misfit.specs.Opened.{own_header, open_at}
use Rattle.misfit.specs.Trail.{then, each_from, count_from, position_from, find_member, find_alternative, along, trail, has_misfit}
use Rattle.evaluation.specs.Truth.{every_truth, any_truth, conjunction, disjunction, truth}
use Rattle.evaluation.specs.Reading.{reading}
use Rattle.evaluation.specs.Assertion.{asked, testing, outcome}
use Rattle.engine.specs.Misfit.{testing_trail, along_trail, reading_met, meets_misfit}
use Rattle.engine.specs.Answer.{budgeted, question_fits, evaluated, with_value, with_filter, question_of, ask_report}
use Rattle.engine.specs.Listing.{written, listed, listing_fits, with_stored, with_ids, listing_of, list_report}

unfoldable pub engine_computes : ℕ
unfolding filter_computes own_header open_at then each_from count_from position_from find_member find_alternative along trail has_misfit every_truth any_truth
    conjunction disjunction truth reading asked testing outcome testing_trail along_trail reading_met meets_misfit budgeted question_fits evaluated with_value
    with_filter question_of ask_report written listed listing_fits with_stored with_ids listing_of list_report
engine_computes = 0
