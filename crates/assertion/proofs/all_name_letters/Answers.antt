use Rattle.std.proofs.Common.{◌∙◌, sym, rules, tests}
use Rattle.std.proofs.lemmas.Iterator.{YieldsList-from_slice}
use Rattle.std.proofs.lemmas.Iterator.Search.{all_from_yields_List}
use Rattle.assertion.specs.Assertion.{is_name_letter}
use Rattle.assertion.proofs.Laws.{every-all}
use Rattle.assertion.proofs.all_name_letters.Goals as goal

pub returns : goal.returns
returns c =
    all_from_yields_List is_name_letter _ _ c.all.result c.all.ensures.ran (YieldsList-from_slice c.args.t.now cc) (λ x b q k. search (rules, tests))
    ∙ sym (every-all is_name_letter c.args.t.now)
