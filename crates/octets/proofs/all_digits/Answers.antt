use mathlib.Core.Path.{◌≡◌, ◌∙◌}
use borrow.Author.Rules.{rules}
use borrow.Author.Tests.{tests}
use Rattle.std.proofs.lemmas.Iterator.{YieldsList-from_slice}
use Rattle.std.proofs.lemmas.Iterator.Search.{all_from_yields_List}
use Rattle.std.specs.List.{list_all}
use Rattle.octets.specs.Text.{is_digit}
use Rattle.octets.proofs.Laws.{every_all}
use Rattle.octets.proofs.all_digits.Goals as goal

pub returns : goal.returns
returns c =
    let s = c.args.s.now in
    let e : c.all.result ≡ list_all is_digit s = all_from_yields_List is_digit _ _ c.all.result c.all.ensures.ran (YieldsList-from_slice s cc) (λ x b q k. search (rules, tests)) in
    e ∙ every_all is_digit s
