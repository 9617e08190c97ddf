use mathlib.Core.Path.{◌≡◌, ◌∙◌}
use native.Mathlib.Omega.{arith}
use borrow.Author.Rules.{rules}
use borrow.Author.Tests.{tests}
use lib.ListN.{drop, length-drop}
use lib.Seq.{take_all}
use Rattle.std.proofs.lemmas.Iterator.{YieldsList-from_slice}
use Rattle.std.proofs.lemmas.Iterator.Search.{all_from_yields_List}
use Rattle.std.specs.List.{list_all}
use Rattle.octets.proofs.Laws.{every_all}
use Rattle.der.specs.Contents.{is_printable, legal_printable}
use Rattle.der.proofs.legal_printable.Goals as goal

pub returns : goal.returns
unfolding legal_printable
returns c =
    let s = drop c.skip_printable.result c.args.c.now in
    let whole = c.iter.ensures.rest ∙ take_all _ s (rw length-drop (omega arith)) in
    let e : c.all.result ≡ list_all is_printable s =
    all_from_yields_List is_printable _ _ c.all.result c.all.ensures.ran (YieldsList-from_slice s whole) (λ x b q k. search (rules, tests)) in
    e ∙ every_all is_printable s ∙ c.skip_printable.ensures.rest
