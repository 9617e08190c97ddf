use Rattle.octets.proofs.Laws.{all_none}
use Rattle.rows.specs.Body.{followed}
use Rattle.rows.proofs.Steps.{some_octet, lower_next, named-lower, named-bad, named_more, named-fill, named-done}
use borrow.Author.Rules.{rules}
use Rattle.rows.proofs.name_spelt.Goals as goal

pub loop-j-init : goal.loop-j-init
loop-j-init c = (all_none (followed _ _), search rules)

pub loop-j-preserved-then-is_lower : goal.loop-j-preserved-then-is_lower
loop-j-preserved-then-is_lower c = (search named-lower, search lower_next)

pub returns-then-not-follows : goal.returns-then-not-follows
returns-then-not-follows c = search named-bad

pub returns-then-b-eq0 : goal.returns-then-b-eq0
returns-then-b-eq0 c = search named-fill

pub loop-j-preserved : goal.loop-j-preserved
loop-j-preserved c = (search named_more, search some_octet)

pub returns : goal.returns
returns c = search named-done
