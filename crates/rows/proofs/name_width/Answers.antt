use Rattle.rows.proofs.Steps.{width-long, width-short}
use borrow.Author.Rules.{rules}
use Rattle.rows.proofs.name_width.Goals as goal

pub returns-then-kind-eq-LONG_MEMBER : goal.returns-then-kind-eq-LONG_MEMBER
returns-then-kind-eq-LONG_MEMBER c = record { width = search width-long; least = search rules; most = search rules }

pub returns : goal.returns
returns c = record { width = search width-short; least = search rules; most = search rules }
