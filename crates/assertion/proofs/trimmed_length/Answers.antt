use Rattle.std.proofs.Common.{◌≡◌, ◌+◌, MatchOption, rules}
use Rattle.assertion.proofs.Laws.{LastOther, trimmed-is}
use Rattle.assertion.proofs.trimmed_length.Goals as goal

pub returns : goal.returns
returns c =
    let found : LastOther c.args.t.now c.rposition.result = search rules in
    let counted : MatchOption c.rposition.result (c.map_or.result ≡ 0) (λ i. c.map_or.result ≡ i + 1) = search rules in
    trimmed-is c.args.t.now c.rposition.result c.map_or.result found counted
