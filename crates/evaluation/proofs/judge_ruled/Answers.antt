use Rattle.evaluation.proofs.ItemSteps.{ruled_undefined, ruled_conforms, ruled_plain, ruled_bits}
use borrow.Author.Rules.{rules}
use Rattle.evaluation.proofs.judge_ruled.Goals as goal

pub judge_bits-requires : goal.judge_bits-requires
judge_bits-requires c = record { ready = search rules; known = search rules; bits = search ruled_bits; value = search rules; within = search rules }

pub returns-then-not-conforms : goal.returns-then-not-conforms
returns-then-not-conforms c = rw c.of.ensures (search ruled_undefined)

pub judge_conforming-requires : goal.judge_conforming-requires
judge_conforming-requires c = record { ready = search rules; known = search rules; plain = search ruled_plain; value = search rules; conforming = search ruled_conforms; within = search rules }
