use Rattle.evaluation.proofs.ItemSteps.{value-conforms, part-stands, part-value, part-brief, part-other}
use borrow.Author.Rules.{rules}
use Rattle.evaluation.proofs.judge_conforming.Goals as goal

pub judge_operand-requires : goal.judge_operand-requires
judge_operand-requires c = record { ready = search rules; known = search rules; plain = search rules; conforming = search value-conforms; operand = search part-stands; within = search rules }

pub judge_written-requires : goal.judge_written-requires
judge_written-requires c = record { ready = search rules; known = search rules; plain = search rules; conforming = search value-conforms; part = search part-value; short = search part-brief; other = search part-other; within = search rules }
