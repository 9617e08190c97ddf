use Rattle.evaluation.proofs.ItemSteps.{own_conforms, own_part, own_written}
use borrow.Author.Rules.{rules}
use Rattle.evaluation.proofs.judge_written.Goals as goal

pub write_operand-n-requires : goal.write_operand-n-requires
write_operand-n-requires c = record { short = search rules; conforming = search own_conforms; part = search own_part; other = search rules }

pub judge_operand-requires : goal.judge_operand-requires
judge_operand-requires c = record { ready = search rules; known = search rules; plain = search rules; conforming = search rules; operand = search own_written; within = search rules }
