use Rattle.nameoperand.proofs.WritingSteps.{naming_none, naming_start, naming_long, naming_behind, naming_read, naming_kept, naming_done}
use Rattle.nameoperand.proofs.WritingSteps.{naming_on, naming_falls, naming_more}
use borrow.Author.Rules.{rules}
use Rattle.nameoperand.proofs.write_name.Goals as goal

pub returns-then-is_empty : goal.returns-then-is_empty
returns-then-is_empty c = search (rules, naming_none)

pub loop-at-init : goal.loop-at-init
loop-at-init c = search (rules, naming_start)

pub write_from-written-requires : goal.write_from-written-requires
write_from-written-requires c = record { short = search rules; behind = search naming_behind; read = search naming_read }

pub returns-then-octet-ne44 : goal.returns-then-octet-ne44
returns-then-octet-ne44 c = search naming_done

pub overflow_add-at : goal.overflow_add-at
overflow_add-at c = record { fits = search naming_on }

pub loop-at-smaller : goal.loop-at-smaller
loop-at-smaller c = search naming_falls

pub loop-at-preserved : goal.loop-at-preserved
loop-at-preserved c = search naming_more
