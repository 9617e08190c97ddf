use Rattle.table.proofs.PassSteps.{longest_more}
use Rattle.clauses.proofs.ChainSteps.{tallest-none, tallest-done}
use Rattle.table.specs.Inner.Pass.{chain_after}
use Rattle.table.proofs.longest.Goals as goal

pub loop-j-init : goal.loop-j-init
loop-j-init c = tallest-none (chain_after _ _)

pub loop-j-preserved : goal.loop-j-preserved
loop-j-preserved c = search longest_more

pub returns : goal.returns
returns c = search tallest-done
