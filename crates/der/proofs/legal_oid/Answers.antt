use Rattle.der.proofs.SubSteps.{oid-start, oid_full, oid_falls, oid-more, oid-end, oid-broken, oid-done}
use borrow.Author.Rules.{rules}
use Rattle.der.proofs.legal_oid.Goals as goal

pub loop-i-init : goal.loop-i-init
loop-i-init c = (search rules, search oid-start)

pub returns-then-n-eq32 : goal.returns-then-n-eq32
returns-then-n-eq32 c = search oid_full

pub loop-i-smaller : goal.loop-i-smaller
loop-i-smaller c = search oid_falls

pub loop-i-preserved : goal.loop-i-preserved
loop-i-preserved c = (search rules, search oid-more)

pub returns-in-End : goal.returns-in-End
returns-in-End c = search oid-end

pub returns-in-Broken : goal.returns-in-Broken
returns-in-Broken c = search oid-broken

pub returns : goal.returns
returns c = search oid-done
