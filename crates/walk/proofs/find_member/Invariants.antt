use Rattle.walk.proofs.Members.{AllPassing}
use Rattle.walk.proofs.find_member.Given as goal

abbrev pub invariant-loop-k : goal.invariant-loop-k
invariant-loop-k l = AllPassing l.t l.v l.row l.j l.start l.stop l.i l.k
