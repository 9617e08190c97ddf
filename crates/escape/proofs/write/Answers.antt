use Rattle.escape.proofs.Steps.{room-more, room-second, room-third, longer}
use Rattle.escape.proofs.Steps.{escapes_itself, escapes_pair, escapes_nul, escapes_end}
use Rattle.std.proofs.Common.{arith}
use Rattle.escape.proofs.write.Goals as goal
use Rattle.escape.proofs.write.Goals.{in-1, in-2, in_default}

pub bounds-room-n : goal.bounds-room-n
bounds-room-n c = search room-more

pub bounds-room-n-in-2 : goal.bounds-room-n-in-2
bounds-room-n-in-2 c = search room-more

pub bounds-room-n-in-2-2 : goal.bounds-room-n-in-2-2
bounds-room-n-in-2-2 c = room-second _ _ _ _ _ c.loop-i.invariant c.loop-i-test.true _ c.width_at.ensures (omega (arith, c.in-2.is))

pub bounds-room-n-in_default : goal.bounds-room-n-in_default
bounds-room-n-in_default c = search room-more

pub bounds-room-n-in_default-2 : goal.bounds-room-n-in_default-2
bounds-room-n-in_default-2 c = search (room-second, longer)

pub bounds-room-n-in_default-3 : goal.bounds-room-n-in_default-3
bounds-room-n-in_default-3 c = search room-third

pub loop-i-preserved : goal.loop-i-preserved
loop-i-preserved c = elim c.match-width_at.branch [ in-1 w ↦ search escapes_itself | in-2 w ↦ search escapes_pair | in_default w ↦ search escapes_nul ]

pub returns : goal.returns
returns c = search escapes_end
