use Rattle.strings.proofs.ImageSteps.{seek_end, seek_falls, seek_further, seek_blank, seek_nothing, seek_shown}
use borrow.Author.Rules.{rules}
use Rattle.strings.proofs.next_image.Goals as goal

pub returns-in_err-b : goal.returns-in_err-b
returns-in_err-b c = record { rest = rw c.from_residual.ensures (search (seek_end, c.in_err-b.ensures)); on = search rules }

pub returns-then-o-gt0 : goal.returns-then-o-gt0
returns-then-o-gt0 c = record { rest = search (seek_shown, c.in_ok-b.ensures); on = search (seek_further, c.in_ok-b.ensures) }

pub loop-b-smaller-in-Blank : goal.loop-b-smaller-in-Blank
loop-b-smaller-in-Blank c = search (seek_falls, c.in_ok-b.ensures)

pub loop-b-preserved-in-Blank : goal.loop-b-preserved-in-Blank
loop-b-preserved-in-Blank c = search (seek_blank, c.in_ok-b.ensures)

pub loop-b-smaller : goal.loop-b-smaller
loop-b-smaller c = search (seek_falls, c.in_ok-b.ensures)

pub loop-b-preserved : goal.loop-b-preserved
loop-b-preserved c = search (seek_nothing, c.in_ok-b.ensures)
