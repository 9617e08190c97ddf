use Rattle.clauses.proofs.PassSteps.{fails_counted, none_placed, pass_start, set_space, due-kind, due-before, pass_many, pass_missing, pass_misfit, pass_follower}
use Rattle.clauses.proofs.PassSteps.{pass_unsized, pass_type, pass_due, pass_done}
use borrow.Author.Rules.{rules}
use Rattle.clauses.proofs.scan.Goals as goal

pub loop-at-init : goal.loop-at-init
loop-at-init c = search pass_start

pub returns-then-n-eq-MAX_ROWS : goal.returns-then-n-eq-MAX_ROWS
returns-then-n-eq-MAX_ROWS c = record { count = fails_counted _ (search pass_many); places = none_placed _ _ }

pub returns-then-not-stands_as : goal.returns-then-not-stands_as
returns-then-not-stands_as c = record { count = fails_counted _ (search pass_missing); places = none_placed _ _ }

pub follower_size-size-requires : goal.follower_size-size-requires
follower_size-size-requires c = record { few = search rules; before = search due-before; inside = search rules; follows = search due-kind }

pub returns-then-size-eq0 : goal.returns-then-size-eq0
returns-then-size-eq0 c = record { count = fails_counted _ (search pass_misfit); places = none_placed _ _ }

pub loop-at-preserved-then-due-ne0 : goal.loop-at-preserved-then-due-ne0
loop-at-preserved-then-due-ne0 c = search pass_follower

pub returns-then-size-eq0-2 : goal.returns-then-size-eq0-2
returns-then-size-eq0-2 c = record { count = fails_counted _ (search pass_unsized); places = none_placed _ _ }

pub loop-at-preserved : goal.loop-at-preserved
loop-at-preserved c = search pass_type

pub returns-then-due-ne0-2 : goal.returns-then-due-ne0-2
returns-then-due-ne0-2 c = record { count = fails_counted _ (search pass_due); places = none_placed _ _ }

pub returns : goal.returns
returns c = record { count = (pass_done _ _ _ _ _ _ _ c.loop-at.invariant c.loop-at-test.false c.if-due-ne0-2.false).0; places = (pass_done _ _ _ _ _ _ _ c.loop-at.invariant c.loop-at-test.false c.if-due-ne0-2.false).1.0 }
