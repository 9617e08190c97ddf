use Rattle.rows.proofs.KindLaws.{follower-name}
use Rattle.clauses.proofs.NameSteps.{before-name, name-start, name_repeated, name-other, tested-all}
use Rattle.clauses.specs.Inner.Work.{new_name_at}
use Rattle.clauses.proofs.new_name.Goals as goal

pub loop-i-init : goal.loop-i-init
loop-i-init c = search name-start

pub same_name-requires : goal.same_name-requires
same_name-requires c = record { one = search before-name; other = search follower-name }

pub returns-then-same_name : goal.returns-then-same_name
returns-then-same_name c = search name_repeated

pub loop-i-preserved : goal.loop-i-preserved
loop-i-preserved c = search name-other

pub returns : goal.returns
returns c =
    tested-all _ _ _ _ _ (λ x. new_name_at c.args.t.now c.args.w.now c.args.first x c.args.p)
    c.requires.before c.loop-i.invariant c.loop-i.auto.i-end c.loop-i-test.false
