use Rattle.clauses.proofs.NameSteps.{before-octet, before-fits, number-start, number_repeated, number-other, tested-all}
use Rattle.clauses.specs.Inner.Work.{new_number_at}
use borrow.Author.Rules.{rules}
use Rattle.clauses.proofs.new_number.Goals as goal

pub loop-i-init : goal.loop-i-init
loop-i-init c = search number-start

pub overflow_add-w : goal.overflow_add-w
overflow_add-w c = record { fits = search (before-fits, rules) }

pub bounds-t-w : goal.bounds-t-w
bounds-t-w c = search before-octet

pub returns-then-t-w : goal.returns-then-t-w
returns-then-t-w c = search number_repeated

pub loop-i-preserved : goal.loop-i-preserved
loop-i-preserved c = search number-other

pub returns : goal.returns
returns c =
    tested-all _ _ _ _ _ (λ x. new_number_at c.args.t.now c.args.w.now c.args.first x c.args.p)
    c.requires.before c.loop-i.invariant c.loop-i.auto.i-end c.loop-i-test.false
