use mathlib.Core.Path.{◌≡◌, refl}
use mathlib.Core.Bool.{true, false}
use native.Mathlib.Nat.{sub-zero}
use borrow.Author.Rules.{rules}
use Rattle.std.proofs.lemmas.Iterator.{cases_from_all, YieldsList-from_range}
use Rattle.table.specs.Inner.Pass.{mandatory_after}
use Rattle.table.proofs.PassSteps.{all_told}
use Rattle.table.proofs.all_mandatory.Goals as goal

pub returns : goal.returns
unfolding mandatory_after
returns c =
    all_told (mandatory_after c.args.w.now c.args.first) c.args.n c.all.result (cases_from_all _ _ c.all.result
    (λ x. mandatory_after c.args.w.now c.args.first x ≡ true) (λ x. mandatory_after c.args.w.now c.args.first x ≡ false)
    c.all.ensures.ran (YieldsList-from_range 0 c.args.n c.args.n refl (sub-zero c.args.n)) (λ x q k. search rules) (λ x q k. search rules))
