use Rattle.std.proofs.Common.{rules, ◌≡◌, true, false, sym, ◌∙◌}
use Rattle.std.proofs.lemmas.Iterator.{cases_from_all, YieldsList-from_slice}
use Rattle.octets.specs.Octets.{every}
use Rattle.digits.proofs.Steps.{every_told}
use Rattle.digits.specs.Asserted.{digits, is_bit, is_bit_text}
use Rattle.digits.proofs.is_bit_text.Goals as goal

pub returns-then-in_quotes : goal.returns-then-in_quotes
unfolding is_bit_text
returns-then-in_quotes c =
    let told : c.all.result ≡ every is_bit (digits c.args.t.now) =
    every_told is_bit _ c.all.result
    (cases_from_all _ _ _ (λ x. is_bit x ≡ true) (λ x. is_bit x ≡ false) c.all.ensures.ran (YieldsList-from_slice (digits c.args.t.now) cc)
    (λ x q k. search rules)
    (λ x q k. search rules)) in
    rw (sym (c.in_quotes.ensures) ∙ c.if-in_quotes.true) told
