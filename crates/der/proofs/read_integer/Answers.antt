use Rattle.der.proofs.MeaningSteps.{integer-fits, integer_under, integer-minus, integer-plus}
use borrow.Author.Rules.{rules}
use Rattle.der.proofs.read_integer.Goals as goal

pub returns-then-octet-lt128 : goal.returns-then-octet-lt128
returns-then-octet-lt128 c = search integer-plus

pub overflow_sub-result : goal.overflow_sub-result
overflow_sub-result c = integer_under c.args.c.now _ c.octet.ensures c.if-octet-lt128.false c.requires _ c.plain-2.ensures (λ k. search rules)

pub overflow_add-result : goal.overflow_add-result
overflow_add-result c = record { fits = search integer-fits }

pub returns : goal.returns
returns c = integer-minus c.args.c.now _ c.octet.ensures c.if-octet-lt128.false c.requires _ c.plain-2.ensures (λ k. search rules)
