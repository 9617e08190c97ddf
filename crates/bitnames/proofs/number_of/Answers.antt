use native.Mathlib.Omega.{arith}
use Rattle.bitnames.proofs.NameSteps.{bit_here, row_fits_lem, bit_fits, bit_low, number-count, number-start, number-none, number-found, number_again}
use borrow.Author.Rules.{rules}
use Rattle.bitnames.proofs.number_of.Goals as goal

pub loop-j-init : goal.loop-j-init
loop-j-init c = (search rules, search number-count, search number-start)

pub overflow_add-row : goal.overflow_add-row
overflow_add-row c = record { fits = search row_fits_lem }

pub overflow_add-row-in-loop-j : goal.overflow_add-row-in-loop-j
overflow_add-row-in-loop-j c = record { fits = search bit_fits }

pub place-p-requires : goal.place-p-requires
place-p-requires c = record { worded = search rules; here = search bit_here }

pub returns-then-is_named : goal.returns-then-is_named
returns-then-is_named c = record { number = search number-found; low = search bit_low }

pub loop-j-preserved : goal.loop-j-preserved
loop-j-preserved c = (omega arith, search rules, search number_again)

pub returns : goal.returns
returns c = record { number = search number-none; low = tt }
