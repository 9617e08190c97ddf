use Rattle.assertion.proofs.Steps.{quoted_open, quote_within, quoted-alone, quoted-is}
use native.Mathlib.Omega.{arith}
use Rattle.assertion.proofs.quoted_part.Goals as goal

pub returns-in_err-close : goal.returns-in_err-close
returns-in_err-close c = rw c.from_residual.ensures (search (quoted_open, c.in_err-close.was))

pub overflow_add-close : goal.overflow_add-close
overflow_add-close c = omega (arith, quote_within c.args.s.now c.args.at _ c.closing_at.ensures _ c.in_ok-close.was)

pub returns-in_err-p : goal.returns-in_err-p
returns-in_err-p c = rw c.from_residual-in_err-p.ensures (search (quoted-alone, c.in_ok-close.was, c.in_err-p.was))

pub returns : goal.returns
returns c = search (quoted-is, c.in_ok-close.was, c.in_ok-p.was)
