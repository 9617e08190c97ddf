use Rattle.std.proofs.Common.{rules}
use Rattle.assertion.proofs.Steps.{brace-start, brace_quote, brace-before-both, brace_hidden, brace-opens, brace-other, brace-found, brace_closes, brace-none}
use Rattle.assertion.proofs.brace_at.Goals as goal
use Rattle.assertion.proofs.brace_at.Goals.{then-b-eq34, else-b-eq34+then-b-ge123+in-123, else-b-eq34+then-b-ge123+in-123+else-not-quoted, else-b-eq34+then-b-ge123+in-125+else-inner-eq0, else-b-eq34+then-b-ge123+in-125+else-not-quoted-2, else-b-eq34+then-b-ge123+in_default-1, else-b-eq34+else-b-ge123}

pub loop-i-init : goal.loop-i-init
loop-i-init c = search brace-start

pub loop-i-preserved : goal.loop-i-preserved
loop-i-preserved c =
    elim c.if-b-eq34.branch [
      | then-b-eq34 w ↦ rw (w.inner-is, w.quoted-is) (search (rules, brace_quote))
      | else-b-eq34+then-b-ge123+in-123 w ↦ rw (w.inner-is, w.quoted-is) (search (rules, brace-opens))
      | else-b-eq34+then-b-ge123+in-123+else-not-quoted w ↦ rw (w.inner-is, w.quoted-is) (search (rules, brace_hidden))
      | else-b-eq34+then-b-ge123+in-125+else-inner-eq0 w ↦ rw (w.inner-is, w.quoted-is) (search (rules, brace_closes))
      | else-b-eq34+then-b-ge123+in-125+else-not-quoted-2 w ↦ rw (w.inner-is, w.quoted-is) (search (rules, brace_hidden))
      | else-b-eq34+then-b-ge123+in_default-1 w ↦ rw (w.inner-is, w.quoted-is) (search (rules, brace-other))
      | else-b-eq34+else-b-ge123 w ↦ rw (w.inner-is, w.quoted-is) (search (rules, brace-before-both))
    ]

pub returns-then-inner-eq0 : goal.returns-then-inner-eq0
returns-then-inner-eq0 c = search (rules, brace-found)

pub returns : goal.returns
returns c = search brace-none
