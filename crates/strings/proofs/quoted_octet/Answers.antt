use Rattle.strings.proofs.Steps.{quoted-other, quoted-last, quoted-single, quoted-double}
use Rattle.strings.proofs.quoted_octet.Goals as goal

pub returns-then-s-at-ne34 : goal.returns-then-s-at-ne34
returns-then-s-at-ne34 c = search quoted-other

pub returns-then-s-at-lt2 : goal.returns-then-s-at-lt2
returns-then-s-at-lt2 c = search quoted-last

pub returns-then-s-at-ne34-2 : goal.returns-then-s-at-ne34-2
returns-then-s-at-ne34-2 c = search quoted-single

pub returns : goal.returns
returns c = search quoted-double
