use Rattle.std.proofs.Common.{rules, sym, subst}
use Rattle.std.specs.Io.KnownBytes.{Consumes}
use Rattle.cases.proofs.read_number.Goals as goal

pub returns : goal.returns
returns g c = subst (Consumes _ _) (sym c.number_of.ensures) (c.in_ok-read_whole.ensures (search rules))
