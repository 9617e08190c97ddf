use Rattle.std.proofs.Common.{rules}
use Rattle.std.proofs.lemmas.Nat.{be_bytes_8}
use Rattle.cases.proofs.number_of.Goals as goal

pub returns : goal.returns
returns c = be_bytes_8 c.args.head _ (search rules) (search rules) c.from_be_bytes.ensures
