use Rattle.plan.proofs.Accepting.{stands_already, operand-prepared, operand-named, operand-single, name-conforms, rdn-conforms}
use borrow.Author.Rules.{rules}
use Rattle.plan.proofs.write_operand.Goals as goal

pub write_name-requires : goal.write_name-requires
write_name-requires c = record { short = search rules; read = search name-conforms }

pub write_rdn-requires : goal.write_rdn-requires
write_rdn-requires c = record { short = search rules; read = search rdn-conforms }

pub returns-in-Whole : goal.returns-in-Whole
returns-in-Whole c = search stands_already

pub returns-in-Prepared : goal.returns-in-Prepared
returns-in-Prepared c = search operand-prepared

pub returns-in-Name : goal.returns-in-Name
returns-in-Name c = search operand-named

pub returns-in-Rdn : goal.returns-in-Rdn
returns-in-Rdn c = search operand-single
