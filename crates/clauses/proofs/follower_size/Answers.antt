use Rattle.clauses.proofs.NameSteps.{size-inside, size_none, size-whole, size_repeated, size-other, size_number, size_bit}
use borrow.Author.Rules.{rules}
use Rattle.clauses.proofs.follower_size.Goals as goal
use Rattle.clauses.proofs.follower_size.Goals.{else-t-p-eq-NAMED_BIT-via-then-t-p-eq-NAMED_BIT+else-not-new_number, else-t-p-eq-NAMED_BIT-via-else-t-p-eq-NAMED_BIT}

pub returns-then-size-eq0 : goal.returns-then-size-eq0
returns-then-size-eq0 c = record { size = search size_none; inside = search rules }

pub new_name-requires : goal.new_name-requires
new_name-requires c = record { few = search rules; before = search rules; here = search size-whole }

pub returns-then-not-new_name : goal.returns-then-not-new_name
returns-then-not-new_name c = record { size = search size_repeated; inside = search rules }

pub new_number-requires : goal.new_number-requires
new_number-requires c = record { few = search rules; before = search rules; here = search size-whole }

pub returns-then-not-new_number : goal.returns-then-not-new_number
returns-then-not-new_number c = record { size = search size_number; inside = search rules }

pub returns : goal.returns
returns c = record {
  size = elim c.else-t-p-eq-NAMED_BIT.branch [
    | else-t-p-eq-NAMED_BIT-via-then-t-p-eq-NAMED_BIT+else-not-new_number w ↦ search size_bit
    | else-t-p-eq-NAMED_BIT-via-else-t-p-eq-NAMED_BIT w ↦ search size-other
  ];
  inside = search size-inside;
}
