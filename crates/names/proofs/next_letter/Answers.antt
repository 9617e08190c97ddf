use Rattle.names.proofs.LetterSteps.{letter-end, letter-bare, letter-stands, letter_escape, escape_stands}
use Rattle.names.proofs.next_letter.Goals as goal

pub returns-then-p-at : goal.returns-then-p-at
returns-then-p-at c = record { letters = search letter-end; stands = tt }

pub returns-then-b-eq92 : goal.returns-then-b-eq92
returns-then-b-eq92 c = record { letters = search letter_escape; stands = search escape_stands }

pub returns : goal.returns
returns c = record { letters = search letter-bare; stands = search letter-stands }
