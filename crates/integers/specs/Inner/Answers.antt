-- What the code's answers say.
use Rattle.octets.specs.Inner.Answers.{clip}
use Rattle.der.specs.Meaning.{Whole}
use Rattle.integers.specs.declared.Asked.{Asked}

-- an integer as the code holds it
abbrev pub held_of : Whole → Asked
held_of w = record { minus = w.minus; size = clip w.size }
