use mathlib.Core.Path.{ap}
use Rattle.value.specs.Part.{PartReport}
use Rattle.demands.proofs.Demand1.{refuses_part, empties_part}
use Rattle.demands.proofs.part.Goals as goal

pub returns : goal.returns
returns c =
    record {
      number = refuses_part _ _ _ _ (ap (λ (p : PartReport). p.refusal) c.part.ensures);
      octets = empties_part _ _ _ _ (ap (λ (p : PartReport). p.octets) c.part.ensures);
    }
