-- What is said of the part of a value is said of two numbers and the value.
use Rattle.std.proofs.Common.{◌≡◌, ℕ, ◌+◌, List, [], ◌∷◌, zero, suc, refl, ap, ◌∙◌, length, take, drop, leb}
use Rattle.octets.specs.Pick.{pick}
use Rattle.octets.specs.Octets.{part}
use Rattle.octets.proofs.Laws.{pick_cases}
use Rattle.value.specs.Limits.{Limits}
use Rattle.value.specs.Check.{value_fits}
use Rattle.value.specs.Part.{PartReport, refused_part, part_report}
use Rattle.capi.specs.Numbers.{numbers, CPart, of_part, part_seen}
use Rattle.capi.specs.declared.CAnswer.{CAnswer}

-- as many octets as a part has, from its place on, are the part
take_again : (n : ℕ) (l : List ℕ) → take (length (take n l)) l ≡ take n l
take_again zero l = refl
take_again (suc n) [] = refl
take_again (suc n) (a ∷ l) = ap (λ (k : List ℕ). a ∷ k) (take_again n l)

part_again : (l : Limits) (v : List ℕ) (place size : ℕ) → part v place (length (part_report l v place size).octets) ≡ (part_report l v place size).octets
unfolding part_report
part_again l v place size =
    pick_cases Again (value_fits l v) (pick (leb (place + size) (length v)) done (refused_part 4)) (refused_part 1)
    (λ _. pick_cases Again (leb (place + size) (length v)) done (refused_part 4) (λ _. take_again size (drop place v)) (λ _. refl)) (λ _. refl)
  where
    Again : PartReport → Type 0
    Again p = part v place (length p.octets) ≡ p.octets

    done : PartReport
    done = record { refusal = 0; octets = part v place size }

pub part-numbers : (l : Limits) (v : List ℕ) (place size : ℕ) (p : PartReport) (r : CAnswer) → p ≡ part_report l v place size → r ≡ (of_part p).answer
    → part_seen v place r ≡ of_part (part_report l v place size)
part-numbers l v place size p r told e = ap (part_seen v place) (e ∙ ap (λ (q : PartReport). (of_part q).answer) told) ∙ ap seen (part_again l v place size)
  where
    seen : List ℕ → CPart
    seen octets = record { answer = numbers (part_report l v place size).refusal (length (part_report l v place size).octets); octets = octets }
