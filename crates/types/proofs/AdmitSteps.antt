-- Admission: all clauses in the order of the two passes.
use mathlib.Core.Path.{◌≡◌, refl, sym, ap, ◌∙◌}
use mathlib.Core.Bool.{Bool, true, false}
use mathlib.Core.List.{List}
use Prim.Native.Nat.{ℕ}
use lib.ListN.{length}
use Rattle.octets.specs.Pick.{both}
use Rattle.octets.proofs.Laws.{both_true}
use Rattle.rows.specs.Limits.{Limits}
use Rattle.clauses.specs.Clauses.{every_row, whole_rows, body_formed, first_is_type, points_later, followers_stand, names_differ, numbers_differ}
use Rattle.clauses.specs.Clauses.{alternatives_mandatory, no_implicit_choice, default_legal, chain_fits}
use Rattle.clauses.specs.Inner.Work.{first_pass}
use Rattle.clauses.proofs.PassLaws.{all_both}
use Rattle.types.specs.Admitted.{tags_differ, rows_formed, rows_named, members_agree, types_fit, admitted_rows}
use Rattle.types.specs.Inner.Work.{row_fits, second_pass}

module _ (t s : List ℕ) where
  pub named_points : rows_named t s ≡ true → every_row (points_later t s) s ≡ true
  unfolding rows_named
  named_points e = (both_true (every_row (points_later t s) s) _ e).0

  pub named-stand : rows_named t s ≡ true → followers_stand t s ≡ true
  unfolding rows_named
  named-stand e = (both_true (every_row (points_later t s) s) _ e).1

  -- the clauses of the second pass, each of every row
  each : (chain : ℕ) → second_pass chain t s
      ≡ both (every_row (points_later t s) s) (both (every_row (alternatives_mandatory t s) s) (both (every_row (no_implicit_choice t s) s)
      (both (every_row (default_legal t s) s) (both (every_row (chain_fits chain t s) s) (every_row (tags_differ chain t s) s)))))
  unfolding second_pass row_fits
  each chain =
      all_both (points_later t s) (λ (i : ℕ). both (alternatives_mandatory t s i) (both (no_implicit_choice t s i) (both (default_legal t s i) (both (chain_fits chain t s i) (tags_differ chain t s i))))) (length s)
      ∙ ap (both (every_row (points_later t s) s))
      (all_both (alternatives_mandatory t s) (λ (i : ℕ). both (no_implicit_choice t s i) (both (default_legal t s i) (both (chain_fits chain t s i) (tags_differ chain t s i)))) (length s)
      ∙ ap (both (every_row (alternatives_mandatory t s) s))
      (all_both (no_implicit_choice t s) (λ (i : ℕ). both (default_legal t s i) (both (chain_fits chain t s i) (tags_differ chain t s i))) (length s)
      ∙ ap (both (every_row (no_implicit_choice t s) s))
      (all_both (default_legal t s) (λ (i : ℕ). both (chain_fits chain t s i) (tags_differ chain t s i)) (length s)
      ∙ ap (both (every_row (default_legal t s) s)) (all_both (chain_fits chain t s) (tags_differ chain t s) (length s)))))

  pub in_passes : (l : Limits) → admitted_rows l t s ≡ both (first_pass l t s) (second_pass l.chain t s)
  unfolding admitted_rows rows_formed rows_named members_agree types_fit first_pass
  in_passes l =
      ap (λ (x : Bool). both (both (whole_rows l.rows s) (both (every_row (body_formed l.members t s) s) (first_is_type t s)))
      (both (both (every_row (points_later t s) s) (followers_stand t s)) (both x (both (every_row (chain_fits l.chain t s) s)
      (every_row (tags_differ l.chain t s) s)))))
      (paired (every_row (names_differ t s) s) (every_row (numbers_differ t s) s) _)
      ∙ ordered (whole_rows l.rows s) (every_row (body_formed l.members t s) s) (first_is_type t s) (every_row (points_later t s) s)
      (followers_stand t s)
      (both (every_row (names_differ t s) s) (every_row (numbers_differ t s) s))
      (both (every_row (alternatives_mandatory t s) s) (both (every_row (no_implicit_choice t s) s) (every_row (default_legal t s) s))) (both (every_row (chain_fits l.chain t s) s) (every_row (tags_differ l.chain t s) s))
      ∙ ap (both (first_pass l t s)) (ap (both (every_row (points_later t s) s)) (grouped (every_row (alternatives_mandatory t s) s) (every_row (no_implicit_choice t s) s) (every_row (default_legal t s) s) _) ∙ sym (each l.chain))
    where
      paired : (x y z : Bool) → both x (both y z) ≡ both (both x y) z
      paired true y z = refl
      paired false y z = refl

      grouped : (x y z w : Bool) → both (both x (both y z)) w ≡ both x (both y (both z w))
      grouped true true z w = refl
      grouped true false z w = refl
      grouped false y z w = refl

      ordered : (a b c d e f g h : Bool) → both (both a (both b c)) (both (both d e) (both (both f g) h)) ≡ both (both a (both b (both c (both e f)))) (both d (both g h))
      ordered false b c d e f g h = refl
      ordered true false c d e f g h = refl
      ordered true true false d e f g h = refl
      ordered true true true true true true g h = refl
      ordered true true true true true false g h = refl
      ordered true true true true false f g h = refl
      ordered true true true false true true g h = refl
      ordered true true true false true false g h = refl
      ordered true true true false false f g h = refl
