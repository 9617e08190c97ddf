-- Alternatives: one lemma for each return; its premises are the facts as the code has them.
use mathlib.Core.Path.{◌≡◌, refl, sym, ap, ap₂, ◌∙◌}
use mathlib.Core.Bool.{Bool, true, false}
use Rattle.std.specs.Prelude.{Option, None, Some}
use mathlib.Core.List.{List}
use Prim.Native.Nat.{ℕ, zero, suc, ◌≤◌, ◌<◌, ◌+◌}
use native.Mathlib.Omega.{arith}
use borrow.Author.Tests.{lt-ltb, le-ltb}
use lib.ListN.{length}
use lib.Dec.{ltb}
use Rattle.octets.specs.Pick.{pick}
use Rattle.rows.specs.Row.{row_at, kind_at, is_member, named_at, members_at, mode_at, number_at}
use Rattle.types.specs.Types.{Tagging, tagging_of, Member, member_of, Ty, members_from, type_from}
use Rattle.types.specs.Inner.Work.{Sound}
use Rattle.value.specs.Decode.{Decoded, choice_of, unwrapped, alternative_from, decode}
use Rattle.value.specs.Inner.Work.{checked, first, starts_of}
use Rattle.value.proofs.Decodes.{framed_by, decodes-tagged}
use Rattle.value.proofs.LeafSteps.{first-none, first_step_lem}

-- a CHOICE is there where its alternative is
told_choice : (mem : Member) (ty : Ty) (g : Tagging) (v : List ℕ) (at end : ℕ) → checked (choice_of mem v at end (decode ty g v at end)) ≡ checked (decode ty g v at end)
told_choice mem ty g v at end = go (decode ty g v at end) refl
  where
    go : (o : Option Decoded) → decode ty g v at end ≡ o → checked (choice_of mem v at end o) ≡ checked o
    go None q = refl
    go (Some d) q = let w = framed_by (decodes-tagged ty g v at end d q) in rw w.header

module _ (chain : ℕ) (t s m : List ℕ) (row : ℕ) (ok : Sound chain t s m) (here : row < length s) (v : List ℕ) (at end : ℕ) where
  abbrev tests : ℕ → Bool
  tests = starts_of chain t s row v end at

  abbrev count : ℕ
  count = members_at t (row_at s row)

  abbrev alternative : ℕ → Option Decoded
  alternative j = decode (type_from chain t s (named_at t (row_at s (row + 1 + j)))) (tagging_of (mode_at t (row_at s (row + 1 + j))) (number_at t (row_at s (row + 1 + j)))) v at end

  abbrev taken : ℕ → Option Decoded
  taken j = choice_of (member_of t (row + 1 + j) (row_at s (row + 1 + j))) v at end (alternative j)

  one : (a k : ℕ) → alternative_from (members_from (type_from chain t s) t s (row + 1 + a) (suc k)) v at end
      ≡ pick (tests a) (taken a) (alternative_from (members_from (type_from chain t s) t s (row + 1 + (a + 1)) k) v at end)
  unfolding members_from unwrapped decode member_of starts_of
  one a k =
      let q : row + 1 + a + 1 ≡ row + 1 + (a + 1) = omega arith in
      ap (λ (x : ℕ). pick (tests a) (taken a) (alternative_from (members_from (type_from chain t s) t s x k) v at end)) q

  none_left : (a : ℕ) → alternative_from (members_from (type_from chain t s) t s (row + 1 + a) 0) v at end ≡ None
  unfolding members_from unwrapped
  none_left a = refl

  by_first : (k a : ℕ)
      → alternative_from (members_from (type_from chain t s) t s (row + 1 + a) k) v at end ≡ pick (ltb (first tests k a) (a + k)) (taken (first tests k a)) None
  by_first zero a =
      let q : ltb a (a + 0) ≡ false = le-ltb a (a + 0) (omega arith) in
      none_left a ∙ sym (ap (λ (x : ℕ). pick (ltb x (a + 0)) (taken x) None) (sym (first-none tests a)) ∙ ap (λ (x : Bool). pick x (taken a) None) q)
  by_first (suc k) a =
      one a k
      ∙ ap (pick (tests a) (taken a)) (by_first k (a + 1))
      ∙ found a k (tests a)
      ∙ ap (λ (x : ℕ). pick (ltb x (a + suc k)) (taken x) None) (sym (first_step_lem tests k a))
    where
      found : (a k : ℕ) (x : Bool) → pick x (taken a) (pick (ltb (first tests k (a + 1)) (a + 1 + k)) (taken (first tests k (a + 1))) None)
          ≡ pick (ltb (pick x a (first tests k (a + 1))) (a + suc k)) (taken (pick x a (first tests k (a + 1)))) None
      found a k true = let q : ltb a (a + suc k) ≡ true = lt-ltb a (a + suc k) (omega arith) in sym (ap (λ (x : Bool). pick x (taken a) None) q)
      found a k false = let q : a + 1 + k ≡ a + suc k = omega arith in ap (λ (x : ℕ). pick (ltb (first tests k (a + 1)) x) (taken (first tests k (a + 1))) None) q

  module _ (n j : ℕ) (counted : n ≡ members_at t (row_at s row)) (found : j ≡ first (starts_of chain t s row v end at) n 0) where
    whole : alternative_from (members_from (type_from chain t s) t s (row + 1) (members_at t (row_at s row))) v at end ≡ pick (ltb j n) (taken j) None
    whole =
        let a : row + 1 ≡ row + 1 + 0 = omega arith in
        let d : 0 + n ≡ n = omega arith in
        ap₂ (λ (x y : ℕ). alternative_from (members_from (type_from chain t s) t s x y) v at end) a (sym counted)
        ∙ by_first n 0
        ∙ ap₂ (λ (x y : ℕ). pick (ltb x y) (taken x) None) (sym found) d

    pub choice-none : n ≤ j → None ≡ checked (alternative_from (members_from (type_from chain t s) t s (row + 1) (members_at t (row_at s row))) v at end)
    choice-none h = sym (ap checked (whole ∙ ap (λ (x : Bool). pick x (taken j) None) (le-ltb j n h)))

    module _ (l : j < n) where
      in_row : j < members_at t (row_at s row)
      in_row = rw (← counted) l

      pub choice-here : row + 1 + j < length s
      choice-here = ok.stands row here j in_row

      pub choice-member : is_member (kind_at t (row_at s (row + 1 + j))) ≡ true
      choice-member = ok.members row here j in_row

      pub choice-is : (r : Option ℕ) → r ≡ checked (alternative j) → r ≡ checked (alternative_from (members_from (type_from chain t s) t s (row + 1) (members_at t (row_at s row))) v at end)
      choice-is r e = e ∙ sym (ap checked (whole ∙ ap (λ (x : Bool). pick x (taken j) None) (lt-ltb j n l))
          ∙ told_choice (member_of t (row + 1 + j) (row_at s (row + 1 + j))) (type_from chain t s (named_at t (row_at s (row + 1 + j)))) (tagging_of (mode_at t (row_at s (row + 1 + j))) (number_at t (row_at s (row + 1 + j)))) v at end)
