-- Laws of rows, for the layers above.
use mathlib.Core.Path.{◌≡◌}
use mathlib.Core.Bool.{true}
use mathlib.Core.List.{List}
use Prim.Native.Nat.{ℕ, ◌≤◌}
use borrow.Author.Tests.{leb-true}
use Rattle.octets.proofs.Laws.{both_true}
use Rattle.rows.specs.Row.{kind_at, mode_at, number_at, presence_at, default_length_at, bit_number_at, is_member}
use Rattle.rows.specs.Body.{name_formed, length_formed, tagging_formed, tag_formed, presence_formed, default_filled, member_formed, bit_formed, row_formed}

-- the facts of a member row whose body is formed
pub record MemberFacts (t : List ℕ) (p : ℕ) : Type 0 where
  pub named : name_formed t p ≡ true
  pub sized : length_formed t p ≡ true
  pub mode : mode_at t p ≤ 2
  pub number : number_at t p ≤ 30
  pub presence : presence_at t p ≤ 2
  pub length : default_length_at t p ≤ 8

pub member_facts : (most : ℕ) (t : List ℕ) (p : ℕ) → row_formed most t p ≡ true → is_member (kind_at t p) ≡ true → MemberFacts t p
unfolding row_formed member_formed tag_formed tagging_formed presence_formed default_filled
member_facts most t p e k =
    let w = both_true (name_formed t p) _ (rw k at e) in
    let v = both_true (length_formed t p) _ w.1 in
    let g = both_true _ _ v.1 in
    let h = both_true _ _ g.0 in
    let n = both_true _ _ h.1 in
    let r = both_true _ _ g.1 in
    let d = both_true _ _ r.1 in
    record {
      named = w.0;
      sized = v.0;
      mode = leb-true _ _ h.0;
      number = leb-true _ _ n.0;
      presence = leb-true _ _ r.0;
      length = leb-true _ _ d.0;
    }

-- and of the row of a named bit
pub bit_facts : (most : ℕ) (t : List ℕ) (p : ℕ) → row_formed most t p ≡ true → kind_at t p ≡ 18 → (name_formed t p ≡ true) × (bit_number_at t p ≤ 63)
unfolding row_formed bit_formed is_member
bit_facts most t p e k = let w = both_true (name_formed t p) _ (rw k at e) in (w.0, leb-true _ _ w.1)
