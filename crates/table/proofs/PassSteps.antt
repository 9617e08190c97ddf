-- The second pass: one lemma for each return and each turn of a loop; its premises are the facts as the code has them.
use mathlib.Core.Path.{◌≡◌, refl, sym, ap, ap₂, ◌∙◌}
use mathlib.Core.Bool.{Bool, true, false, not, false≢true}
use mathlib.Core.List.{List}
use Prim.Native.Nat.{ℕ, zero, suc, ◌≤◌, ◌<◌, ◌+◌, ◌-◌, ◌*◌, ◌%◌, ◌^◌}
use native.Mathlib.Omega.{arith}
use borrow.Author.Tests.{not-true, not-false, eq-eqb, ne_eqb, lt-ltb, le-ltb, lt-leb, le-leb, ltb-true, ltb-false}
use lib.ListN.{length, get_or, length-take}
use lib.Dec.{ltb, leb, eqb}
use lib.Bits.{bit_and, bit_or}
use Rattle.std.specs.Prelude.{Option, None, Some, max, MatchBool}
use Rattle.std.specs.List.{AllWithin, HoldsAt, range_with_len}
use Rattle.std.proofs.lemmas.List.FromFn.{length-range_with_len, get_or-range_with_len}
use Rattle.octets.specs.Pick.{pick, both, either, all}
use Rattle.octets.specs.Octets.{larger, base_from}
use Rattle.octets.proofs.Laws.{octet-past, all-is, all_not, both_true}
use Rattle.der.specs.Tag.{universal}
use Rattle.rows.specs.Paper.{table_limits}
use Rattle.rows.specs.Inner.Sizes.{WholeFollower, WholeMember}
use Rattle.rows.proofs.KindLaws.{list-names, member_no_list, member-names, names-none, named_none, follower-name, follower-member}
use Rattle.rows.specs.Row.{row_at, kind_at, is_type_kind, is_member, named_at, members_at, is_list, mode_at, number_at, presence_at, default_length_at, default_at}
use Rattle.clauses.specs.Clauses.{is_type, later_type, points_later, type_kind, alternatives_mandatory, no_implicit_choice, default_legal, default_allowed, chain_fits}
use Rattle.clauses.specs.Inner.Work.{first_pass, tallest}
use Rattle.clauses.proofs.PassLaws.{member-whole}
use Rattle.clauses.proofs.ChainSteps.{tallest-none, tallest-more}
use Rattle.types.specs.Types.{untagged, member_of, members_from, type_from}
use Rattle.types.specs.Begins.{begins, some_begins, member_begins}
use Rattle.types.specs.Admitted.{tags_differ}
use Rattle.types.specs.Inner.Work.{bit_of, context_bit, apart_from, union_from, never, row_fits}
use Rattle.types.proofs.BitSets.{bit_none}
use Rattle.types.proofs.TagLaws.{apart-choice, apart-sequence, union-bits, union-small, one-small, bits-one, bits-choice, apart_of_choice, apart_of_sequence, apart_of_other}
use Rattle.table.specs.Inner.Rows.{table_rows, place_at, MemberRow, TypeRow}
use Rattle.table.specs.Inner.Fields.{kind_of, first_of, target_of, chain_of, presence_of, Packed}
use Rattle.table.specs.Inner.Words.{first_octet, TypeWord, MemberWord}
use Rattle.table.specs.Inner.Pass.{first_at, second_at, set_at, type_chain, mandatory_in, chain_after, mandatory_after, implicit_choice, member_allowed, member_second, Basic, RowWords, Next, Says}
use Rattle.table.proofs.KindLaws.{sequence_no_member, choice_no_member, list_no_member}
use Rattle.table.proofs.PassLaws.{Named, is-named, few-rows, member-formed, place-small, group_ends, unfit, fit, fits_points, fits-alternatives, fits-implicit, fits-default, fits-chain, fits-tags, points_row, points_none, alternatives-none, alternatives-all, implicit-none, default_none, allowed_as, list_no_sequence, list_no_choice, sequence_no_list, choice_no_list, no-members, other-kind, later-kind, group_small, group_bits, group_mandatory, group_chain, alternatives_as, element-chain}

-- ---- reading the words
pub first_past : (w : List ℕ) (j : ℕ) → length w ≡ 256 → 128 ≤ j → 0 ≡ get_or w (2 * j) 0
first_past w j e h = octet-past w (2 * j) (omega arith)

pub second_past : (w : List ℕ) (j : ℕ) → length w ≡ 256 → 128 ≤ j → 0 ≡ get_or w (2 * j + 1) 0
second_past w j e h = octet-past w (2 * j + 1) (omega arith)

module _ (w : List ℕ) (j x : ℕ) (read : x ≡ first_at w j) where
  module _ (f : ℕ) (opens : f ≡ first_of x) where
    the-first : first_of (first_at w j) ≡ f
    the-first = sym (opens ∙ ap (λ (y : ℕ). first_of y) read)

    pub set_own : (c r : ℕ) → f < 128 → c ≡ target_of x → r ≡ second_at w c → r ≡ set_at w j
    unfolding set_at
    set_own c r h e q = rw (the-first, lt-ltb f 128 h) (q ∙ ap (second_at w) (e ∙ ap (λ (y : ℕ). target_of y) read))

    pub set_context : (r : ℕ) → 128 ≤ f → r ≡ context_bit (f % 32) → r ≡ set_at w j
    unfolding set_at
    set_context r h q = rw (the-first, le-ltb f 128 h) q

  pub chain-is : (c y r : ℕ) → c ≡ target_of x → y ≡ first_at w c → r ≡ chain_of y → r ≡ type_chain w j
  unfolding type_chain
  chain-is c y r a b q = q ∙ ap (λ (z : ℕ). chain_of z) (b ∙ ap (first_at w) (a ∙ ap (λ (z : ℕ). target_of z) read))

  pub mandatory-is : (o : ℕ) → o ≡ presence_of x → eqb o 0 ≡ mandatory_in w j
  unfolding mandatory_in
  mandatory-is o e = ap (λ (y : ℕ). eqb y 0) (e ∙ ap (λ (y : ℕ). presence_of y) read)

-- ---- the members of a row
larger_is : (a b : ℕ) → max b a ≡ larger a b
unfolding larger
larger_is a b = go (ltb a b) refl
  where
    go : (x : Bool) → ltb a b ≡ x → max b a ≡ pick x b a
    go true e = let l = ltb-true a b e in omega arith
    go false e = let l = ltb-false a b e in omega arith

pub longest_more : (w : List ℕ) (first j m x r : ℕ) → m ≡ tallest (chain_after w first) j → x ≡ type_chain w (first + j) → r ≡ max m x → r ≡ tallest (chain_after w first) (j + 1)
unfolding chain_after
longest_more w first j m x r e q h = tallest-more (chain_after w first) j m x r e q (h ∙ larger_is x m)

-- what `all` answers over the numbers below n, by the test f of each
pub all_told : (f : ℕ → Bool) (n : ℕ) (r : Bool)
    → MatchBool r (AllWithin (λ x. f x ≡ true) (range_with_len 0 n) 0 (length (range_with_len 0 n)))
    ((k : ℕ) × (k < length (range_with_len 0 n)) × HoldsAt (λ x. f x ≡ false) (range_with_len 0 n) k)
    → r ≡ all f n
all_told f n true every = sym (all-is f n (λ i h.
    let l = length-range_with_len 0 n in
    let e : get_or (range_with_len 0 n) i 0 ≡ i = omega (arith, get_or-range_with_len 0 n i 0 h) in
    sym (ap f e) ∙ every i 0 (omega arith) (omega arith)))
all_told f n false (k, l, not_here) =
    let s = length-range_with_len 0 n in
    let h : k < n = omega arith in
    let e : get_or (range_with_len 0 n) k 0 ≡ k = omega (arith, get_or-range_with_len 0 n k 0 h) in
    sym (all_not f n k h (sym (ap f e) ∙ not_here 0))

pub gathered_none : (w : List ℕ) (j x : ℕ) (r : Bool) → r ≡ mandatory_in w j → r ≡ true → 0 ≡ pick (mandatory_in w j) 0 x
gathered_none w j x r e h = rw (sym e ∙ h)

pub gathered_more : (w : List ℕ) (j x : ℕ) (r : Bool) → r ≡ mandatory_in w j → r ≡ false → x ≡ pick (mandatory_in w j) 0 x
gathered_more w j x r e h = rw (sym e ∙ h)

-- the sets of the rows from `first` to j have been gathered into x, in a loop to `last`
pub record Gathers (w : List ℕ) (ends : ℕ → Bool) (first n last x j : ℕ) : Type 0 where
  pub ends_at : last ≡ first + n
  pub after : first ≤ j
  pub before : j ≤ last
  pub apart : apart_from (set_at w) ends (last - j) j x ≡ apart_from (set_at w) ends n first 0

pub record Joins (w : List ℕ) (first n last x j : ℕ) : Type 0 where
  pub union : union_from (set_at w) (last - j) j x ≡ union_from (set_at w) n first 0

pub gather_start : (w : List ℕ) (ends : ℕ → Bool) (first n : ℕ) → Gathers w ends first n (first + n) 0 first
gather_start w ends first n = let q : first + n - first ≡ n = omega arith in
    record { ends_at = refl; after = omega arith; before = omega arith; apart = ap (λ (k : ℕ). apart_from (set_at w) ends k first 0) q }

pub join_start : (w : List ℕ) (first n : ℕ) → Joins w first n (first + n) 0 first
join_start w first n = let q : first + n - first ≡ n = omega arith in record { union = ap (λ (k : ℕ). union_from (set_at w) k first 0) q }

module _ (w : List ℕ) (ends : ℕ → Bool) (first n last x j : ℕ) (so_far : Gathers w ends first n last x j) where
  module _ (more : ℕ) (inside : j < last) (read : more ≡ set_at w j) where
    apart_now : apart_from (set_at w) ends n first 0 ≡ both (eqb (bit_and x more) 0) (apart_from (set_at w) ends (last - (j + 1)) (j + 1) (pick (ends j) 0 (bit_or x more)))
    unfolding apart_from
    apart_now = let q : last - j ≡ suc (last - (j + 1)) = omega arith in rw read (sym so_far.apart ∙ ap (λ (k : ℕ). apart_from (set_at w) ends k j x) q)

    gather_bad : (bit_and x more ≡ 0 → ⊥) → apart_from (set_at w) ends n first 0 ≡ false
    gather_bad h = apart_now ∙ rw (ne_eqb (bit_and x more) 0 h)

    gather_more : (y : ℕ) → bit_and x more ≡ 0 → y ≡ pick (ends j) 0 (bit_or x more) → Gathers w ends first n last y (j + 1)
    gather_more y h e = record {
      ends_at = so_far.ends_at;
      after = let a = so_far.after in omega arith;
      before = omega arith;
      apart = sym (apart_now ∙ rw (eq-eqb (bit_and x more) 0 h) (ap (apart_from (set_at w) ends (last - (j + 1)) (j + 1)) (sym e)));
    }

  gather_all : last ≤ j → apart_from (set_at w) ends n first 0 ≡ true
  unfolding apart_from
  gather_all h = let q : last - j ≡ 0 = omega arith in sym so_far.apart ∙ ap (λ (k : ℕ). apart_from (set_at w) ends k j x) q

-- of a SEQUENCE
module _ (w : List ℕ) (first n last x j : ℕ) (so_far : Gathers w (mandatory_in w) first n last x j) where
  module _ (more : ℕ) (inside : j < last) (read : more ≡ set_at w j) where
    pub runs_bad : (bit_and x more ≡ 0 → ⊥) → false ≡ apart_from (set_at w) (mandatory_in w) n first 0
    runs_bad h = sym (gather_bad w (mandatory_in w) first n last x j so_far more inside read h)

    pub runs_again : (y : ℕ) → bit_and x more ≡ 0 → y ≡ pick (mandatory_in w j) 0 (bit_or x more) → Gathers w (mandatory_in w) first n last y (j + 1)
    runs_again y h e = gather_more w (mandatory_in w) first n last x j so_far more inside read y h e

  pub runs_done : last ≤ j → true ≡ apart_from (set_at w) (mandatory_in w) n first 0
  runs_done h = sym (gather_all w (mandatory_in w) first n last x j so_far h)

-- of a CHOICE
module _ (w : List ℕ) (first n last x j : ℕ) (so_far : Gathers w never first n last x j) where
  module _ (more : ℕ) (inside : j < last) (read : more ≡ set_at w j) where
    pub choice-bad : (bit_and x more ≡ 0 → ⊥) → None ≡ pick (apart_from (set_at w) never n first 0) (Some (union_from (set_at w) n first 0)) None
    choice-bad h = rw (gather_bad w never first n last x j so_far more inside read h)

    pub choice_again : bit_and x more ≡ 0 → Gathers w never first n last (bit_or x more) (j + 1)
    choice_again h = gather_more w never first n last x j so_far more inside read (bit_or x more) h refl

    pub join_again : Joins w first n last x j → Joins w first n last (bit_or x more) (j + 1)
    unfolding union_from
    join_again v = let q : last - j ≡ suc (last - (j + 1)) = omega arith in
        record { union = rw read (sym (ap (λ (k : ℕ). union_from (set_at w) k j x) q) ∙ v.union) }

  pub choice-done : Joins w first n last x j → last ≤ j → Some x ≡ pick (apart_from (set_at w) never n first 0) (Some (union_from (set_at w) n first 0)) None
  unfolding union_from
  choice-done v h = let q : last - j ≡ 0 = omega arith in
      rw (gather_all w never first n last x j so_far h) (ap (λ (k : ℕ). Some k) (sym (ap (λ (k : ℕ). union_from (set_at w) k j x) q) ∙ v.union))

-- ---- the member row at p
module _ (t : List ℕ) (p k m : ℕ) (read : m ≡ mode_at t p) where
  pub implicit-is : m ≡ 2 → eqb k 13 ≡ implicit_choice t p k
  unfolding implicit_choice
  implicit-is h = rw (← read, eq-eqb m 2 h)

  pub implicit_not : (m ≡ 2 → ⊥) → eqb m 2 ≡ implicit_choice t p k
  unfolding implicit_choice
  implicit_not h = rw (← read, ne_eqb m 2 h)

module _ (t : List ℕ) (p k : ℕ) (b : Bool) (tagged : b ≡ implicit_choice t p k) where
  pub allowed_not : b ≡ true → false ≡ member_allowed t p k
  unfolding member_allowed
  allowed_not h = rw (sym tagged ∙ h)

  module _ (h : b ≡ false) (m : ℕ) (present : m ≡ presence_at t p) where
    pub allowed-default : (d : List ℕ) (r : Bool) → m ≡ 2 → d ≡ default_at t p → r ≡ default_allowed k d → r ≡ member_allowed t p k
    unfolding member_allowed
    allowed-default d r g e q = rw (sym tagged ∙ h, ← present, eq-eqb m 2 g) (q ∙ ap (default_allowed k) e)

    pub allowed-none : (o : ℕ) → (m ≡ 2 → ⊥) → o ≡ default_length_at t p → eqb o 0 ≡ member_allowed t p k
    unfolding member_allowed
    allowed-none o g e = rw (sym tagged ∙ h, ← present, ne_eqb m 2 g) (ap (λ (x : ℕ). eqb x 0) e)

module _ (t : List ℕ) (p y m : ℕ) (present : m ≡ presence_at t p) where
  pub second-default : (d : List ℕ) (r : ℕ) → m ≡ 2 → d ≡ default_at t p → r ≡ base_from 0 d → r ≡ member_second t p y
  unfolding member_second
  second-default d r g e q = rw (← present, eq-eqb m 2 g) (q ∙ ap (base_from 0) e)

  pub second_set : (m ≡ 2 → ⊥) → y ≡ member_second t p y
  unfolding member_second
  second_set g = rw (← present, ne_eqb m 2 g)

pub default-short : (t d : List ℕ) (p : ℕ) → d ≡ default_at t p → length (default_at t p) ≤ 8 → length d ≤ 8
default-short t d p e l = rw e l

-- ---- answers
pub refused_says : (t w : List ℕ) (i : ℕ) → row_fits 16 t (table_rows t) i ≡ false → Says t w i None
refused_says t w i e = record { fits = sym e; words = λ x y q. absurd (let z : ◌≡◌ {A = ℕ} 0 1 = cc in omega arith) }

pub made-says : (t w : List ℕ) (i x y : ℕ) → row_fits 16 t (table_rows t) i ≡ true → RowWords t w i x y → Says t w i (Some (x, y))
made-says t w i x y e v = record { fits = sym e; words = λ a b q. let k : ◌≡◌ {A = ℕ × ℕ} (x, y) (a, b) = cc in rw (← ap (λ (z : ℕ × ℕ). z.0) k, ← ap (λ (z : ℕ × ℕ). z.1) k) v }

type-says : (t w : List ℕ) (i p d x y : ℕ) → p ≡ place_at t i → row_fits 16 t (table_rows t) i ≡ true → TypeRow t i
    → Packed x (kind_at t p) (first_octet untagged (kind_at t p)) (members_at t p) (named_at t p) d 0 0 0 p
    → ((k : ℕ) → chain_fits k t (table_rows t) i ≡ leb d k) → y < 2 ^ 64
    → ((k : ℕ) → chain_fits k t (table_rows t) i ≡ true → (g : ℕ) → g < 64 → bit_of y g ≡ begins (type_from k t (table_rows t) i) g)
    → Says t w i (Some (x, y))
type-says t w i p d x y placed ok typed packed chain small tags = made-says t w i x y ok (record {
  shape = record { of-type = λ _. type_word; of-member = λ h. absurd (typed h) };
  chain = λ _ k. chain k ∙ ap (λ (z : ℕ). leb z k) (sym packed.typed);
  small = λ _. small;
  tags = λ _. tags;
  stored = λ h. absurd (typed h);
})
  where
    type_word : TypeWord t (place_at t i) x
    type_word = rw (← placed, packed.typed) packed

no-chain : {A : Type 0} (t s : List ℕ) (i : ℕ) → chain_fits 0 t s i ≡ true → A
unfolding chain_fits
no-chain t s i e = absurd (false≢true e)

one_tag : (t s : List ℕ) (i : ℕ) → (kind_at t (row_at s i) ≡ 13 → ⊥) → (k : ℕ) → chain_fits k t s i ≡ true → (g : ℕ) → g < 64 → bit_of (2 ^ universal (kind_at t (row_at s i))) g ≡ begins (type_from k t s i) g
one_tag t s i n zero e g l = no-chain t s i e
one_tag t s i n (suc k) e g l = bits-one t s i k n g

tags-none : (t s : List ℕ) (i : ℕ) → (kind_at t (row_at s i) ≡ 12 → ⊥) → (kind_at t (row_at s i) ≡ 13 → ⊥) → tags_differ 16 t s i ≡ true
unfolding tags_differ
tags-none t s i a b = apart_of_other t s i 15 a b

one-row : (f : ℕ → ℕ) → leb (tallest f 0 + 1) 16 ≡ true
unfolding tallest
one-row f = refl

-- ---- one row
module _ (t w : List ℕ) (n i p : ℕ) (next : Next t w n i p) where
  the-kind : (k : ℕ) → kind_at t p ≡ k → kind_at t (place_at t i) ≡ k
  the-kind k e = rw (← next.placed) e

  first_ok : first_pass table_limits t (table_rows t) ≡ true
  first_ok = next.going.first

  pub next_size : length w ≡ 256
  next_size = next.going.size

  pub next_place_lem : p < 65536
  next_place_lem = rw next.placed (place-small t first_ok i next.here)

  pub next_count : members_at t p < 256
  next_count = rw next.placed (let a = group_ends t first_ok i next.here in omega arith)

  pub next_group : (m : ℕ) → m ≡ members_at t p → i + 1 + m ≤ 128
  next_group m e = rw (e ∙ ap (members_at t) next.placed) (group_ends t first_ok i next.here)

  -- a later row
  pub later-before : (j : ℕ) → j ≤ i → false ≡ later_type t (table_rows t) i j
  unfolding later_type
  later-before j h = rw (le-ltb i j h)

  pub later-past : (j : ℕ) → n ≤ j → false ≡ later_type t (table_rows t) i j
  unfolding later_type is_type
  later-past j h = let q = next.count in rw (le-ltb j (length (table_rows t)) (omega arith)) (go (ltb i j))
    where
      go : (x : Bool) → false ≡ both x false
      go true = refl
      go false = refl

  pub later-is : (j x k : ℕ) (r : Bool) → i < j → j < n → x ≡ first_at w j → k ≡ kind_of x → r ≡ is_type_kind k → r ≡ later_type t (table_rows t) i j
  unfolding later_type is_type
  later-is j x k r h l e q told =
      let c = next.count in
      let b : j < length (table_rows t) = omega arith in
      let v : kind_at t (place_at t j) ≡ k = later-kind t w i next.going j h b ∙ sym (q ∙ ap (λ (z : ℕ). kind_of z) e) in
      rw (lt-ltb i j h, lt-ltb j (length (table_rows t)) b, v) told

  -- ---- a member
  the_member : is_member (kind_at t p) ≡ true → MemberRow t i
  the_member e = rw (← next.placed) e

  pub next_whole : is_member (kind_at t p) ≡ true → WholeMember t p
  next_whole member =
      let whole : WholeFollower t p = rw next.placed (member-whole table_limits.rows t i next.here (the_member member)) in
      record {
        member = member;
        named = follower-name t p whole;
        inside = follower-member t p whole member;
        short = rw next.placed (member-formed t first_ok i next.here (the_member member)).length;
      }

  module _ (member : is_member (kind_at t p) ≡ true) (j : ℕ) (points : j ≡ named_at t p) (r : Bool) (told : r ≡ later_type t (table_rows t) i j) where
    is_member_lem : MemberRow t i
    is_member_lem = the_member member

    points_as : points_later t (table_rows t) i ≡ r
    points_as = points_row 16 t (table_rows t) i (member-names t (place_at t i) is_member_lem) ∙ ap (later_type t (table_rows t) i) (sym (points ∙ ap (named_at t) next.placed)) ∙ sym told

    pub member_unnamed : not r ≡ true → Says t w i None
    member_unnamed e = refused_says t w i (unfit 16 t (table_rows t) i (points_later t (table_rows t) i) (fits_points 16 t (table_rows t) i) (points_as ∙ not-true r e))

    module _ (later : not r ≡ false) where
      named : Named t i j
      named = is-named t i j (sym told ∙ not-false r later)

      pub member-number : number_at t p ≤ 30
      member-number = rw next.placed (member-formed t first_ok i next.here is_member_lem).number

      pub member-target : named_at t p < table_limits.rows
      member-target = let a = named.1 in let b = few-rows t first_ok in rw (← points) (omega arith)

      pub member-size : length (default_at t p) ≤ 8
      member-size = rw next.placed (let a = (member-formed t first_ok i next.here is_member_lem).length in simp length-take (omega arith))

      pub member-presence : presence_at t p ≤ 2
      member-presence = rw next.placed (member-formed t first_ok i next.here is_member_lem).presence

      module _ (x k : ℕ) (read : x ≡ first_at w j) (kind : k ≡ kind_of x) (u : Bool) (allowed : u ≡ member_allowed t p k) where
        the_type : k ≡ type_kind t (table_rows t) i
        the_type =
            kind ∙ ap (λ (z : ℕ). kind_of z) read ∙ sym (later-kind t w i next.going j named.0 named.1)
            ∙ ap (λ (z : ℕ). kind_at t (place_at t z)) (points ∙ ap (named_at t) next.placed)

        allowed-is : both (no_implicit_choice t (table_rows t) i) (default_legal t (table_rows t) i) ≡ u
        allowed-is = allowed_as 16 t (table_rows t) i is_member_lem ∙ sym (allowed ∙ ap₂ (member_allowed t) next.placed the_type)

        pub member_unallowed : not u ≡ true → Says t w i None
        member_unallowed e = refused_says t w i (unfit 16 t (table_rows t) i (both (no_implicit_choice t (table_rows t) i) (default_legal t (table_rows t) i))
            (λ q. ap₂ both (fits-implicit 16 t (table_rows t) i q) (fits-default 16 t (table_rows t) i q)) (allowed-is ∙ not-true u e))

        fits-member : not u ≡ false → row_fits 16 t (table_rows t) i ≡ true
        fits-member e =
            let b = both_true (no_implicit_choice t (table_rows t) i) (default_legal t (table_rows t) i) (allowed-is ∙ not-false u e) in
            let no-sequence : kind_at t (place_at t i) ≡ 12 → ⊥ = λ h. sequence_no_member (kind_at t (place_at t i)) h is_member_lem in
            let no-choice : kind_at t (place_at t i) ≡ 13 → ⊥ = λ h. choice_no_member (kind_at t (place_at t i)) h is_member_lem in
            fit 16 t (table_rows t) i (points_as ∙ not-false r later) (alternatives-none 16 t (table_rows t) i no-choice) b.0 b.1
            (group_chain t w i next.going next.here (member_no_list (kind_at t (place_at t i)) is_member_lem) 16 ∙ short no-sequence no-choice)
            (tags-none t (table_rows t) i no-sequence no-choice)
          where
            short : (kind_at t (place_at t i) ≡ 12 → ⊥) → (kind_at t (place_at t i) ≡ 13 → ⊥) → leb (tallest (chain_after w (i + 1)) (members_at t (place_at t i)) + 1) 16 ≡ true
            short a b = ap (λ (z : ℕ). leb (tallest (chain_after w (i + 1)) z + 1) 16) (no-members t (place_at t i) a b) ∙ one-row (chain_after w (i + 1))

        pub member-made : (a y b : ℕ) → not u ≡ false → MemberWord t p k a → y ≡ second_at w j → b ≡ member_second t p y → Says t w i (Some (a, b))
        member-made a y b e v q f = made-says t w i a b (fits-member e) (record {
          shape = record { of-type = λ h. absurd (h is_member_lem); of-member = λ _. rw (← the_type, ← next.placed) v };
          chain = λ h. absurd (h is_member_lem);
          small = λ h. absurd (h is_member_lem);
          tags = λ h. absurd (h is_member_lem);
          stored = λ _. f ∙ ap₂ (member_second t) next.placed (q ∙ ap (second_at w) (points ∙ ap (named_at t) next.placed));
        })

  own-small : (b : ℕ) → b ≡ 2 ^ universal (kind_at t p) → b < 2 ^ 64
  own-small b q = rw q (one-small (kind_at t p))

  own_bits : (b : ℕ) → b ≡ 2 ^ universal (kind_at t p) → (kind_at t (place_at t i) ≡ 13 → ⊥) → (k : ℕ) → chain_fits k t (table_rows t) i ≡ true → (g : ℕ) → g < 64 → bit_of b g ≡ begins (type_from k t (table_rows t) i) g
  own_bits b q n k e g l = ap (λ (x : ℕ). bit_of x g) (q ∙ ap (λ (x : ℕ). 2 ^ universal (kind_at t x)) next.placed) ∙ one_tag t (table_rows t) i n k e g l

  -- ---- a list
  module _ (list : is_list (kind_at t p) ≡ true) (j : ℕ) (points : j ≡ named_at t p) (r : Bool) (told : r ≡ later_type t (table_rows t) i j) where
    is-list : is_list (kind_at t (place_at t i)) ≡ true
    is-list = rw (← next.placed) list

    element_as : points_later t (table_rows t) i ≡ r
    element_as = points_row 16 t (table_rows t) i (list-names t (place_at t i) is-list) ∙ ap (later_type t (table_rows t) i) (sym (points ∙ ap (named_at t) next.placed)) ∙ sym told

    pub list_unnamed : not r ≡ true → Says t w i None
    list_unnamed e = refused_says t w i (unfit 16 t (table_rows t) i (points_later t (table_rows t) i) (fits_points 16 t (table_rows t) i) (element_as ∙ not-true r e))

    module _ (later : not r ≡ false) where
      element-named : Named t i j
      element-named = is-named t i j (sym told ∙ not-false r later)

      pub list-element : j < 256
      list-element = let a = element-named.1 in let b = few-rows t first_ok in omega arith

      module _ (x d : ℕ) (read : x ≡ first_at w j) (below : d ≡ chain_of x) where
        list-chain : (k : ℕ) → chain_fits k t (table_rows t) i ≡ leb (d + 1) k
        list-chain k =
            let e : j ≡ named_at t (place_at t i) = points ∙ ap (named_at t) next.placed in
            let h : Named t i (named_at t (place_at t i)) = rw e at element-named in
            element-chain t w i next.going k is-list h ∙ ap (λ (z : ℕ). leb (z + 1) k) (sym (below ∙ ap (λ (z : ℕ). chain_of z) (read ∙ ap (first_at w) e)))

        pub list-long : 16 ≤ d → Says t w i None
        list-long h = refused_says t w i (unfit 16 t (table_rows t) i (chain_fits 16 t (table_rows t) i) (fits-chain 16 t (table_rows t) i) (list-chain 16 ∙ lt-leb (d + 1) 16 (omega arith)))

        pub list-made : (a b : ℕ) → d < 16 → Packed a (kind_at t p) (first_octet untagged (kind_at t p)) (members_at t p) (named_at t p) (d + 1) 0 0 0 p → b ≡ 2 ^ universal (kind_at t p)
            → Says t w i (Some (a, b))
        list-made a b h v q =
            let no-choice = list_no_choice (kind_at t (place_at t i)) is-list in
            let no_member = list_no_member (kind_at t (place_at t i)) is-list in
            type-says t w i p (d + 1) a b next.placed
            (fit 16 t (table_rows t) i (element_as ∙ not-false r later) (alternatives-none 16 t (table_rows t) i no-choice) (implicit-none 16 t (table_rows t) i no_member) (default_none 16 t (table_rows t) i no_member)
            (list-chain 16 ∙ le-leb (d + 1) 16 (omega arith)) (tags-none t (table_rows t) i (list_no_sequence (kind_at t (place_at t i)) is-list) no-choice))
            no_member v list-chain (own-small b q) (own_bits b q no-choice)

  -- ---- a row without members or element
  pub basic_made : (a b : ℕ) → Basic (kind_at t p) → Packed a (kind_at t p) (first_octet untagged (kind_at t p)) (members_at t p) (named_at t p) 1 0 0 0 p → b ≡ 2 ^ universal (kind_at t p)
      → Says t w i (Some (a, b))
  basic_made a b basic v q =
      type-says t w i p 1 a b next.placed
      (fit 16 t (table_rows t) i (points_none 16 t (table_rows t) i (names-none t (place_at t i) no-list no_member)) (alternatives-none 16 t (table_rows t) i no-choice) (implicit-none 16 t (table_rows t) i no_member) (default_none 16 t (table_rows t) i no_member)
      (chain 16 ∙ refl) (tags-none t (table_rows t) i no-sequence no-choice))
      no_member v chain (own-small b q) (own_bits b q no-choice)
    where
      no-list : is_list (kind_at t (place_at t i)) ≡ false
      no-list = rw (← next.placed) basic.list

      no_member : is_member (kind_at t (place_at t i)) ≡ true → ⊥
      no_member h = basic.member (ap (λ (x : ℕ). is_member (kind_at t x)) next.placed ∙ h)

      no-choice : kind_at t (place_at t i) ≡ 13 → ⊥
      no-choice h = basic.choice (ap (kind_at t) next.placed ∙ h)

      no-sequence : kind_at t (place_at t i) ≡ 12 → ⊥
      no-sequence h = basic.sequence (ap (kind_at t) next.placed ∙ h)

      chain : (k : ℕ) → chain_fits k t (table_rows t) i ≡ leb 1 k
      chain k = group_chain t w i next.going next.here no-list k ∙ ap (λ (z : ℕ). leb (tallest (chain_after w (i + 1)) z + 1) k) (no-members t (place_at t i) no-sequence no-choice) ∙ ap (λ (z : ℕ). leb (z + 1) k) (sym (tallest-none (chain_after w (i + 1))))

  -- ---- a row with members
  module _ (m d : ℕ) (count : m ≡ members_at t p) (below : d ≡ tallest (chain_after w (i + 1)) m) where
    the-count : m ≡ members_at t (place_at t i)
    the-count = count ∙ ap (members_at t) next.placed

    the-chain : is_list (kind_at t (place_at t i)) ≡ false → (k : ℕ) → chain_fits k t (table_rows t) i ≡ leb (d + 1) k
    the-chain e k = group_chain t w i next.going next.here e k ∙ ap (λ (z : ℕ). leb (z + 1) k) (sym (below ∙ ap (tallest (chain_after w (i + 1))) the-count))

    long : is_list (kind_at t (place_at t i)) ≡ false → 16 ≤ d → Says t w i None
    long e h = refused_says t w i (unfit 16 t (table_rows t) i (chain_fits 16 t (table_rows t) i) (fits-chain 16 t (table_rows t) i) (the-chain e 16 ∙ lt-leb (d + 1) 16 (omega arith)))

    right : (k : ℕ) → chain_fits (suc k) t (table_rows t) i ≡ true → (j : ℕ) → i + 1 ≤ j → j < i + 1 + members_at t (place_at t i) → (g : ℕ) → g < 64
        → bit_of (set_at w j) g ≡ member_begins (member_of t j (place_at t j)) (type_from k t (table_rows t) (named_at t (place_at t j))) g
    right = group_bits t w i next.going next.here

    small : (j : ℕ) → i + 1 ≤ j → j < i + 1 + members_at t (place_at t i) → set_at w j < 2 ^ 64
    small = group_small t w i next.going next.here

    -- a SEQUENCE
    module _ (sequence : kind_at t p ≡ 12) where
      no-list : is_list (kind_at t (place_at t i)) ≡ false
      no-list = sequence_no_list (kind_at t (place_at t i)) (the-kind 12 sequence)

      pub sequence-long : 16 ≤ d → Says t w i None
      sequence-long h = long no-list h

      module _ (short : d < 16) (r : Bool) (told : r ≡ apart_from (set_at w) (mandatory_in w) m (i + 1) 0) where
        short-chain : chain_fits 16 t (table_rows t) i ≡ true
        short-chain = the-chain no-list 16 ∙ le-leb (d + 1) 16 (omega arith)

        tags_as : tags_differ 16 t (table_rows t) i ≡ r
        unfolding tags_differ
        tags_as =
            apart_of_sequence t (table_rows t) i 15 (the-kind 12 sequence)
            ∙ sym (apart-sequence t (table_rows t) (i + 1) (i + 1 + members_at t (place_at t i)) (set_at w) (type_from 15 t (table_rows t)) small (right 15 short-chain) (mandatory_in w)
            (group_mandatory t w i next.going next.here) (members_at t (place_at t i)) (omega arith))
            ∙ sym (told ∙ ap (λ (z : ℕ). apart_from (set_at w) (mandatory_in w) z (i + 1) 0) the-count)

        pub sequence_common : not r ≡ true → Says t w i None
        sequence_common e = refused_says t w i (unfit 16 t (table_rows t) i (tags_differ 16 t (table_rows t) i) (fits-tags 16 t (table_rows t) i) (tags_as ∙ not-true r e))

        pub sequence-made : (a b : ℕ) → not r ≡ false → Packed a (kind_at t p) (first_octet untagged (kind_at t p)) (members_at t p) (named_at t p) (d + 1) 0 0 0 p → b ≡ 2 ^ universal (kind_at t p)
            → Says t w i (Some (a, b))
        sequence-made a b e v q =
            let no-choice = other-kind (kind_at t (place_at t i)) 12 13 (the-kind 12 sequence) (λ z. omega arith) in
            let no_member = sequence_no_member (kind_at t (place_at t i)) (the-kind 12 sequence) in
            type-says t w i p (d + 1) a b next.placed
            (fit 16 t (table_rows t) i (points_none 16 t (table_rows t) i (names-none t (place_at t i) no-list no_member)) (alternatives-none 16 t (table_rows t) i no-choice) (implicit-none 16 t (table_rows t) i no_member) (default_none 16 t (table_rows t) i no_member)
            short-chain (tags_as ∙ not-false r e))
            no_member v (the-chain no-list) (own-small b q) (own_bits b q no-choice)

    -- a CHOICE
    module _ (choice : kind_at t p ≡ 13) where
      is-choice : kind_at t (place_at t i) ≡ 13
      is-choice = the-kind 13 choice

      choice-list : is_list (kind_at t (place_at t i)) ≡ false
      choice-list = choice_no_list (kind_at t (place_at t i)) is-choice

      pub choice-long : 16 ≤ d → Says t w i None
      choice-long h = long choice-list h

      module _ (short : d < 16) (u : Bool) (mandatory : u ≡ all (mandatory_after w (i + 1)) m) where
        mandatory_as : alternatives_mandatory t (table_rows t) i ≡ u
        mandatory_as =
            alternatives-all 16 t (table_rows t) i is-choice ∙ sym (alternatives_as t w i next.going next.here)
            ∙ sym (mandatory ∙ ap (all (mandatory_after w (i + 1))) the-count)

        pub choice-optional : not u ≡ true → Says t w i None
        choice-optional e = refused_says t w i (unfit 16 t (table_rows t) i (alternatives_mandatory t (table_rows t) i) (fits-alternatives 16 t (table_rows t) i) (mandatory_as ∙ not-true u e))

        module _ (g : Option ℕ) (told : g ≡ pick (apart_from (set_at w) never m (i + 1) 0) (Some (union_from (set_at w) m (i + 1) 0)) None) where
          choice-chain : chain_fits 16 t (table_rows t) i ≡ true
          choice-chain = the-chain choice-list 16 ∙ le-leb (d + 1) 16 (omega arith)

          choice_as : tags_differ 16 t (table_rows t) i ≡ apart_from (set_at w) never m (i + 1) 0
          unfolding tags_differ
          choice_as =
              apart_of_choice t (table_rows t) i 15 is-choice
              ∙ sym (apart-choice t (table_rows t) (i + 1) (i + 1 + members_at t (place_at t i)) (set_at w) (type_from 15 t (table_rows t)) small (right 15 choice-chain) (members_at t (place_at t i)) (omega arith))
              ∙ ap (λ (z : ℕ). apart_from (set_at w) never z (i + 1) 0) (sym the-count)

          pub choice_common : g ≡ None → Says t w i None
          choice_common e = refused_says t w i (unfit 16 t (table_rows t) i (tags_differ 16 t (table_rows t) i) (fits-tags 16 t (table_rows t) i) (choice_as ∙ go (apart_from (set_at w) never m (i + 1) 0) (sym told ∙ e)))
            where
              go : (b : Bool) → pick b (Some (union_from (set_at w) m (i + 1) 0)) None ≡ None → b ≡ false
              go true q = absurd (let z : ◌≡◌ {A = ℕ} 0 1 = cc in omega arith)
              go false q = refl

          pub choice-made : (a b : ℕ) → not u ≡ false → g ≡ Some b → Packed a (kind_at t p) (first_octet untagged (kind_at t p)) (members_at t p) (named_at t p) (d + 1) 0 0 0 p
              → Says t w i (Some (a, b))
          choice-made a b e f v =
              let found = go (apart_from (set_at w) never m (i + 1) 0) (sym told ∙ f) in
              let no_member = choice_no_member (kind_at t (place_at t i)) is-choice in
              type-says t w i p (d + 1) a b next.placed
              (fit 16 t (table_rows t) i (points_none 16 t (table_rows t) i (names-none t (place_at t i) choice-list no_member)) (mandatory_as ∙ not-false u e) (implicit-none 16 t (table_rows t) i no_member) (default_none 16 t (table_rows t) i no_member)
              choice-chain (choice_as ∙ found.0))
              no_member v (the-chain choice-list) (rw (the-set found.1) union-fits) (λ k c h l. ap (λ (x : ℕ). bit_of x h) (the-set found.1) ∙ bits k c h l)
            where
              go : (x : Bool) → pick x (Some (union_from (set_at w) m (i + 1) 0)) None ≡ Some b → (x ≡ true) × (b ≡ union_from (set_at w) m (i + 1) 0)
              go true q = (refl, cc)
              go false q = absurd (let z : ◌≡◌ {A = ℕ} 0 1 = cc in omega arith)

              the-set : b ≡ union_from (set_at w) m (i + 1) 0 → b ≡ union_from (set_at w) (members_at t (place_at t i)) (i + 1) 0
              the-set q = q ∙ ap (λ (z : ℕ). union_from (set_at w) z (i + 1) 0) the-count

              union-fits : union_from (set_at w) (members_at t (place_at t i)) (i + 1) 0 < 2 ^ 64
              union-fits = union-small t (table_rows t) (i + 1) (i + 1 + members_at t (place_at t i)) (set_at w) (type_from 15 t (table_rows t)) small (right 15 choice-chain) (members_at t (place_at t i)) (i + 1) 0 (omega arith) (omega arith) (omega arith)

              bits : (k : ℕ) → chain_fits k t (table_rows t) i ≡ true → (h : ℕ) → h < 64 → bit_of (union_from (set_at w) (members_at t (place_at t i)) (i + 1) 0) h ≡ begins (type_from k t (table_rows t) i) h
              bits zero c h l = no-chain t (table_rows t) i c
              bits (suc k) c h l =
                  union-bits t (table_rows t) (i + 1) (i + 1 + members_at t (place_at t i)) (set_at w) (type_from k t (table_rows t)) small (right k c) h l (members_at t (place_at t i)) (i + 1) 0 (omega arith) (omega arith)
                  ∙ ap (λ (x : Bool). either x (some_begins (members_from (type_from k t (table_rows t)) t (table_rows t) (i + 1) (members_at t (place_at t i))) h)) (bit_none h)
                  ∙ sym (bits-choice t (table_rows t) i k is-choice h)

-- ---- no row is named
module _ (t : List ℕ) (p : ℕ) where
  pub sequence_unnamed : kind_at t p ≡ 12 → 0 ≡ named_at t p
  sequence_unnamed e = sym (named_none t p (sequence_no_list (kind_at t p) e) (sequence_no_member (kind_at t p) e))

  pub choice_unnamed : kind_at t p ≡ 13 → 0 ≡ named_at t p
  choice_unnamed e = sym (named_none t p (choice_no_list (kind_at t p) e) (choice_no_member (kind_at t p) e))

  pub basic_unnamed : Basic (kind_at t p) → 0 ≡ named_at t p
  basic_unnamed b = sym (named_none t p b.list b.member)

-- ---- the kind of a row
module _ (t : List ℕ) (p k : ℕ) (read : k ≡ kind_at t p) where
  pub of-kind : (c : ℕ) → k ≡ c → kind_at t p ≡ c
  of-kind c e = sym read ∙ e

  pub of-member : (b : Bool) → b ≡ is_member k → b ≡ true → is_member (kind_at t p) ≡ true
  of-member b told e = rw (← read) (sym told ∙ e)

  module _ (b : Bool) (told : b ≡ is_list k) where
    pub of-list : b ≡ true → is_list (kind_at t p) ≡ true
    of-list e = rw (← read) (sym told ∙ e)

    pub of_basic : (m : Bool) → m ≡ is_member k → m ≡ false → (k ≡ 12 → ⊥) → (k ≡ 13 → ⊥) → b ≡ false → Basic (kind_at t p)
    of_basic m other n s c e = record { member = λ h. false≢true (sym n ∙ other ∙ ap is_member read ∙ h); sequence = λ h. s (read ∙ h); choice = λ h. c (read ∙ h); list = rw (← read) (sym told ∙ e) }

pub own_is : (t : List ℕ) (p k u r : ℕ) → k ≡ kind_at t p → u ≡ universal k → r ≡ 2 ^ u → r ≡ 2 ^ universal (kind_at t p)
own_is t p k u r e f q = q ∙ ap (λ (x : ℕ). 2 ^ x) (f ∙ ap universal e)
