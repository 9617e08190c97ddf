-- The second pass: what the first pass and the words of later rows say, and the clauses of a row by its kind.
use mathlib.Core.Path.{◌≡◌, refl, sym, ap, ap₂, ◌∙◌}
use mathlib.Core.Bool.{Bool, true, false, true≢false, false≢true}
use mathlib.Core.List.{List}
use Prim.Native.Nat.{ℕ, zero, suc, ◌≤◌, ◌<◌, ◌+◌, ◌-◌, ◌%◌, ◌^◌}
use native.Mathlib.Omega.{arith}
use borrow.Author.Tests.{eq-eqb, ne_eqb, lt-ltb, le-ltb, leb-true}
use lib.ListN.{length}
use lib.Dec.{ltb, leb, eqb}
use Rattle.octets.specs.Pick.{pick, both, either, no, all}
use Rattle.octets.proofs.Laws.{both_true, all-at, all_cong}
use Rattle.der.specs.Tag.{universal, own_octet, implicit_octet, wrapper_octet}
use Rattle.der.specs.Kind.{is_constructed}
use Rattle.rows.specs.Paper.{table_limits}
use Rattle.rows.specs.Row.{row_at, kind_at, is_member, names_row, named_at, members_at, is_group, is_list, mode_at, number_at, presence_at, default_length_at, default_at}
use Rattle.rows.proofs.Laws.{MemberFacts, member_facts}
use Rattle.rows.proofs.KindLaws.{member-names}
use Rattle.clauses.specs.Clauses.{every_row, whole_rows, body_formed, first_is_type, later_type, points_later, followers_stand, names_differ, numbers_differ}
use Rattle.clauses.specs.Clauses.{mandatory_at, alternatives_mandatory, type_kind, no_implicit_choice, default_allowed, default_legal, chain_fits}
use Rattle.clauses.specs.Inner.Work.{first_pass, tallest}
use Rattle.clauses.proofs.LaterSteps.{member-follows, type_row, later-row}
use Rattle.clauses.proofs.ChainSteps.{chain-list, chain-members}
use Rattle.types.specs.Types.{untagged, explicit, implicit, tagging_of, member_of, type_from}
use Rattle.types.specs.Begins.{member_begins, is_mandatory}
use Rattle.types.specs.Admitted.{tags_differ}
use Rattle.types.specs.Inner.Work.{bit_of, context_bit, member_set, row_fits}
use Rattle.types.proofs.TagLaws.{presence_as, set_small, set_bits, universal-fits}
use Rattle.types.proofs.TypeLaws.{member-fits}
use Rattle.table.specs.Inner.Rows.{table_rows, place_at, MemberRow, TypeRow}
use Rattle.table.specs.Inner.Fields.{chain_of}
use Rattle.table.specs.Inner.Words.{first_octet, MemberWord}
use Rattle.table.specs.Inner.Pass.{first_at, second_at, set_at, type_chain, mandatory_in, chain_after, mandatory_after, implicit_choice, member_allowed, RowWords, Going}
use Rattle.table.proofs.Steps.{form_small}
use Rattle.table.proofs.KindLaws.{is_false_lem}
use Rattle.table.proofs.Places.{row-place}

-- ---- by the first pass
module _ (t : List ℕ) (ok : first_pass table_limits t (table_rows t) ≡ true) where
  after-whole : both (every_row (body_formed 16 t (table_rows t)) (table_rows t)) (both (first_is_type t (table_rows t))
      (both (followers_stand t (table_rows t)) (both (every_row (names_differ t (table_rows t)) (table_rows t))
      (every_row (numbers_differ t (table_rows t)) (table_rows t))))) ≡ true
  unfolding first_pass
  after-whole = (both_true (whole_rows 128 (table_rows t)) _ ok).1

  pub few-rows : length (table_rows t) ≤ 128
  unfolding first_pass whole_rows
  few-rows = leb-true (length (table_rows t)) 128 (both_true (leb 1 (length (table_rows t))) (leb (length (table_rows t)) 128) (both_true (whole_rows 128 (table_rows t)) _ ok).0).1

  pub some_rows : 1 ≤ length (table_rows t)
  unfolding first_pass whole_rows
  some_rows = leb-true 1 (length (table_rows t)) (both_true (leb 1 (length (table_rows t))) (leb (length (table_rows t)) 128) (both_true (whole_rows 128 (table_rows t)) _ ok).0).0

  pub members-stand : followers_stand t (table_rows t) ≡ true
  members-stand = (both_true (followers_stand t (table_rows t)) _ (both_true (first_is_type t (table_rows t)) _
      (both_true (every_row (body_formed 16 t (table_rows t)) (table_rows t)) _ after-whole).1).1).0

  module _ (i : ℕ) (here : i < length (table_rows t)) where
    pub member-formed : MemberRow t i → MemberFacts t (place_at t i)
    unfolding body_formed
    member-formed k = member_facts 16 t (place_at t i) (all-at (body_formed 16 t (table_rows t)) (length (table_rows t)) i (both_true (every_row (body_formed 16 t (table_rows t)) (table_rows t)) _ after-whole).0 here) k

    pub place-small : place_at t i < 65536
    place-small = let a = row-place 128 t i here in let b = few-rows in omega arith

    pub member-here : (a : ℕ) → a < members_at t (place_at t i) → (i + 1 + a < length (table_rows t)) × MemberRow t (i + 1 + a)
    member-here a l = member-follows t (table_rows t) members-stand i here a l

    pub group_ends : i + 1 + members_at t (place_at t i) ≤ 128
    group_ends = go (members_at t (place_at t i)) refl
      where
        go : (n : ℕ) → n ≡ members_at t (place_at t i) → i + 1 + n ≤ 128
        go zero e = let b = few-rows in omega arith
        go (suc n) e = let b = few-rows in let c = (member-here n (omega arith)).0 in omega arith

    pub in_group : (j : ℕ) → i + 1 ≤ j → j < i + 1 + members_at t (place_at t i) → (j < length (table_rows t)) × MemberRow t j
    in_group j l h =
        let q : i + 1 + (j - (i + 1)) ≡ j = omega arith in
        let c = member-here (j - (i + 1)) (omega arith) in
        (rw q at c.0, rw q at c.1)

-- ---- a row that is named
abbrev pub Named : List ℕ → ℕ → ℕ → Type 0
Named t i j = (i < j) × (j < length (table_rows t)) × TypeRow t j

pub is-named : (t : List ℕ) (i j : ℕ) → later_type t (table_rows t) i j ≡ true → Named t i j
is-named t i j e =
    let a = later-row t (table_rows t) i j e in
    let b = type_row t (table_rows t) j a.1 in
    (a.0, b.0, b.1)

-- ---- the clauses of a row
module _ (c : ℕ) (t s : List ℕ) (i : ℕ) where
  module _ (e : row_fits c t s i ≡ true) where
    rest_1 : both (alternatives_mandatory t s i) (both (no_implicit_choice t s i) (both (default_legal t s i) (both (chain_fits c t s i) (tags_differ c t s i)))) ≡ true
    unfolding row_fits
    rest_1 = (both_true (points_later t s i) _ e).1

    rest_3 : both (default_legal t s i) (both (chain_fits c t s i) (tags_differ c t s i)) ≡ true
    rest_3 = (both_true (no_implicit_choice t s i) _ (both_true (alternatives_mandatory t s i) _ rest_1).1).1

    pub fits_points : points_later t s i ≡ true
    unfolding row_fits
    fits_points = (both_true (points_later t s i) _ e).0

    pub fits-alternatives : alternatives_mandatory t s i ≡ true
    fits-alternatives = (both_true (alternatives_mandatory t s i) _ rest_1).0

    pub fits-implicit : no_implicit_choice t s i ≡ true
    fits-implicit = (both_true (no_implicit_choice t s i) _ (both_true (alternatives_mandatory t s i) _ rest_1).1).0

    pub fits-default : default_legal t s i ≡ true
    fits-default = (both_true (default_legal t s i) _ rest_3).0

    pub fits-chain : chain_fits c t s i ≡ true
    fits-chain = (both_true (chain_fits c t s i) _ (both_true (default_legal t s i) _ rest_3).1).0

    pub fits-tags : tags_differ c t s i ≡ true
    fits-tags = (both_true (chain_fits c t s i) _ (both_true (default_legal t s i) _ rest_3).1).1

  -- one clause that fails
  pub unfit : (x : Bool) → (row_fits c t s i ≡ true → x ≡ true) → x ≡ false → row_fits c t s i ≡ false
  unfit x f e = go (row_fits c t s i) refl
    where
      go : (y : Bool) → row_fits c t s i ≡ y → y ≡ false
      go true q = absurd (false≢true (sym e ∙ f q))
      go false q = refl

  pub fit : points_later t s i ≡ true → alternatives_mandatory t s i ≡ true → no_implicit_choice t s i ≡ true → default_legal t s i ≡ true → chain_fits c t s i ≡ true → tags_differ c t s i ≡ true
      → row_fits c t s i ≡ true
  unfolding row_fits
  fit p a n d h g = ap₂ both p (ap₂ both a (ap₂ both n (ap₂ both d (ap₂ both h g))))

  -- by the row's kind
  pub points_row : names_row t (row_at s i) ≡ true → points_later t s i ≡ later_type t s i (named_at t (row_at s i))
  unfolding points_later
  points_row h = rw h

  pub points_none : names_row t (row_at s i) ≡ false → points_later t s i ≡ true
  unfolding points_later
  points_none h = rw h

  pub alternatives-none : (kind_at t (row_at s i) ≡ 13 → ⊥) → alternatives_mandatory t s i ≡ true
  unfolding alternatives_mandatory
  alternatives-none n = rw (ne_eqb (kind_at t (row_at s i)) 13 n)

  pub alternatives-all : kind_at t (row_at s i) ≡ 13 → alternatives_mandatory t s i ≡ all (mandatory_at t s i) (members_at t (row_at s i))
  unfolding alternatives_mandatory
  alternatives-all h = rw (eq-eqb (kind_at t (row_at s i)) 13 h)

  pub implicit-none : (is_member (kind_at t (row_at s i)) ≡ true → ⊥) → no_implicit_choice t s i ≡ true
  unfolding no_implicit_choice
  implicit-none n = rw (is_false_lem (is_member (kind_at t (row_at s i))) n)

  pub default_none : (is_member (kind_at t (row_at s i)) ≡ true → ⊥) → default_legal t s i ≡ true
  unfolding default_legal
  default_none n = rw (is_false_lem (is_member (kind_at t (row_at s i))) n)

  pub allowed_as : is_member (kind_at t (row_at s i)) ≡ true → both (no_implicit_choice t s i) (default_legal t s i) ≡ member_allowed t (row_at s i) (type_kind t s i)
  unfolding no_implicit_choice default_legal member_allowed implicit_choice
  allowed_as h =
      rw h
      (ap (λ (x : Bool). both x (pick (eqb (presence_at t (row_at s i)) 2) (default_allowed (type_kind t s i) (default_at t (row_at s i))) (eqb (default_length_at t (row_at s i)) 0))) (turned (eqb (mode_at t (row_at s i)) 2) (eqb (type_kind t s i) 13)))
    where
      turned : (x y : Bool) → either (no x) (no y) ≡ no (both x y)
      turned true true = refl
      turned true false = refl
      turned false y = refl

list-kind : (k : ℕ) → is_list k ≡ true → (k ≡ 12 → ⊥) × (k ≡ 13 → ⊥)
unfolding is_list
list-kind k e = ((λ h. false≢true (rw h at e)), (λ h. false≢true (rw h at e)))

pub list_no_sequence : (k : ℕ) → is_list k ≡ true → k ≡ 12 → ⊥
list_no_sequence k e = (list-kind k e).0

pub list_no_choice : (k : ℕ) → is_list k ≡ true → k ≡ 13 → ⊥
list_no_choice k e = (list-kind k e).1

pub sequence_no_list : (k : ℕ) → k ≡ 12 → is_list k ≡ false
unfolding is_list
sequence_no_list k h = rw h

pub choice_no_list : (k : ℕ) → k ≡ 13 → is_list k ≡ false
unfolding is_list
choice_no_list k h = rw h

pub no-members : (t : List ℕ) (p : ℕ) → (kind_at t p ≡ 12 → ⊥) → (kind_at t p ≡ 13 → ⊥) → members_at t p ≡ 0
unfolding members_at is_group
no-members t p a b = rw (ne_eqb (kind_at t p) 12 a, ne_eqb (kind_at t p) 13 b)

pub other-kind : (k a b : ℕ) → k ≡ a → (a ≡ b → ⊥) → k ≡ b → ⊥
other-kind k a b e n h = n (sym e ∙ h)

-- ---- the class of a first tag octet
low-number : (x : Bool) (n : ℕ) → n ≤ 30 → (128 + pick x 32 0 + n) % 32 ≡ n
low-number true n h = omega arith
low-number false n h = omega arith

own-low : (k : ℕ) → first_octet untagged k < 128
unfolding first_octet own_octet
own-low k = go (eqb k 13)
  where
    go : (x : Bool) → pick x 0 (pick (is_constructed k) 32 0 + universal k) < 128
    go true = omega arith
    go false = omega (arith, form_small (is_constructed k), universal-fits k (universal k) refl)

explicit-octet : (n k : ℕ) → first_octet (explicit n) k ≡ 160 + n
unfolding first_octet wrapper_octet
explicit-octet n k = refl

implicit-octet : (n k : ℕ) → first_octet (implicit n) k ≡ 128 + pick (is_constructed k) 32 0 + n
unfolding first_octet implicit_octet
implicit-octet n k = refl

pub by-class : (mode n k a : ℕ) → n ≤ 30
    → pick (ltb (first_octet (tagging_of mode n) k) 128) a (context_bit (first_octet (tagging_of mode n) k % 32)) ≡ pick (eqb mode 0) a (context_bit n)
unfolding tagging_of
by-class mode n k a few = go (eqb mode 0) (eqb mode 1)
  where
    context : (f : ℕ) → 128 ≤ f → f % 32 ≡ n → pick (ltb f 128) a (context_bit (f % 32)) ≡ context_bit n
    context f h e = rw (le-ltb f 128 h) (ap context_bit e)

    go : (x y : Bool) → pick (ltb (first_octet (pick x untagged (pick y (explicit n) (implicit n))) k) 128) a (context_bit (first_octet (pick x untagged (pick y (explicit n) (implicit n))) k % 32))
        ≡ pick x a (context_bit n)
    go true y = rw (lt-ltb (first_octet untagged k) 128 (own-low k))
    go false true = rw (explicit-octet n k) (context (160 + n) (omega arith) (omega arith))
    go false false = rw (implicit-octet n k) (context (128 + pick (is_constructed k) 32 0 + n) (omega arith) (low-number (is_constructed k) n few))

-- ---- what the words of later rows say
module _ (t w : List ℕ) (i : ℕ) (going : Going t w (i + 1)) where
  module _ (j : ℕ) (after : i < j) (there : j < length (table_rows t)) where
    row_words : RowWords t w j (first_at w j) (second_at w j)
    row_words = going.words j (omega arith) there

    pub later-kind : kind_at t (place_at t j) ≡ first_at w j % 256
    later-kind = go (is_member (kind_at t (place_at t j))) refl
      where
        go : (b : Bool) → is_member (kind_at t (place_at t j)) ≡ b → kind_at t (place_at t j) ≡ first_at w j % 256
        go true q = sym (row_words.shape.of-member q).kind
        go false q = sym (row_words.shape.of-type (λ h. true≢false (sym h ∙ q))).kind

    module _ (member : MemberRow t j) where
      member_word : MemberWord t (place_at t j) (type_kind t (table_rows t) j) (first_at w j)
      member_word = row_words.shape.of-member member

      names : Named t j (named_at t (place_at t j))
      names = is-named t j _ (sym (points_row 16 t (table_rows t) j (member-names t (place_at t j) member)) ∙ fits_points 16 t (table_rows t) j (going.fits j (omega arith) there))

      type-words : RowWords t w (named_at t (place_at t j)) (first_at w (named_at t (place_at t j))) (second_at w (named_at t (place_at t j)))
      type-words = let a = names.0 in going.words (named_at t (place_at t j)) (omega arith) names.1

      set_as : set_at w j ≡ member_set (second_at w) t (place_at t j)
      unfolding set_at member_set
      set_as =
          ap₂ (λ (x y : ℕ). pick (ltb x 128) (second_at w y) (context_bit (x % 32))) member_word.opens member_word.leads
          ∙ by-class (mode_at t (place_at t j)) (number_at t (place_at t j)) (type_kind t (table_rows t) j) (second_at w (named_at t (place_at t j))) (member-formed t going.first j there member).number

      pub member-small : set_at w j < 2 ^ 64
      member-small = rw set_as (set_small (second_at w) t (place_at t j) (type-words.small names.2))

      pub member-bits : (k : ℕ) → chain_fits k t (table_rows t) (named_at t (place_at t j)) ≡ true → (g : ℕ) → g < 64
          → bit_of (set_at w j) g ≡ member_begins (member_of t j (place_at t j)) (type_from k t (table_rows t) (named_at t (place_at t j))) g
      member-bits k fits g l =
          ap (λ (x : ℕ). bit_of x g) set_as
          ∙ set_bits (second_at w) (type_from k t (table_rows t) (named_at t (place_at t j))) t j (place_at t j) g l (type-words.tags names.2 k fits g l)

      pub member-chain : (k : ℕ) → chain_fits k t (table_rows t) (named_at t (place_at t j)) ≡ leb (type_chain w j) k
      unfolding type_chain
      member-chain k = type-words.chain names.2 k ∙ ap (λ (x : ℕ). leb (chain_of (first_at w x)) k) (sym member_word.leads)

      presence-is : mandatory_in w j ≡ eqb (presence_at t (place_at t j)) 0
      unfolding mandatory_in
      presence-is = ap (λ (x : ℕ). eqb x 0) member_word.needed

      pub member-mandatory : mandatory_in w j ≡ is_mandatory (member_of t j (place_at t j)).presence
      member-mandatory = presence-is ∙ sym (presence_as t j (place_at t j))

  -- the members of row i
  module _ (here : i < length (table_rows t)) where
    pub group_small : (j : ℕ) → i + 1 ≤ j → j < i + 1 + members_at t (place_at t i) → set_at w j < 2 ^ 64
    group_small j l h = let c = in_group t going.first i here j l h in member-small j (omega arith) c.0 c.1

    pub group_bits : (k : ℕ) → chain_fits (suc k) t (table_rows t) i ≡ true → (j : ℕ) → i + 1 ≤ j → j < i + 1 + members_at t (place_at t i) → (g : ℕ) → g < 64
        → bit_of (set_at w j) g ≡ member_begins (member_of t j (place_at t j)) (type_from k t (table_rows t) (named_at t (place_at t j))) g
    group_bits k fits j l h g b =
        let c = in_group t going.first i here j l h in
        let q : i + 1 + (j - (i + 1)) ≡ j = omega arith in
        let d : chain_fits k t (table_rows t) (named_at t (place_at t j)) ≡ true = rw q at (member-fits t (table_rows t) i k fits (j - (i + 1)) (omega arith)) in
        member-bits j (omega arith) c.0 c.1 k d g b

    pub group_mandatory : (j : ℕ) → i + 1 ≤ j → j < i + 1 + members_at t (place_at t i) → mandatory_in w j ≡ is_mandatory (member_of t j (place_at t j)).presence
    group_mandatory j l h = let c = in_group t going.first i here j l h in member-mandatory j (omega arith) c.0 c.1

    pub group_chain : is_list (kind_at t (place_at t i)) ≡ false → (k : ℕ) → chain_fits k t (table_rows t) i ≡ leb (tallest (chain_after w (i + 1)) (members_at t (place_at t i)) + 1) k
    unfolding chain_after
    group_chain e k =
        chain-members t (table_rows t) i (chain_after w (i + 1)) e
        (λ a l k. let c = member-here t going.first i here a l in member-chain (i + 1 + a) (omega arith) c.0 c.1 k) k

    pub alternatives_as : all (mandatory_after w (i + 1)) (members_at t (place_at t i)) ≡ all (mandatory_at t (table_rows t) i) (members_at t (place_at t i))
    unfolding mandatory_after mandatory_at
    alternatives_as =
        all_cong (mandatory_after w (i + 1)) (mandatory_at t (table_rows t) i) (members_at t (place_at t i))
        (λ a l. let c = member-here t going.first i here a l in presence-is (i + 1 + a) (omega arith) c.0 c.1)

  pub element-chain : (k : ℕ) → is_list (kind_at t (place_at t i)) ≡ true → Named t i (named_at t (place_at t i)) → chain_fits k t (table_rows t) i ≡ leb (chain_of (first_at w (named_at t (place_at t i))) + 1) k
  element-chain k e n =
      chain-list t (table_rows t) i (chain_of (first_at w (named_at t (place_at t i)))) e
      (λ k. (row_words (named_at t (place_at t i)) n.0 n.1).chain n.2 k) k
