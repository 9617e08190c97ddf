-- The check of one value: one lemma for each return; its premises are the facts as the code has them.
use mathlib.Core.Path.{◌≡◌, refl, sym, ap, ap₂, ◌∙◌}
use mathlib.Core.Bool.{Bool, true, false}
use Rattle.std.specs.Prelude.{Option, None, Some}
use mathlib.Core.List.{List}
use Prim.Native.Nat.{ℕ, ◌<◌, ◌+◌, ◌-◌, ◌*◌}
use native.Mathlib.Omega.{arith}
use borrow.Author.Tests.{eq-eqb, ne_eqb, eqb-true, eqb-false}
use lib.ListN.{length}
use lib.Dec.{eqb}
use Rattle.octets.specs.Pick.{pick, either, bind, is_some}
use Rattle.octets.specs.Octets.{part}
use Rattle.der.specs.Kind as kind
use Rattle.der.specs.Tag.{wrapper_octet}
use Rattle.der.specs.Header.{inside_at, opened}
use Rattle.der.specs.Legal.{legal}
use Rattle.rows.specs.Row.{row_at, kind_at, is_member, named_at, members_at, is_list, mode_at, number_at}
use Rattle.types.specs.Types.{untagged, implicit, tagging_of, Ty, basic, sequence, choice, list_of, Members, members_from, bits_after, type_from}
use Rattle.rows.proofs.KindLaws.{member-names}
use Rattle.types.proofs.TypeCases.{typed-sequence, typed-choice, typed-list, typed_basic}
use Rattle.clauses.specs.Clauses.{type_kind}
use Rattle.types.specs.Inner.Work.{Sound}
use Rattle.table.specs.Inner.Words.{first_octet, is_basic, how, Ready}
use Rattle.table.proofs.KindLaws.{basic_kind}
use Rattle.value.specs.Value.{spot_at, Value, leaf, fields, Fields, Values}
use Rattle.value.specs.Order.{rising}
use Rattle.value.specs.Decode.{Decoded, decoded, after_of, tag_octet, inside, in_wrapper, leaf_of, fields_of, elements_of, many, unwrapped, fields_from, alternative_from, decode}
use Rattle.value.specs.Inner.Work.{checked, up_to, fields_checked, in_order, elements_checked, Answers, Wraps}
use Rattle.value.proofs.ModeSteps.{own_tag, mode_tag, mode_wrapper, is-explicit, not_explicit}

-- ---- what bodies of one header say
pub told_leaf : (k : ℕ) (v : List ℕ) (at start n : ℕ) → checked (leaf_of k v at start n) ≡ up_to (start + n) (legal k (part v start n))
told_leaf k v at start n = go (legal k (part v start n))
  where
    go : (x : Bool) → checked (pick x (decoded (leaf k (spot_at v at start n)) (start + n)) None) ≡ up_to (start + n) x
    go true = refl
    go false = refl

told-fields : (v : List ℕ) (at : ℕ) (f : ℕ → ℕ → Option Fields) (start n : ℕ) → checked (fields_of v at f start n) ≡ up_to (start + n) (is_some (f (start + n) start))
told-fields v at f start n = go (f (start + n) start)
  where
    go : (o : Option Fields) → checked (bind o (λ fs. decoded (fields (spot_at v at start n) fs) (start + n))) ≡ up_to (start + n) (is_some o)
    go None = refl
    go (Some fs) = refl

told_elements : (k : ℕ) (v : List ℕ) (at : ℕ) (f : ℕ → ℕ → ℕ → Option Values) (start n : ℕ) → checked (elements_of k v at f start n) ≡ up_to (start + n) (in_order k v (f n (start + n) start))
told_elements k v at f start n = go (f n (start + n) start)
  where
    by : (x : Bool) (d : Decoded) → d.after ≡ start + n → checked (pick x (Some d) None) ≡ up_to (start + n) x
    by true d e = ap Some e
    by false d e = refl

    go : (o : Option Values) → checked (bind o (λ xs. pick (either (eqb k kind.sequence_of) (rising v xs)) (Some (record { value = Value.elements (spot_at v at start n) xs; after = start + n })) None)) ≡ up_to (start + n) (in_order k v o)
    go None = refl
    go (Some xs) = by (either (eqb k kind.sequence_of) (rising v xs)) _ refl

module _ (chain : ℕ) (t s m : List ℕ) (row : ℕ) (ok : Sound chain t s m) (here : row < length s) (k : ℕ) (read : k ≡ kind_at t (row_at s row)) where
  abbrev element : Ty
  element = type_from chain t s (named_at t (row_at s row))

  abbrev parts : Members
  parts = members_from (type_from chain t s) t s (row + 1) (members_at t (row_at s row))

  -- its type by its kind
  is-choice : k ≡ 13 → type_from chain t s row ≡ choice parts
  is-choice h = ok.step row here ∙ typed-choice t s row element parts (sym read ∙ h)

  is-sequence : k ≡ 12 → type_from chain t s row ≡ sequence parts
  is-sequence h = ok.step row here ∙ typed-sequence t s row element parts (sym read ∙ h)

  is-list : is_list k ≡ true → type_from chain t s row ≡ list_of k element
  is-list h = rw read (ok.step row here ∙ typed-list t s row element parts (ap is_list (sym read) ∙ h))

  is_basic_type : (k ≡ 13 → ⊥) → (k ≡ 12 → ⊥) → is_list k ≡ false → type_from chain t s row ≡ basic k (bits_after t s row)
  is_basic_type a b h = rw read (ok.step row here ∙ typed_basic t s row element parts (λ z. b (read ∙ z)) (λ z. a (read ∙ z)) (ap is_list (sym read) ∙ h))

  pub list-row : (l : Bool) → l ≡ is_list k → l ≡ true → is_list (kind_at t (row_at s row)) ≡ true
  list-row l e h = ap is_list (sym read) ∙ sym e ∙ h

  module _ (v : List ℕ) (at end mode number : ℕ) where
    pub check_by_choice : (r : Option ℕ) → k ≡ 13 → r ≡ checked (alternative_from parts v at end)
        → r ≡ checked (unwrapped (type_from chain t s row) (tagging_of mode number) v at end)
    unfolding unwrapped
    check_by_choice r h e = rw (is-choice h) e

    module _ (no-choice : k ≡ 13 → ⊥) (o : ℕ) (h : Option (ℕ × ℕ)) (tag : o ≡ tag_octet (tagging_of mode number) k) (opening : h ≡ inside_at o v at end) where
      is_open : (i : Option (ℕ × ℕ)) → h ≡ i → inside_at (tag_octet (tagging_of mode number) k) v at end ≡ i
      is_open i e = ap (λ (x : ℕ). inside_at x v at end) (sym tag) ∙ sym opening ∙ e

      check_misfit : h ≡ None → None ≡ checked (unwrapped (type_from chain t s row) (tagging_of mode number) v at end)
      unfolding unwrapped
      check_misfit e = go (eqb k 12) refl (is_list k) refl
        where
          misfit : inside_at (tag_octet (tagging_of mode number) k) v at end ≡ None
          misfit = is_open None e

          go : (x : Bool) → eqb k 12 ≡ x → (y : Bool) → is_list k ≡ y → None ≡ checked (unwrapped (type_from chain t s row) (tagging_of mode number) v at end)
          go true q y u = let j = eqb-true k 12 q in rw (is-sequence j, (ap (λ (x : ℕ). inside_at (tag_octet (tagging_of mode number) x) v at end) (sym j) ∙ misfit))
          go false q true u = rw (is-list u, misfit)
          go false q false u = rw (is_basic_type no-choice (eqb-false k 12 q) u, misfit)

      module _ (start n : ℕ) (found : h ≡ Some (start, n)) where
        check-by-fields : (r : Option ℕ) → k ≡ 12 → r ≡ fields_checked parts v (start + n) start
            → r ≡ checked (unwrapped (type_from chain t s row) (tagging_of mode number) v at end)
        unfolding unwrapped fields_checked
        check-by-fields r j e =
            rw (is-sequence j, (ap (λ (x : ℕ). inside_at (tag_octet (tagging_of mode number) x) v at end) (sym j) ∙ is_open (Some (start, n)) found))
            (e ∙ sym (told-fields v at (λ stop i. fields_from parts v stop i) start n))

        check_by_elements : (r : Option ℕ) (l : Bool) → l ≡ is_list k → l ≡ true → r ≡ elements_checked (kind_at t (row_at s row)) element v (start + n) start
            → r ≡ checked (unwrapped (type_from chain t s row) (tagging_of mode number) v at end)
        unfolding unwrapped elements_checked
        check_by_elements r l el j e =
            let q : start + n - start ≡ n = omega arith in
            rw (is-list (sym el ∙ j), is_open (Some (start, n)) found)
            (e ∙ ap₂ (λ (x y : ℕ). up_to (start + n) (in_order x v (many (λ i stop. unwrapped element untagged v i stop) y (start + n) start))) (sym read) q
            ∙ sym (told_elements k v at (many (λ i stop. unwrapped element untagged v i stop)) start n))

        check_by_basic : (r : Option ℕ) (l : Bool) → (k ≡ 12 → ⊥) → l ≡ is_list k → l ≡ false → r ≡ up_to (start + n) (legal k (part v start (start + n - start)))
            → r ≡ checked (unwrapped (type_from chain t s row) (tagging_of mode number) v at end)
        unfolding unwrapped
        check_by_basic r l no-sequence el j e =
            let q : start + n - start ≡ n = omega arith in
            rw (is_basic_type no-choice no-sequence (sym el ∙ j), is_open (Some (start, n)) found)
            (e ∙ ap (λ (x : ℕ). up_to (start + n) (legal k (part v start x))) q ∙ sym (told_leaf k v at start n))

  -- ---- by a tag octet
  module _ (v : List ℕ) (at end tag : ℕ) where
    pub answer-choice : (r : Option ℕ) → k ≡ 13 → r ≡ checked (alternative_from parts v at end)
        → Answers (type_from chain t s row) (kind_at t (row_at s row)) tag v at end r
    answer-choice r h e = record { says = λ mode n q. check_by_choice v at end mode n r h e }

    module _ (no-choice : k ≡ 13 → ⊥) (h : Option (ℕ × ℕ)) (opening : h ≡ inside_at tag v at end) where
      tags : (mode n : ℕ) → ((kind_at t (row_at s row) ≡ 13 → ⊥) → tag ≡ tag_octet (tagging_of mode n) (kind_at t (row_at s row)))
          → tag ≡ tag_octet (tagging_of mode n) k
      tags mode n q = q (λ z. no-choice (read ∙ z)) ∙ ap (tag_octet (tagging_of mode n)) (sym read)

      pub answer-misfit : h ≡ None → Answers (type_from chain t s row) (kind_at t (row_at s row)) tag v at end None
      answer-misfit e = record { says = λ mode n q. check_misfit v at end mode n no-choice tag h (tags mode n q) opening e }

      module _ (start n : ℕ) (found : h ≡ Some (start, n)) where
        pub answer-fields : (r : Option ℕ) → k ≡ 12 → r ≡ fields_checked parts v (start + n) start
            → Answers (type_from chain t s row) (kind_at t (row_at s row)) tag v at end r
        answer-fields r j e = record { says = λ mode u q. check-by-fields v at end mode u no-choice tag h (tags mode u q) opening start n found r j e }

        pub answer_elements : (r : Option ℕ) (l : Bool) → l ≡ is_list k → l ≡ true → r ≡ elements_checked (kind_at t (row_at s row)) element v (start + n) start
            → Answers (type_from chain t s row) (kind_at t (row_at s row)) tag v at end r
        answer_elements r l a j e =
            record { says = λ mode u q. check_by_elements v at end mode u no-choice tag h (tags mode u q) opening start n found r l a j e }

        pub answer_basic : (r : Option ℕ) (l : Bool) → (k ≡ 12 → ⊥) → l ≡ is_list k → l ≡ false
            → r ≡ up_to (start + n) (legal k (part v start (start + n - start)))
            → Answers (type_from chain t s row) (kind_at t (row_at s row)) tag v at end r
        answer_basic r l b a j e =
            record { says = λ mode u q. check_by_basic v at end mode u no-choice tag h (tags mode u q) opening start n found r l b a j e }

-- ---- a value of a basic type
module _ (chain : ℕ) (t s m : List ℕ) (row : ℕ) (ok : Sound chain t s m) (here : row < length s) (k : ℕ) (read : k ≡ kind_at t (row_at s row))
    (leaf-kind : is_basic (kind_at t (row_at s row)) ≡ true) (v : List ℕ) (at end tag : ℕ) (h : Option (ℕ × ℕ)) (opening : h ≡ inside_at tag v at end) where
  basic_is : (k ≡ 12 → ⊥) × (k ≡ 13 → ⊥) × (is_list k ≡ false)
  basic_is = basic_kind k (ap is_basic read ∙ leaf-kind)

  pub leaf_misfit : h ≡ None → Answers (type_from chain t s row) (kind_at t (row_at s row)) tag v at end None
  leaf_misfit e = answer-misfit chain t s m row ok here k read v at end tag basic_is.1 h opening e

  pub leaf_basic : (start n : ℕ) (r : Option ℕ) → h ≡ Some (start, n) → r ≡ up_to (start + n) (legal k (part v start (start + n - start)))
      → Answers (type_from chain t s row) (kind_at t (row_at s row)) tag v at end r
  leaf_basic start n r found e =
      answer_basic chain t s m row ok here k read v at end tag basic_is.1 h opening start n found r false basic_is.0 (sym basic_is.2) refl e

-- ---- under a member's tag mode
module _ (ty : Ty) (v : List ℕ) (at end mode number : ℕ) where
  pub bare-decode : (mode ≡ 1 → ⊥) → decode ty (tagging_of mode number) v at end ≡ unwrapped ty (tagging_of mode number) v at end
  unfolding decode in_wrapper tagging_of
  bare-decode h = rw (ne_eqb mode 1 h) (go (eqb mode 0))
    where
      go : (x : Bool) → in_wrapper after_of (pick x untagged (implicit number)) (unwrapped ty (pick x untagged (implicit number)) v) v at end ≡ unwrapped ty (pick x untagged (implicit number)) v at end
      go true = refl
      go false = refl

  tagged-plain : (r : Option ℕ) → (mode ≡ 1 → ⊥) → r ≡ checked (unwrapped ty (tagging_of mode number) v at end)
      → r ≡ checked (decode ty (tagging_of mode number) v at end)
  tagged-plain r h e = e ∙ ap checked (sym (bare-decode h))

module _ (ty : Ty) (v : List ℕ) (at end number : ℕ) where
  explicit-decode : decode ty (tagging_of 1 number) v at end ≡ opened (inside_at (wrapper_octet number) v at end)
      (inside after_of (unwrapped ty (tagging_of 1 number) v))
  unfolding decode in_wrapper tagging_of
  explicit-decode = refl

  module _ (o : ℕ) (h : Option (ℕ × ℕ)) (tag : o ≡ wrapper_octet number) (opening : h ≡ inside_at o v at end) where
    wrapper : (i : Option (ℕ × ℕ)) → h ≡ i → inside_at (wrapper_octet number) v at end ≡ i
    wrapper i e = ap (λ (x : ℕ). inside_at x v at end) (sym tag) ∙ sym opening ∙ e

    wrapped_misfit : h ≡ None → None ≡ checked (decode ty (tagging_of 1 number) v at end)
    wrapped_misfit e = rw (explicit-decode, wrapper None e)

    module _ (start n : ℕ) (found : h ≡ Some (start, n)) (c : Option ℕ) (inner : c ≡ checked (unwrapped ty (tagging_of 1 number) v start (start + n))) where
      filling : checked (decode ty (tagging_of 1 number) v at end) ≡ checked (bind (unwrapped ty (tagging_of 1 number) v start (start + n)) (λ d. pick (eqb d.after (start + n)) (Some d) None))
      filling =
          ap checked
          (explicit-decode ∙ ap (λ (i : Option (ℕ × ℕ)). opened i (inside after_of (unwrapped ty (tagging_of 1 number) v))) (wrapper (Some (start, n)) found))

      filled : (x : Option Decoded) (a : ℕ) → Some a ≡ checked x → checked (bind x (λ d. pick (eqb d.after (start + n)) (Some d) None)) ≡ pick (eqb a (start + n)) (Some a) None
      filled None a e = absurd (let z : ◌≡◌ {A = ℕ} 0 1 = cc in omega arith)
      filled (Some d) a e = let q : a ≡ d.after = cc in rw q (go (eqb d.after (start + n)))
        where
          go : (x : Bool) → checked (pick x (Some d) None) ≡ pick x (Some d.after) None
          go true = refl
          go false = refl

      wrapped_inner : c ≡ None → None ≡ checked (decode ty (tagging_of 1 number) v at end)
      wrapped_inner e = sym (filling ∙ go (unwrapped ty (tagging_of 1 number) v start (start + n)) (sym e ∙ inner))
        where
          go : (x : Option Decoded) → None ≡ checked x → checked (bind x (λ d. pick (eqb d.after (start + n)) (Some d) None)) ≡ None
          go None q = refl
          go (Some d) q = absurd (let z : ◌≡◌ {A = ℕ} 0 1 = cc in omega arith)

      module _ (next : ℕ) (after : c ≡ Some next) where
        whole : checked (decode ty (tagging_of 1 number) v at end) ≡ pick (eqb next (start + n)) (Some next) None
        whole = filling ∙ filled (unwrapped ty (tagging_of 1 number) v start (start + n)) next (sym after ∙ inner)

        wrapped_surplus : (next ≡ start + n → ⊥) → None ≡ checked (decode ty (tagging_of 1 number) v at end)
        wrapped_surplus h = sym (whole ∙ ap (λ (x : Bool). pick x (Some next) None) (ne_eqb next (start + n) h))

        wrapped_filled : next ≡ start + n → Some next ≡ checked (decode ty (tagging_of 1 number) v at end)
        wrapped_filled h = sym (whole ∙ ap (λ (x : Bool). pick x (Some next) None) (eq-eqb next (start + n) h))

-- ---- in a wrapper, by its tag octet
module _ (ty : Ty) (v : List ℕ) (at end tag : ℕ) (h : Option (ℕ × ℕ)) (opening : h ≡ inside_at tag v at end) where
  pub wraps_misfit : h ≡ None → Wraps ty tag v at end None
  wraps_misfit e = record { says = λ n q. wrapped_misfit ty v at end n tag h q opening e }

  module _ (start n k own : ℕ) (found : h ≡ Some (start, n)) (read : own ≡ first_octet untagged k) (c : Option ℕ)
      (inner : Answers ty k own v start (start + n) c) where
    asks : (u : ℕ) → c ≡ checked (unwrapped ty (tagging_of 1 u) v start (start + n))
    asks u = inner.says 1 u (λ z. (own_tag own k u read z).1)

    pub wraps_inner : c ≡ None → Wraps ty tag v at end None
    wraps_inner e = record { says = λ u q. wrapped_inner ty v at end u tag h q opening start n found c (asks u) e }

    pub wraps_surplus : (next : ℕ) → c ≡ Some next → (next ≡ start + n → ⊥) → Wraps ty tag v at end None
    wraps_surplus next a e = record { says = λ u q. wrapped_surplus ty v at end u tag h q opening start n found c (asks u) next a e }

    pub wraps_filled : (next : ℕ) → c ≡ Some next → next ≡ start + n → Wraps ty tag v at end (Some next)
    wraps_filled next a e = record { says = λ u q. wrapped_filled ty v at end u tag h q opening start n found c (asks u) next a e }

-- ---- a member row, whose words the code has read
module _ (chain : ℕ) (t s m : List ℕ) (row : ℕ) (ok : Ready chain t s m) (here : row < length s) (member : is_member (kind_at t (row_at s row)) ≡ true) (j : ℕ)
    (read : j ≡ named_at t (row_at s row)) where
  pub target-here : j < length s
  target-here = rw read (ok.target row here (member-names t (row_at s row) member))

  pub target-typed : is_member (kind_at t (row_at s j)) ≡ true → ⊥
  target-typed = rw read (ok.typed row here (member-names t (row_at s row) member))

module _ (chain : ℕ) (t s : List ℕ) (row j : ℕ) (read : j ≡ named_at t (row_at s row)) (f h : ℕ) (v : List ℕ) (at end : ℕ) (r : Option ℕ)
    (opens : f ≡ first_octet (tagging_of (mode_at t (row_at s row)) (number_at t (row_at s row))) (type_kind t s row))
    (tagged : h ≡ how (type_kind t s row) (mode_at t (row_at s row))) where
  abbrev mode : ℕ
  mode = mode_at t (row_at s row)

  abbrev number : ℕ
  number = number_at t (row_at s row)

  pub tagged-explicit : h ≡ 1 → Wraps (type_from chain t s j) f v at end r
      → r ≡ checked (decode (type_from chain t s (named_at t (row_at s row))) (tagging_of mode number) v at end)
  tagged-explicit z a =
      let m1 = is-explicit (type_kind t s row) mode h tagged z in
      a.says number (mode_wrapper f (type_kind t s row) mode number opens m1)
      ∙ ap₂ (λ (x y : ℕ). checked (decode (type_from chain t s x) (tagging_of y number) v at end)) read (sym m1)

  pub tagged-other : (h ≡ 1 → ⊥) → Answers (type_from chain t s j) (kind_at t (row_at s j)) f v at end r
      → r ≡ checked (decode (type_from chain t s (named_at t (row_at s row))) (tagging_of mode number) v at end)
  tagged-other z a =
      let m0 = not_explicit (type_kind t s row) mode h tagged z in
      tagged-plain (type_from chain t s (named_at t (row_at s row))) v at end mode number r m0
      (a.says mode number
      (λ q. mode_tag f (kind_at t (row_at s j)) mode number (opens ∙ ap (λ (x : ℕ). first_octet (tagging_of mode number) (kind_at t (row_at s x))) (sym read)) m0 q)
      ∙ ap (λ (x : ℕ). checked (unwrapped (type_from chain t s x) (tagging_of mode number) v at end)) read)

-- ---- measures
pub falls_body : (n row z : ℕ) → 5 * (n - row) + 3 ≡ z → 5 * (n - row) + 2 < z
falls_body n row z e = omega arith

pub falls_tagged : (n j z : ℕ) → 5 * (n - j) + 6 ≡ z → 5 * (n - j) + 5 < z
falls_tagged n j z e = omega arith

pub falls_wrapped : (n j i z : ℕ) → i ≡ j → 5 * (n - j) + 5 ≡ z → 5 * (n - i) + 4 < z
falls_wrapped n j i z q e = omega arith

pub falls_value : (n j i z : ℕ) → i ≡ j → 5 * (n - j) + 5 ≡ z → 5 * (n - i) + 3 < z
falls_value n j i z q e = omega arith

pub falls_inner : (n row z : ℕ) → 5 * (n - row) + 4 ≡ z → 5 * (n - row) + 3 < z
falls_inner n row z e = omega arith
