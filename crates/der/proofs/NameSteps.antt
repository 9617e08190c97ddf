-- Stored names: one lemma for each return and each turn of a loop.
use Rattle.std.specs.Prelude.{Some, None}
use mathlib.Core.Path.{◌≡◌, refl, sym, ap, ◌∙◌}
use mathlib.Core.Bool.{Bool, true, false, not}
use Rattle.std.specs.Prelude.{Option}
use mathlib.Core.List.{List}
use Prim.Native.Nat.{ℕ, zero, suc, ◌≤◌, ◌<◌, ◌+◌, ◌-◌}
use native.Mathlib.Omega.{arith}
use borrow.Author.Tests.{eq-eqb, ne_eqb, lt-ltb, le-leb, not-true, not-false}
use lib.Dec.{ltb, leb, eqb}
use lib.ListN.{length}
use Rattle.octets.specs.Pick.{both}
use Rattle.octets.specs.Octets.{part}
use Rattle.octets.specs.Inner.Answers.{between}
use Rattle.der.specs.Header.{header_at, inside_at}
use Rattle.der.specs.Contents.{legal_oid}
use Rattle.der.specs.Order.{not_above}
use Rattle.der.specs.Names.{Element, element_at, elements_from, legal_string, legal_value, legal_pair, every_element, legal_rdn, legal_rdns, legal_rdn_sequence}
use Rattle.der.specs.Names.{Pair, contents_of, pair_behind, pair_of}
use Rattle.der.specs.Inner.Answers.{legal_after, Placed}
use Rattle.der.proofs.Laws.{header-within, inside-long, inside-within}
use Rattle.der.proofs.NameLaws.{pair_by_octet, parts_by_octet, rdn_by_octet, sequence_by_octet, elements_end, elements_full}
use Rattle.der.proofs.NameLaws.{elements_misfit, elements_next, pairs_after, pairs_first, pairs_next, pairs_end, rdns_next}

-- ---- a value
module _ (c : List ℕ) (at : ℕ) (h : Option (ℕ × ℕ × ℕ)) (read : h ≡ header_at c at (length c)) where
  pub value-misfit : h ≡ None → false ≡ legal_value c (header_at c at (length c))
  value-misfit e = ap (legal_value c) (sym e ∙ read)

  module _ (o start n : ℕ) (e : h ≡ Some (o, start, n)) where
    ends : start + n ≤ length c
    ends = header-within c at (length c) o start n (sym read ∙ e)

    pub value-starts : start ≤ length c
    value-starts = omega (arith, ends)

    found : legal_value c (header_at c at (length c)) ≡ both (eqb (start + n) (length c)) (legal_string o (part c start n))
    found = ap (legal_value c) (sym read ∙ e)

    pub value_before-end : (length c - start ≡ n → ⊥) → eqb (length c - start) n ≡ legal_value c (header_at c at (length c))
    value_before-end d = rw (found, ne_eqb (start + n) (length c) (λ z. d (omega arith)), ne_eqb (length c - start) n d)

    pub value-is : (p : List ℕ) (r : Bool) → length c - start ≡ n → p ≡ part c start n → r ≡ legal_string o p → r ≡ legal_value c (header_at c at (length c))
    value-is p r d q told = rw (found, eq-eqb (start + n) (length c) (omega (arith, ends))) (told ∙ ap (legal_string o) q)

-- ---- a pair
pub contents-fit : (o : ℕ) (c : List ℕ) (at start n : ℕ) (i : Option (ℕ × ℕ)) → i ≡ inside_at o c at (length c) → i ≡ Some (start, n) → length c < 18446744073709551616
    → start + n < 18446744073709551616
contents-fit o c at start n i e q l = let w = inside-within o c at (length c) start n (sym e ∙ q) in omega arith

pub value-fits : (c : List ℕ) (at o start n : ℕ) (h : Option (ℕ × ℕ × ℕ)) → h ≡ header_at c at (length c) → h ≡ Some (o, start, n) → length c < 18446744073709551616
    → start + n < 18446744073709551616
value-fits c at o start n h e q l = let w = header-within c at (length c) o start n (sym e ∙ q) in omega arith

module _ (c : List ℕ) (i : Option (ℕ × ℕ)) (read : i ≡ inside_at 6 c 0 (length c)) where
  pub pair-misfit : i ≡ None → false ≡ legal_pair c
  pair-misfit e = rw (pair_by_octet c, sym read ∙ e)

  module _ (start n : ℕ) (e : i ≡ Some (start, n)) where
    pub type-within : start + n ≤ length c
    type-within = inside-within 6 c 0 (length c) start n (sym read ∙ e)

    module _ (p : List ℕ) (u : Bool) (q : p ≡ part c start n) (told : u ≡ legal_oid p) where
      opened : legal_pair c ≡ both u (legal_value c (header_at c (start + n) (length c)))
      opened = rw (pair_by_octet c, sym read ∙ e, told, q)

      pub pair_no_type : u ≡ false → u ≡ legal_pair c
      pair_no_type h = rw (opened, h)

      pub pair_is : (r : Bool) → u ≡ true → r ≡ legal_value c (header_at c (start + n) (length c)) → r ≡ legal_pair c
      pair_is r h f = rw (opened, h) f

-- ---- a pair after another
after-element : (c : List ℕ) (before at start n : ℕ)
    → legal_after c before at start (start + n) ≡ both (not_above (between c before at) (between c at (start + n))) (legal_pair (part c start n))
after-element c before at start n =
    let q : start + n - start ≡ n = omega arith in
    ap (λ (x : ℕ). both (not_above (between c before at) (between c at (start + n))) (legal_pair (part c start x))) q

-- ---- an RDN: n pairs lie before place at, the last of them from place `before` on
abbrev pub pairs_from : List ℕ → ℕ → ℕ → ℕ → Bool
pairs_from c n before at = pairs_after n (between c before at) (elements_from (4 - n) 48 c at)

pub record Pairs (c : List ℕ) (n before at : ℕ) : Type 0 where
  pub few : n ≤ 4
  pub so_far : pairs_from c n before at ≡ legal_rdn c

pub pairs_start : (c : List ℕ) → Pairs c 0 0 0
pairs_start c = record { few = omega arith; so_far = pairs_first (elements_from 4 48 c 0) ∙ sym (rdn_by_octet c) }

above_zero : (n : ℕ) → ltb 0 n ≡ leb 1 n
above_zero zero = refl
above_zero (suc n) = lt-ltb 0 (suc n) (omega arith) ∙ sym (le-leb 1 (suc n) (omega arith))

module _ (c : List ℕ) (n before at : ℕ) (s : Pairs c n before at) where
  by_elements : {o : Option (List Element)} → o ≡ elements_from (4 - n) 48 c at → pairs_after n (between c before at) o ≡ legal_rdn c
  by_elements e = ap (pairs_after n (between c before at)) e ∙ s.so_far

  pub pairs-room : n + 1 < 18446744073709551616
  pairs-room = let l = s.few in omega arith

  pub pairs-done : length c ≤ at → ltb 0 n ≡ legal_rdn c
  pairs-done h = above_zero n ∙ sym (pairs_end n (between c before at)) ∙ by_elements (sym (elements_end 48 c at (4 - n) h))

  module _ (h : at < length c) where
    pub pairs_full : n ≡ 4 → false ≡ legal_rdn c
    pairs_full e = let z : 0 ≡ 4 - n = omega arith in by_elements (sym (elements_full 48 c at h) ∙ ap (λ (m : ℕ). elements_from m 48 c at) z)

    module _ (d : n ≡ 4 → ⊥) (i : Option (ℕ × ℕ)) (read : i ≡ inside_at 48 c at (length c)) where
      less : n < 4
      less = let l = s.few in omega arith

      step : elements_from (suc (4 - (n + 1))) 48 c at ≡ elements_from (4 - n) 48 c at
      step = let l = less in let e : suc (4 - (n + 1)) ≡ 4 - n = omega arith in ap (λ (m : ℕ). elements_from m 48 c at) e

      pub pairs-misfit : i ≡ None → false ≡ legal_rdn c
      pairs-misfit e = by_elements (sym (elements_misfit 48 c at h (4 - (n + 1)) (sym read ∙ e)) ∙ step)

      module _ (start len : ℕ) (e : i ≡ Some (start, len)) where
        pub pairs_falls : length c - (start + len) < length c - at
        pairs_falls = omega (arith, inside-long 48 c at (length c) start len (sym read ∙ e))

        turn : both (legal_after c before at start (start + len)) (pairs_from c (n + 1) at (start + len)) ≡ legal_rdn c
        turn =
            ap (λ (x : Bool). both x (pairs_from c (n + 1) at (start + len))) (after-element c before at start len)
            ∙ sym (pairs_next n (between c before at) (element_at c at start len) (elements_from (4 - (n + 1)) 48 c (start + len)))
            ∙ by_elements (sym (elements_next 48 c at h (4 - (n + 1)) start len (sym read ∙ e)) ∙ step)

        module _ (u : Bool) (told : u ≡ legal_after c before at start (start + len)) where
          pub pairs-bad : not u ≡ true → false ≡ legal_rdn c
          pairs-bad f = rw (sym told ∙ not-true u f) at turn

          pub pairs-more : not u ≡ false → Pairs c (n + 1) at (start + len)
          pairs-more f = let l = less in record { few = omega arith; so_far = rw (sym told ∙ not-false u f) at turn }

-- ---- an RDNSequence: n RDNs lie before place at
pub record Rdns (c : List ℕ) (n at : ℕ) : Type 0 where
  pub few : n ≤ 16
  pub so_far : legal_rdns (elements_from (16 - n) 49 c at) ≡ legal_rdn_sequence c

pub rdns-start : (c : List ℕ) → Rdns c 0 0
rdns-start c = record { few = omega arith; so_far = sym (sequence_by_octet c) }

module _ (c : List ℕ) (n at : ℕ) (s : Rdns c n at) where
  pub rdns-room : n + 1 < 18446744073709551616
  rdns-room = let l = s.few in omega arith

  pub rdns-done : length c ≤ at → true ≡ legal_rdn_sequence c
  unfolding every_element
  rdns-done h = ap legal_rdns (sym (elements_end 49 c at (16 - n) h)) ∙ s.so_far

  module _ (h : at < length c) where
    pub rdns_full : n ≡ 16 → false ≡ legal_rdn_sequence c
    rdns_full e =
        let z : 0 ≡ 16 - n = omega arith in
        ap legal_rdns (sym (elements_full 49 c at h) ∙ ap (λ (m : ℕ). elements_from m 49 c at) z) ∙ s.so_far

    module _ (d : n ≡ 16 → ⊥) (i : Option (ℕ × ℕ)) (read : i ≡ inside_at 49 c at (length c)) where
      fewer : n < 16
      fewer = let l = s.few in omega arith

      one_less : suc (16 - (n + 1)) ≡ 16 - n
      one_less = let l = fewer in omega arith

      pub rdns-misfit : i ≡ None → false ≡ legal_rdn_sequence c
      rdns-misfit e = ap legal_rdns (sym (elements_misfit 49 c at h (16 - (n + 1)) (sym read ∙ e)) ∙ ap (λ (m : ℕ). elements_from m 49 c at) one_less) ∙ s.so_far

      module _ (start len : ℕ) (e : i ≡ Some (start, len)) where
        pub rdns_falls : length c - (start + len) < length c - at
        rdns_falls = omega (arith, inside-long 49 c at (length c) start len (sym read ∙ e))

        module _ (p : List ℕ) (u : Bool) (q : p ≡ part c start len) (told : u ≡ legal_rdn p) where
          passed : both u (legal_rdns (elements_from (16 - (n + 1)) 49 c (start + len))) ≡ legal_rdn_sequence c
          passed =
              ap (λ (x : Bool). both x (legal_rdns (elements_from (16 - (n + 1)) 49 c (start + len)))) (told ∙ ap legal_rdn q)
              ∙ sym (rdns_next (element_at c at start len) (elements_from (16 - (n + 1)) 49 c (start + len)))
              ∙ ap legal_rdns (sym (elements_next 49 c at h (16 - (n + 1)) start len (sym read ∙ e)) ∙ ap (λ (m : ℕ). elements_from m 49 c at) one_less)
              ∙ s.so_far

          pub rdns-bad : not u ≡ true → false ≡ legal_rdn_sequence c
          rdns-bad f = rw (not-true u f) at passed

          pub rdns-more : not u ≡ false → Rdns c (n + 1) (start + len)
          rdns-more f = let l = fewer in record { few = omega arith; so_far = rw (not-false u f) at passed }

-- ---- the parts of a pair
module _ (c : List ℕ) (i : Option (ℕ × ℕ)) (read : i ≡ inside_at 6 c 0 (length c)) where
  behind-type : pair_of c ≡ pair_behind c i
  behind-type = rw (parts_by_octet c, read)

  module _ (e : i ≡ None) where
    pub none-type : between c 0 0 ≡ (pair_of c).type
    none-type = sym (ap (λ (p : Pair). p.type) (behind-type ∙ ap (pair_behind c) e))

    pub none-value : between c 0 0 ≡ (pair_of c).value
    none-value = sym (ap (λ (p : Pair). p.value) (behind-type ∙ ap (pair_behind c) e))

  module _ (start n : ℕ) (e : i ≡ Some (start, n)) where
    pub parts-type : between c start (start + n) ≡ (pair_of c).type
    parts-type =
        let q : start + n - start ≡ n = omega arith in
        ap (part c start) q ∙ sym (ap (λ (p : Pair). p.type) (behind-type ∙ ap (pair_behind c) e))

    module _ (h : Option (ℕ × ℕ × ℕ)) (found : h ≡ header_at c (start + n) (length c)) where
      behind-value : contents_of c h ≡ (pair_of c).value
      behind-value = ap (contents_of c) found ∙ sym (ap (λ (p : Pair). p.value) (behind-type ∙ ap (pair_behind c) e))

      pub parts-no_value : h ≡ None → between c 0 0 ≡ (pair_of c).value
      parts-no_value f = sym (ap (contents_of c) f) ∙ behind-value

      module _ (o from m : ℕ) (f : h ≡ Some (o, from, m)) where
        pub parts_within : from + m ≤ length c
        parts_within = header-within c (start + n) (length c) o from m (sym found ∙ f)

        pub parts-value : between c from (from + m) ≡ (pair_of c).value
        parts-value = let q : from + m - from ≡ m = omega arith in ap (part c from) q ∙ sym (ap (contents_of c) f) ∙ behind-value

        pub parts-placed : Placed c (record { type_start = start; type_end = start + n; value_start = from; value_end = from + m })
        parts-placed =
            record { type-ordered = omega arith; type-within = type-within c i read start n e; value-ordered = omega arith; value-within = parts_within }

    pub type-placed : Placed c (record { type_start = start; type_end = start + n; value_start = 0; value_end = 0 })
    type-placed = record { type-ordered = omega arith; type-within = type-within c i read start n e; value-ordered = omega arith; value-within = omega arith }

pub none-placed : (c : List ℕ) → Placed c (record { type_start = 0; type_end = 0; value_start = 0; value_end = 0 })
none-placed c = record { type-ordered = omega arith; type-within = omega arith; value-ordered = omega arith; value-within = omega arith }
