-- What is written of an asserted name is read back, from its end: the RDNs turned, and the attributes of each.
use mathlib.Core.Path.{◌≡◌, refl, sym, ap, ap₂, ◌∙◌}
use mathlib.Core.Bool.{Bool, true, false}
use Rattle.std.specs.Prelude.{Option, None, Some}
use mathlib.Core.List.{List, [], ◌∷◌, ◌++◌, map, map-map, map-append, append_assoc, append-nil}
use Prim.Native.Nat.{ℕ, zero, suc, ◌≤◌, ◌+◌, ◌-◌, ◌*◌, ◌/◌, ◌%◌}
use native.Mathlib.Omega.{arith}
use borrow.Author.Tests.{ne_eqb}
use lib.Dec.{eqb}
use lib.ListN.{length, length-append, take}
use lib.Seq.{drop-append_seam, drop-append-add, take-append_seam, get_or-append-add}
use Rattle.octets.specs.Pick.{pick, bind, consed}
use Rattle.octets.specs.Octets.{octet, two, part}
use Rattle.der.specs.Dotted.{dotted_arcs}
use Rattle.strings.specs.Prepared.{prepared}
use Rattle.strings.specs.Inner.Comparing.{folded}
use Rattle.strings.proofs.Preparing.{folded-prepared}
use Rattle.der.specs.Names.{most_pairs}
use Rattle.names.specs.Rfc4514.{Letter, Attribute, Read, letters, is_before, behind, rdn_from, rdns_from, distinguished_name}
use Rattle.names.specs.Compared.{Compared, asserted, same_rdn, same_name, turned}
use Rattle.names.specs.Inner.Operand.{two_octets, attribute_octets, attributes_octets, rdn_octets, name_octets, text_start, type_start}
use Rattle.names.specs.Inner.Operand.{attribute_back, attributes_back, start_back, rdn_back, rdn_start, rdns_back, operand_rdn, operand_name}
use Rattle.names.proofs.Matching.{none-some, some_same, consed_view, turned_same, turned-each}

-- the two octets of a number
joined : (n : ℕ) → n / 256 * 256 + n % 256 ≡ n
joined n = omega arith

-- ---- one attribute: a type t and a text v between other octets
module _ (pre t v post : List ℕ) where
  abbrev lengths : List ℕ
  lengths = (length t / 256) ∷ (length t % 256) ∷ (length v / 256) ∷ (length v % 256) ∷ post

  abbrev octets_of : List ℕ
  octets_of = pre ++ (t ++ (v ++ lengths))

  abbrev end : ℕ
  end = length pre + (length t + (length v + 4))

  octet-at : (k i : ℕ) → i ≡ length pre + (length t + (length v + k)) → octet octets_of i ≡ octet lengths k
  octet-at k i e =
      ap (octet octets_of) e
      ∙ get_or-append-add pre (t ++ (v ++ lengths)) (length t + (length v + k)) 0
      ∙ get_or-append-add t (v ++ lengths) (length v + k) 0
      ∙ get_or-append-add v lengths k 0

  two_at : (k i : ℕ) → i ≡ length pre + (length t + (length v + k)) → two octets_of i ≡ two lengths k
  two_at k i e =
      ap₂ (λ (a b : ℕ). a * 256 + b) (octet-at k i e) (octet-at (k + 1) (i + 1) (omega arith))

  text-length : two octets_of (end - 2) ≡ length v
  text-length = two_at 2 (end - 2) (omega arith) ∙ joined (length v)

  type-length : two octets_of (end - 4) ≡ length t
  type-length = two_at 0 (end - 4) (omega arith) ∙ joined (length t)

  text-start : text_start octets_of end ≡ length pre + length t
  text-start = let e = text-length in omega arith

  type-start : type_start octets_of end ≡ length pre
  type-start = let e = type-length in let f = text-start in omega arith

  type-part : part octets_of (length pre) (length t) ≡ t
  type-part = ap (take (length t)) (drop-append_seam pre (t ++ (v ++ lengths))) ∙ take-append_seam t (v ++ lengths)

  text-part : part octets_of (length pre + length t) (length v) ≡ v
  text-part =
      ap (take (length v)) (drop-append-add pre (t ++ (v ++ lengths)) (length t) ∙ drop-append_seam t (v ++ lengths)) ∙ take-append_seam v lengths

  read_back_lem : attribute_back octets_of end ≡ record { arcs = dotted_arcs t; text = folded true v }
  read_back_lem =
      ap₂ (λ (a b : List ℕ). record { arcs = dotted_arcs a; text = folded true b }) type-read text-read
    where
      type-read : part octets_of (type_start octets_of end) (text_start octets_of end - type_start octets_of end) ≡ t
      type-read =
          let e = type-start in
          let f = text-start in
          let n : text_start octets_of end - type_start octets_of end ≡ length t = omega arith in
          ap₂ (λ (i k : ℕ). part octets_of i k) e n ∙ type-part

      text-read : part octets_of (text_start octets_of end) (end - 4 - text_start octets_of end) ≡ v
      text-read =
          let f = text-start in
          let n : end - 4 - text_start octets_of end ≡ length v = omega arith in
          ap₂ (λ (i k : ℕ). part octets_of i k) f n ∙ text-part

module _ (a : Attribute) (pre post x : List ℕ) (end : ℕ) (is : x ≡ pre ++ (attribute_octets a ++ post))
    (to : end ≡ length pre + length (attribute_octets a)) where
  abbrev value : List ℕ
  value = prepared true a.value

  abbrev ends : List ℕ
  ends = two_octets (length a.type) ++ two_octets (length value)

  laid : x ≡ octets_of pre a.type value post
  laid =
      is
      ∙ ap (λ (l : List ℕ). pre ++ l)
      (append_assoc a.type (value ++ ends) post ∙ ap (λ (l : List ℕ). a.type ++ l) (append_assoc value ends post))

  ended : end ≡ length pre + (length a.type + (length value + 4))
  ended = to ∙ ap (λ (n : ℕ). length pre + n) (length-append a.type (value ++ ends) ∙ ap (λ (n : ℕ). length a.type + n) (length-append value ends))

  pub attribute-back : attribute_back x end ≡ asserted a
  attribute-back =
      ap₂ attribute_back laid ended
      ∙ read_back_lem pre a.type value post
      ∙ ap (λ (l : List ℕ). record { arcs = dotted_arcs a.type; text = l }) (folded-prepared true a.value)

  pub attribute-start : type_start x end ≡ length pre
  attribute-start = ap₂ type_start laid ended ∙ type-start pre a.type value post

-- ---- attributes
back_last : (n : ℕ) (x : List ℕ) (end : ℕ) → attributes_back (suc n) x end ≡ attributes_back n x end ++ (attribute_back x (start_back n x end) ∷ [])
unfolding attributes_back start_back
back_last zero x end = refl
back_last (suc n) x end = ap (λ (l : List Compared). attribute_back x end ∷ l) (back_last n x (type_start x end))

start-last : (n : ℕ) (x : List ℕ) (end : ℕ) → start_back (suc n) x end ≡ type_start x (start_back n x end)
unfolding start_back
start-last zero x end = refl
start-last (suc n) x end = start-last n x (type_start x end)

abbrev ReadBack : List Attribute → List ℕ → List ℕ → ℕ → Type 0
ReadBack l pre x end = (attributes_back (length l) x end ≡ turned (map asserted l)) × (start_back (length l) x end ≡ length pre)

-- octets before others, in the two ways of joining
regroup : (pre a l post : List ℕ) → pre ++ ((a ++ l) ++ post) ≡ (pre ++ a) ++ (l ++ post)
regroup pre a l post = ap (λ (y : List ℕ). pre ++ y) (append_assoc a l post) ∙ sym (append_assoc pre a (l ++ post))

pub attributes_back_lem : (l : List Attribute) (pre post x : List ℕ) (end : ℕ) → x ≡ pre ++ (attributes_octets l ++ post)
    → end ≡ length pre + length (attributes_octets l) → ReadBack l pre x end
unfolding attributes_octets attributes_back start_back turned
attributes_back_lem [] pre post x end is to = (refl, omega arith)
attributes_back_lem (a ∷ l) pre post x end is to =
    go (attributes_back_lem l (pre ++ attribute_octets a) post x end (is ∙ regroup pre (attribute_octets a) (attributes_octets l) post) ended)
  where
    ended : end ≡ length (pre ++ attribute_octets a) + length (attributes_octets l)
    ended =
        let p : length (pre ++ attribute_octets a) ≡ length pre + length (attribute_octets a) = length-append pre (attribute_octets a) in
        let q : length (attribute_octets a ++ attributes_octets l) ≡ length (attribute_octets a) + length (attributes_octets l)
        = length-append (attribute_octets a) (attributes_octets l) in
        omega arith

    laid_out : x ≡ pre ++ (attribute_octets a ++ (attributes_octets l ++ post))
    laid_out = is ∙ ap (λ (y : List ℕ). pre ++ y) (append_assoc (attribute_octets a) (attributes_octets l) post)

    go : ReadBack l (pre ++ attribute_octets a) x end → ReadBack (a ∷ l) pre x end
    go w = (
      back_last (length l) x end
          ∙ ap₂ (λ (y : List Compared) (z : Compared). y ++ (z ∷ [])) w.0
          (attribute-back a pre (attributes_octets l ++ post) x (start_back (length l) x end) laid_out (w.1 ∙ length-append pre (attribute_octets a))),
      start-last (length l) x end
          ∙ attribute-start a pre (attributes_octets l ++ post) x (start_back (length l) x end) laid_out (w.1 ∙ length-append pre (attribute_octets a)),
    )

-- ---- an RDN
module _ (r : List Attribute) (pre post x : List ℕ) (end : ℕ) (is : x ≡ pre ++ (rdn_octets r ++ post)) (to : end ≡ length pre + length (rdn_octets r)) where
  before-count : x ≡ pre ++ (attributes_octets r ++ (length r ∷ post))
  before-count = is ∙ ap (λ (y : List ℕ). pre ++ y) (append_assoc (attributes_octets r) (length r ∷ []) post)

  last-octet : end ≡ length pre + (length (attributes_octets r) + 1)
  last-octet = to ∙ ap (λ (n : ℕ). length pre + n) (length-append (attributes_octets r) (length r ∷ []))

  count-read : octet x (end - 1) ≡ length r
  count-read =
      let e = last-octet in
      let i : end - 1 ≡ length pre + (length (attributes_octets r) + 0) = omega arith in
      ap₂ octet before-count i
      ∙ get_or-append-add pre (attributes_octets r ++ (length r ∷ post)) (length (attributes_octets r) + 0) 0
      ∙ get_or-append-add (attributes_octets r) (length r ∷ post) 0 0

  attributes_read : ReadBack r pre x (end - 1)
  attributes_read = attributes_back_lem r pre (length r ∷ post) x (end - 1) before-count (let e = last-octet in omega arith)

  pub rdn-back : rdn_back x end ≡ turned (map asserted r)
  rdn-back = ap (λ (n : ℕ). attributes_back n x (end - 1)) count-read ∙ attributes_read.0

  pub rdn-start : rdn_start x end ≡ length pre
  rdn-start = ap (λ (n : ℕ). start_back n x (end - 1)) count-read ∙ attributes_read.1

-- ---- a name
abbrev pub turned_rdn : List Attribute → List Compared
turned_rdn r = turned (map asserted r)

rdns-step : (k : ℕ) (x : List ℕ) (end : ℕ) → eqb end 0 ≡ false → rdns_back (suc k) x end ≡ rdn_back x end ∷ rdns_back k x (rdn_start x end)
unfolding rdns_back
rdns-step k x end e = rw e

rdns-end : (k : ℕ) (x : List ℕ) → rdns_back k x 0 ≡ []
unfolding rdns_back
rdns-end zero x = refl
rdns-end (suc k) x = refl

pub rdns-back : (rs : List (List Attribute)) (pre post x : List ℕ) (end k : ℕ) → x ≡ pre ++ (name_octets rs ++ post)
    → end ≡ length pre + length (name_octets rs) → rdns_back (length rs + k) x end ≡ turned (map turned_rdn rs) ++ rdns_back k x (length pre)
unfolding name_octets turned
rdns-back [] pre post x end k is to =
    let e : end ≡ length pre = omega arith in
    let n : 0 + k ≡ k = omega arith in
    ap₂ (λ (m i : ℕ). rdns_back m x i) n e
rdns-back (r ∷ rs) pre post x end k is to =
    ap (λ (m : ℕ). rdns_back m x end) shifted
    ∙ rdns-back rs (pre ++ rdn_octets r) post x end (suc k) (is ∙ regroup pre (rdn_octets r) (name_octets rs) post) ended
    ∙ ap (λ (l : List (List Compared)). turned (map turned_rdn rs) ++ l) one
    ∙ sym (append_assoc (turned (map turned_rdn rs)) (turned_rdn r ∷ []) (rdns_back k x (length pre)))
  where
    shifted : suc (length rs) + k ≡ length rs + suc k
    shifted = omega arith

    start : length (pre ++ rdn_octets r) ≡ length pre + length (rdn_octets r)
    start = length-append pre (rdn_octets r)

    ended : end ≡ length (pre ++ rdn_octets r) + length (name_octets rs)
    ended =
        let p = start in
        let q : length (rdn_octets r ++ name_octets rs) ≡ length (rdn_octets r) + length (name_octets rs) = length-append (rdn_octets r) (name_octets rs) in
        omega arith

    laid_out : x ≡ pre ++ (rdn_octets r ++ (name_octets rs ++ post))
    laid_out = is ∙ ap (λ (y : List ℕ). pre ++ y) (append_assoc (rdn_octets r) (name_octets rs) post)

    some_octet : eqb (length (pre ++ rdn_octets r)) 0 ≡ false
    some_octet =
        ne_eqb (length (pre ++ rdn_octets r)) 0 (λ z.
        let p = start in
        let q : length (rdn_octets r) ≡ length (attributes_octets r) + 1 = length-append (attributes_octets r) (length r ∷ []) in
        omega arith)

    one : rdns_back (suc k) x (length (pre ++ rdn_octets r)) ≡ turned_rdn r ∷ rdns_back k x (length pre)
    one =
        rdns-step k x (length (pre ++ rdn_octets r)) some_octet
        ∙ ap₂ (λ (y : List Compared) (i : ℕ). y ∷ rdns_back k x i)
        (rdn-back r pre (name_octets rs ++ post) x (length (pre ++ rdn_octets r)) laid_out start)
        (rdn-start r pre (name_octets rs ++ post) x (length (pre ++ rdn_octets r)) laid_out start)

-- ---- the whole operand
pub operand-rdn : (r : List Attribute) → operand_rdn (rdn_octets r) ≡ turned (map asserted r)
operand-rdn r = rdn-back r [] [] (rdn_octets r) (length (rdn_octets r)) (sym (append-nil (rdn_octets r))) (omega arith)

pub operand-name : (rs : List (List Attribute)) → length rs ≤ 17 → operand_name (name_octets rs) ≡ turned (map turned_rdn rs)
operand-name rs h =
    let n : 17 ≡ length rs + (17 - length rs) = omega arith in
    ap (λ (m : ℕ). rdns_back m (name_octets rs) (length (name_octets rs))) n
    ∙ rdns-back rs [] [] (name_octets rs) (length (name_octets rs)) (17 - length rs) (sym (append-nil (name_octets rs))) (omega arith)
    ∙ ap (λ (l : List (List Compared)). turned (map turned_rdn rs) ++ l) (rdns-end (17 - length rs) (name_octets rs))
    ∙ append-nil (turned (map turned_rdn rs))

-- ---- compared with the operand is compared with the asserted text
turned_map : {A B : Type 0} (f : A → B) (l : List A) → turned (map f l) ≡ map f (turned l)
unfolding turned
turned_map f [] = refl
turned_map f (a ∷ l) = ap (λ (y : List _). y ++ (f a ∷ [])) (turned_map f l) ∙ sym (map-append f (turned l) (a ∷ []))

pub rdn_by_operand : (c : List Compared) (r : List Attribute) → same_rdn c (operand_rdn (rdn_octets r)) ≡ same_rdn c (map asserted r)
rdn_by_operand c r = ap (same_rdn c) (operand-rdn r) ∙ turned_same c (map asserted r)

pub name_by_operand : (c : List (List Compared)) (rs : List (List Attribute)) → length rs ≤ 17
    → same_name c (operand_name (name_octets rs)) ≡ same_name c (turned (map (map asserted) rs))
name_by_operand c rs h =
    ap (same_name c) (operand-name rs h ∙ ap turned (sym (map-map turned (map asserted) rs)) ∙ turned_map turned (map (map asserted) rs))
    ∙ turned-each c (turned (map (map asserted) rs))

-- ---- a text that conforms: at most 16 RDNs, so that its operand is compared as the text is
few-read : (m : ℕ) (got : List Attribute) (rest : List Letter) (rs : List (List Attribute))
    → ((l : List Letter) (qs : List (List Attribute)) → rdns_from m l ≡ Some qs → length qs ≤ m)
    → pick (is_before 44 rest) (consed got (rdns_from m (behind rest))) (Some (got ∷ [])) ≡ Some rs → length rs ≤ suc m
few-read m got rest rs f e = go (is_before 44 rest) e
  where
    go : (u : Bool) → pick u (consed got (rdns_from m (behind rest))) (Some (got ∷ [])) ≡ Some rs → length rs ≤ suc m
    go true q =
        let w = consed_view got (rdns_from m (behind rest)) rs q in
        let l = f (behind rest) w.0 w.1 in
        let k : suc (length w.0) ≡ length rs = ap length w.2 in
        omega arith
    go false q = let k : 1 ≡ length rs = ap length (some_same (got ∷ []) rs q) in omega arith

few-rdns : (m : ℕ) (ls : List Letter) (rs : List (List Attribute)) → rdns_from m ls ≡ Some rs → length rs ≤ m
unfolding rdns_from
few-rdns zero ls rs e = absurd (none-some rs e)
few-rdns (suc m) ls rs e = go (rdn_from most_pairs ls) (λ l qs q. few-rdns m l qs q) e
  where
    go : (o : Option (Read (List Attribute))) → ((l : List Letter) (qs : List (List Attribute)) → rdns_from m l ≡ Some qs → length qs ≤ m)
        → bind o (λ r. pick (is_before 44 r.rest) (consed r.got (rdns_from m (behind r.rest))) (Some (r.got ∷ []))) ≡ Some rs → length rs ≤ suc m
    go None f q = absurd (none-some rs q)
    go (Some r) f q = few-read m r.got r.rest rs f q

pub few-asserted : (s : List ℕ) (rs : List (List Attribute)) → distinguished_name s ≡ Some rs → length rs ≤ 16
few-asserted [] rs e = let k : 0 ≡ length rs = ap length (some_same [] rs e) in omega arith
few-asserted (b ∷ s) rs e = few-rdns 16 (letters (b ∷ s)) rs e
