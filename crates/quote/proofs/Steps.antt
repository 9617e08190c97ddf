-- One lemma for each return and each turn of a loop that needs one; its premises are the facts as the code has them.
use Rattle.std.specs.Prelude.{Ok}
use mathlib.Core.Path.{◌≡◌, refl, sym, ap, ◌∙◌}
use mathlib.Core.Bool.{Bool, true, false, not}
use mathlib.Core.List.{List, [], ◌∷◌, ◌++◌, append_assoc, append-nil}
use Prim.Native.Nat.{ℕ, ◌≤◌, ◌<◌, ◌+◌, ◌-◌, ◌/◌}
use native.Mathlib.Omega.{arith}
use native.Mathlib.Numerals.{add-one}
use borrow.Author.Tests.{le-leb, lt-leb, leb-true, leb-false, not-false}
use lib.Dec.{eqb, leb}
use lib.ListN.{length, take, drop, set, length-set, length-append, take-append-drop}
use lib.Seq.{take-suc-set, drop-set-lt, drop-drop}
use Rattle.octets.specs.Octets.{octet}
use Rattle.octets.specs.Utf8.{utf8}
use Rattle.octets.proofs.Laws.{rest-cons, rest-none}
use Rattle.quote.specs.Quote.{doubled, quoted, Quoting, quoting, written, fits, quoted_into, quoted_report}
use Rattle.quote.specs.Inner.Work.{width}
use Rattle.quote.proofs.Laws.{doubled-nil, doubled_quote, doubled-other, width_some, width-at, quoted-length, doubled_most, doubled_least, width_few}

-- ---- fits: no room for the two quotes, room for any text as long, too little for any, or by the octets that are written twice
pub fits-small : (t : List ℕ) (size : ℕ) → size < 2 → false ≡ fits t size
fits-small t size h = let e = quoted-length t in sym (lt-leb (length (quoted t)) size (omega arith))

pub fits_twice : (t : List ℕ) (size : ℕ) → 2 ≤ size → length t ≤ (size - 2) / 2 → true ≡ fits t size
fits_twice t size g h = let e = quoted-length t in let d = doubled_most t in sym (le-leb (length (quoted t)) size (omega arith))

pub fits_short : (t : List ℕ) (size : ℕ) → size - 2 < length t → false ≡ fits t size
fits_short t size h = let e = quoted-length t in let d = doubled_least t in sym (lt-leb (length (quoted t)) size (omega arith))

-- of the octets up to i, so many are written twice
pub record Counts (t : List ℕ) (i more : ℕ) : Type 0 where
  pub few : more ≤ i
  pub whole : i + more + length (doubled (drop i t)) ≡ length (doubled t)

pub counts-start : (t : List ℕ) → Counts t 0 0
counts-start t = record { few = omega arith; whole = omega arith }

module _ (t : List ℕ) (i more : ℕ) (v : Counts t i more) where
  module _ (h : i < length t) (w : ℕ) (told : w ≡ width (octet t i)) where
    pub counts_more : Counts t (i + 1) (more + (w - 1))
    counts_more =
        let e = width-at t i h in
        let a = width_some (octet t i) in
        let m = width_few (octet t i) in
        let f = v.few in
        let o = v.whole in
        record { few = omega arith; whole = omega arith }

  pub counts_fit : (size : ℕ) → 2 ≤ size → length t ≤ size - 2 → i ≤ length t → length t ≤ i → leb more (size - 2 - length t) ≡ fits t size
  counts_fit size g room low high = go (leb more (size - 2 - length t)) refl
    where
      whole : length t + more + 2 ≡ length (quoted t)
      whole =
          let n = ap (λ (l : List ℕ). length (doubled l)) (rest-none t i high) ∙ ap length doubled-nil in
          let o = v.whole in
          let e = quoted-length t in
          omega arith

      go : (u : Bool) → leb more (size - 2 - length t) ≡ u → u ≡ fits t size
      go true e = let w = whole in let l = leb-true more (size - 2 - length t) e in sym (le-leb (length (quoted t)) size (omega arith))
      go false e = let w = whole in let l = leb-false more (size - 2 - length t) e in sym (lt-leb (length (quoted t)) size (omega arith))

-- ---- write: of `whole`, n octets stand in the memory s, and `rest` is to come; behind them the memory is as it was
pub record Writing (whole room : List ℕ) (n : ℕ) (rest s : List ℕ) : Type 0 where
  pub long : length s ≡ length room
  pub fit : length whole ≤ length room
  pub count : n + length rest ≡ length whole
  pub start : take n s ++ rest ≡ whole
  pub kept : drop n s ≡ drop n room

pub writing_none : (whole room : List ℕ) → length whole ≤ length room → Writing whole room 0 whole room
writing_none whole room h = record { long = refl; fit = h; count = omega arith; start = refl; kept = refl }

module _ (whole room : List ℕ) (n : ℕ) (s : List ℕ) where
  pub writing_one : (b : ℕ) (rest : List ℕ) → Writing whole room n (b ∷ rest) s → Writing whole room (n + 1) rest (set s n b)
  writing_one b rest v = record {
    long = rw length-set v.long;
    fit = v.fit;
    count = omega arith;
    start = rw (add-one n, take-suc-set s n b inside, append_assoc (take n s) (b ∷ []) rest) v.start;
    kept = drop-set-lt (n + 1) s n b (omega arith) ∙ sym (drop-drop 1 n s) ∙ ap (drop 1) v.kept ∙ drop-drop 1 n room;
  }
    where
      inside : n < length s
      inside = let l = v.long in let c = v.count in let f = v.fit in omega arith

  pub writing_done : Writing whole room n [] s → quoting (Ok n) s ≡ quoting (Ok (length whole)) (whole ++ drop (length whole) room)
  writing_done v = (λ i. quoting (Ok (all i)) (octets i))
    where
      all : n ≡ length whole
      all = let c = v.count in omega arith

      octets : s ≡ whole ++ drop (length whole) room
      octets = sym (take-append-drop n s) ∙ ap (λ (l : List ℕ). l ++ drop n s) (sym (append-nil (take n s)) ∙ v.start)
          ∙ ap (λ (l : List ℕ). whole ++ l) (v.kept ∙ ap (λ (k : ℕ). drop k room) all)

-- what is to come of a text from octet i on
abbrev pub to_come : List ℕ → ℕ → List ℕ
to_come t i = doubled (drop i t) ++ (34 ∷ [])

abbrev pub Quotes : List ℕ → List ℕ → ℕ → ℕ → List ℕ → Type 0
Quotes t room n i s = Writing (quoted t) room n (to_come t i) s

module _ (t room : List ℕ) where
  pub room-first : length (quoted t) ≤ length room → 0 < length room
  room-first h = let e = quoted-length t in omega arith

  -- from the memory with the first quote on
  pub quotes_start : length (quoted t) ≤ length room → Quotes t (set room 0 34) 1 0 (set room 0 34)
  unfolding quoted
  quotes_start h = record { long = refl; fit = rw length-set h; count = v.count; start = v.start; kept = refl }
    where
      v : Quotes t room 1 0 (set room 0 34)
      v = writing_one (quoted t) room 0 room 34 (to_come t 0) (writing_none (quoted t) room h)

module _ (t room : List ℕ) (n i : ℕ) (s : List ℕ) (v : Quotes t room n i s) where
  module _ (h : i < length t) where
    here : to_come t i ≡ doubled (octet t i ∷ drop (i + 1) t) ++ (34 ∷ [])
    here = ap (λ (l : List ℕ). doubled l ++ (34 ∷ [])) (rest-cons t i h)

    quotes_quote : octet t i ≡ 34 → to_come t i ≡ octet t i ∷ 34 ∷ to_come t (i + 1)
    quotes_quote e = here ∙ ap (λ (l : List ℕ). l ++ (34 ∷ [])) (doubled_quote (octet t i) (drop (i + 1) t) e)

    quotes_other : (octet t i ≡ 34 → ⊥) → to_come t i ≡ octet t i ∷ to_come t (i + 1)
    quotes_other e = here ∙ ap (λ (l : List ℕ). l ++ (34 ∷ [])) (doubled-other (octet t i) (drop (i + 1) t) e)

    first : octet t i ≡ 34 → Writing (quoted t) room (n + 1) (34 ∷ to_come t (i + 1)) (set s n (octet t i))
    first e = writing_one (quoted t) room n s (octet t i) (34 ∷ to_come t (i + 1)) (rw (quotes_quote e) at v)

    -- at least the last quote is to come behind an octet
    pub room_next : (b : ℕ) → n + 1 < length (set s n b)
    room_next b =
        let e = length-append (doubled (drop i t)) (34 ∷ []) in
        let w = width-at t i h in
        let m = width_some (octet t i) in
        let l = v.long in
        let c = v.count in
        let f = v.fit in
        rw length-set (omega arith)

    -- the number of octets and the memory after an octet
    module _ (m : ℕ) (u : List ℕ) where
      pub quotes_double : octet t i ≡ 34 → m ≡ n + 1 + 1 → u ≡ set (set s n (octet t i)) (n + 1) 34 → Quotes t room m (i + 1) u
      quotes_double e a b = rw (a, b) (writing_one (quoted t) room (n + 1) (set s n (octet t i)) 34 (to_come t (i + 1)) (first e))

      pub quotes_on : (octet t i ≡ 34 → ⊥) → m ≡ n + 1 → u ≡ set s n (octet t i) → Quotes t room m (i + 1) u
      quotes_on e a b = rw (a, b) (writing_one (quoted t) room n s (octet t i) (to_come t (i + 1)) (rw (quotes_other e) at v))

  quotes_last : length t ≤ i → to_come t i ≡ 34 ∷ []
  quotes_last h = ap (λ (l : List ℕ). doubled l ++ (34 ∷ [])) (rest-none t i h) ∙ ap (λ (l : List ℕ). l ++ (34 ∷ [])) doubled-nil

  quotes_all : length t ≤ i → quoting (Ok (n + 1)) (set s n 34) ≡ written t room
  quotes_all h = writing_done (quoted t) room (n + 1) (set s n 34) (writing_one (quoted t) room n s 34 [] (rw (quotes_last h) at v))

pub quotes_end : (t room : List ℕ) (n i : ℕ) (s : List ℕ) → Quotes t (set room 0 34) n i s → length t ≤ i
    → quoting (Ok (n + 1)) (set s n 34) ≡ written t room
quotes_end t room n i s v h =
    let l = quoted-length t in
    quotes_all t (set room 0 34) n i s v h
    ∙ ap (λ (x : List ℕ). quoting (Ok (length (quoted t))) (quoted t ++ x)) (drop-set-lt (length (quoted t)) room 0 34 (omega arith))

-- ---- quote
pub quote_text : (t room : List ℕ) (p : Bool) → p ≡ eqb (length t) 0 → p ≡ false → (u : Bool) → u ≡ utf8 t → (r : Quoting) → not u ≡ false
    → r ≡ quoted_into t room → r ≡ quoted_report t room
unfolding quoted_report
quote_text t room p f g u e r h q = rw (sym f ∙ g, sym e ∙ not-false u h) q
