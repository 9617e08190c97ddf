-- One lemma for each return and each turn of a loop that needs one; its premises are the facts as the code has them.
use Rattle.std.specs.Prelude.{Ok}
use mathlib.Core.Path.{◌≡◌, sym, ap, ◌∙◌}
use mathlib.Core.Bool.{Bool, true, false, not}
use mathlib.Core.List.{List, [], ◌∷◌, ◌++◌, append_assoc, append-nil}
use Prim.Native.Nat.{ℕ, ◌≤◌, ◌<◌, ◌+◌, ◌-◌, ◌/◌}
use native.Mathlib.Omega.{arith}
use native.Mathlib.Numerals.{add-one}
use borrow.Author.Tests.{le-leb, lt-leb, not-false}
use lib.Dec.{eqb}
use lib.ListN.{length, take, drop, set, length-set, take-append-drop}
use lib.Seq.{take-suc-set, drop-set-lt, drop-drop}
use Rattle.octets.specs.Octets.{octet}
use Rattle.octets.specs.Utf8.{utf8}
use Rattle.escape.specs.declared.EscapeError.{EscapeError}
use Rattle.escape.specs.Escape.{escaped_text, Escaping, escaping, written, fits, escaped_into, escaped_report}
use Rattle.escape.specs.Inner.Work.{width_at}
use Rattle.escape.proofs.Laws.{to_come, octets_at, escaped-at, escaped-end, width-at, width_some, width_one, width_two, width_three, escaped_most}

-- ---- fits: the room that is left, and what is yet to be counted
pub fits_thrice : (t : List ℕ) (size : ℕ) → length t ≤ size / 3 → true ≡ fits t size
fits_thrice t size h = let d = escaped_most true t in sym (le-leb (length (escaped_text t)) size (omega arith))

module _ (t : List ℕ) (size i left : ℕ) (inv : length (escaped_text t) + left ≡ size + length (to_come t i)) where
  pub fits-done : length t ≤ i → true ≡ fits t size
  fits-done h = let e = ap length (escaped-end t i h) in sym (le-leb (length (escaped_text t)) size (omega arith))

  module _ (h : i < length t) (w : ℕ) (told : w ≡ width_at t i) where
    pub fits_not : left < w → false ≡ fits t size
    fits_not l = let e = width-at t i h in sym (lt-leb (length (escaped_text t)) size (omega arith))

    pub fits_more : w ≤ left → length (escaped_text t) + (left - w) ≡ size + length (to_come t (i + 1))
    fits_more l = let e = width-at t i h in omega arith

-- ---- write: of `whole`, n octets stand in the memory s, and `rest` is to come; behind them the memory is as it was
pub record Writing (whole room : List ℕ) (n : ℕ) (rest s : List ℕ) : Type 0 where
  pub long : length s ≡ length room
  pub fit : length whole ≤ length room
  pub count : n + length rest ≡ length whole
  pub start : take n s ++ rest ≡ whole
  pub kept : drop n s ≡ drop n room

module _ (whole room : List ℕ) (n : ℕ) (s : List ℕ) where
  writing_room : (b : ℕ) (rest : List ℕ) → Writing whole room n (b ∷ rest) s → n < length s
  writing_room b rest v = let l = v.long in let c = v.count in let f = v.fit in omega arith

  writing_one : (b : ℕ) (rest : List ℕ) → Writing whole room n (b ∷ rest) s → Writing whole room (n + 1) rest (set s n b)
  writing_one b rest v = record {
    long = rw length-set v.long;
    fit = v.fit;
    count = omega arith;
    start = rw (add-one n, take-suc-set s n b (writing_room b rest v), append_assoc (take n s) (b ∷ []) rest) v.start;
    kept = drop-set-lt (n + 1) s n b (omega arith) ∙ sym (drop-drop 1 n s) ∙ ap (drop 1) v.kept ∙ drop-drop 1 n room;
  }

  writing_done : Writing whole room n [] s → escaping (Ok n) s ≡ escaping (Ok (length whole)) (whole ++ drop (length whole) room)
  writing_done v = (λ i. escaping (Ok (all i)) (octets i))
    where
      all : n ≡ length whole
      all = let c = v.count in omega arith

      octets : s ≡ whole ++ drop (length whole) room
      octets = sym (take-append-drop n s) ∙ ap (λ (l : List ℕ). l ++ drop n s) (sym (append-nil (take n s)) ∙ v.start)
          ∙ ap (λ (l : List ℕ). whole ++ l) (v.kept ∙ ap (λ (k : ℕ). drop k room) all)

abbrev pub Escapes : List ℕ → List ℕ → ℕ → ℕ → List ℕ → Type 0
Escapes t room n i s = Writing (escaped_text t) room n (to_come t i) s

module _ (t room : List ℕ) (n i : ℕ) (s : List ℕ) (v : Escapes t room n i s) where
  pub escapes_end : length t ≤ i → escaping (Ok n) s ≡ written t room
  escapes_end h = writing_done (escaped_text t) room n s (rw (escaped-end t i h) at v)

  pub room-more : i < length t → n < length s
  room-more h =
      let a = width-at t i h in
      let m = width_some (eqb i 0) (eqb (i + 1) (length t)) (octet t i) in
      let l = v.long in
      let c = v.count in
      let f = v.fit in
      omega arith

  module _ (h : i < length t) (w : ℕ) (told : w ≡ width_at t i) where
    -- the octets for octet i, then what is to come behind them
    here : {l : List ℕ} → octets_at t i ≡ l → Writing (escaped_text t) room n (l ++ to_come t (i + 1)) s
    here {l} e = rw (escaped-at t i h ∙ ap (λ (x : List ℕ). x ++ to_come t (i + 1)) e) at v

    itself : w ≡ 1 → Writing (escaped_text t) room n (octet t i ∷ to_come t (i + 1)) s
    itself e = here (width_one (eqb i 0) (eqb (i + 1) (length t)) (octet t i) (sym told ∙ e))

    pair : w ≡ 2 → Writing (escaped_text t) room n (92 ∷ octet t i ∷ to_come t (i + 1)) s
    pair e = here (width_two (eqb i 0) (eqb (i + 1) (length t)) (octet t i) (sym told ∙ e))

    nul : (w ≡ 1 → ⊥) → (w ≡ 2 → ⊥) → Writing (escaped_text t) room n (92 ∷ 48 ∷ 48 ∷ to_come t (i + 1)) s
    nul e f = here (width_three (eqb i 0) (eqb (i + 1) (length t)) (octet t i) (λ z. e (told ∙ z)) (λ z. f (told ∙ z)))

    two_written : (w ≡ 1 → ⊥) → (w ≡ 2 → ⊥) → Writing (escaped_text t) room (n + 1 + 1) (48 ∷ to_come t (i + 1)) (set (set s n 92) (n + 1) 48)
    two_written e f =
        writing_one (escaped_text t) room (n + 1) (set s n 92) 48 (48 ∷ to_come t (i + 1))
        (writing_one (escaped_text t) room n s 92 (48 ∷ 48 ∷ to_come t (i + 1)) (nul e f))

    -- the number of octets and the memory after each way to write octet i
    module _ (m : ℕ) (u : List ℕ) where
      pub escapes_itself : w ≡ 1 → m ≡ n + 1 → u ≡ set s n (octet t i) → Escapes t room m (i + 1) u
      escapes_itself e a b = rw (a, b) (writing_one (escaped_text t) room n s (octet t i) (to_come t (i + 1)) (itself e))

      pub escapes_pair : w ≡ 2 → m ≡ n + 2 → u ≡ set (set s n 92) (n + 1) (octet t i) → Escapes t room m (i + 1) u
      escapes_pair e a b =
          let q : m ≡ n + 1 + 1 = omega arith in
          rw (q, b) (writing_one (escaped_text t) room (n + 1) (set s n 92) (octet t i) (to_come t (i + 1))
          (writing_one (escaped_text t) room n s 92 (octet t i ∷ to_come t (i + 1)) (pair e)))

      pub escapes_nul : (w ≡ 1 → ⊥) → (w ≡ 2 → ⊥) → m ≡ n + 3 → u ≡ set (set (set s n 92) (n + 1) 48) (n + 2) 48 → Escapes t room m (i + 1) u
      escapes_nul e f a b =
          let q : m ≡ n + 1 + 1 + 1 = omega arith in
          let p : n + 2 ≡ n + 1 + 1 = omega arith in
          rw (q, b, p) (writing_one (escaped_text t) room (n + 1 + 1) (set (set s n 92) (n + 1) 48) 48 (to_come t (i + 1)) (two_written e f))

    -- room for the second octet of an escape, and for the third
    pub room-second : 2 ≤ w → n + 1 < length (set s n 92)
    room-second e =
        let a = width-at t i h in
        let l = v.long in
        let c = v.count in
        let f = v.fit in
        rw length-set (omega arith)

    pub room-third : (w ≡ 1 → ⊥) → (w ≡ 2 → ⊥) → n + 2 < length (set (set s n 92) (n + 1) 48)
    room-third e g =
        let p : n + 2 ≡ n + 1 + 1 = omega arith in
        rw p (writing_room (escaped_text t) room (n + 1 + 1) (set (set s n 92) (n + 1) 48) 48 (to_come t (i + 1)) (two_written e g))

    pub longer : (w ≡ 1 → ⊥) → 2 ≤ w
    longer e = let m = width_some (eqb i 0) (eqb (i + 1) (length t)) (octet t i) in omega arith

-- ---- escape
pub escape_text : (t room : List ℕ) (u : Bool) → u ≡ utf8 t → (r : Escaping) → not u ≡ false → r ≡ escaped_into t room → r ≡ escaped_report t room
unfolding escaped_report
escape_text t room u e r h q = rw (sym e ∙ not-false u h) q
