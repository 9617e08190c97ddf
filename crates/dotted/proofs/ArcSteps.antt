-- One arc: its digits, and the piece of the text that it stands in.
use Rattle.std.specs.Prelude.{Option}
use Rattle.std.specs.Prelude.{None, Some}
use mathlib.Core.Path.{◌≡◌, refl, sym, ap, ◌∙◌}
use mathlib.Core.Bool.{Bool, true, false, not}
use mathlib.Core.List.{List, [], ◌∷◌}
use Prim.Native.Nat.{ℕ, zero, suc, ◌≤◌, ◌<◌, ◌+◌, ◌-◌, ◌*◌}
use native.Mathlib.Omega.{arith}
use native.Mathlib.Numerals.{add-one}
use borrow.Author.Tests.{eq-eqb, ne_eqb, not-true, not-false}
use lib.Dec.{eqb}
use lib.ListN.{length, drop}
use Rattle.octets.specs.Pick.{pick, both}
use Rattle.octets.specs.Octets.{octet, every}
use Rattle.octets.specs.Text.{is_digit, is_number, decimal_from, onto_first, pieces}
use Rattle.octets.specs.Inner.Answers.{clip, grow_of}
use Rattle.octets.proofs.Laws.{rest-cons, rest-none}
use Rattle.octets.proofs.TextLaws.{every-nil, every-cons, decimal-nil, decimal-cons, number-nil, number-cons, pieces-nil, pieces-cons}
use Rattle.octets.proofs.Steps.{grow_clip}
use Rattle.der.specs.Dotted.{every_number}
use Rattle.der.proofs.DottedLaws.{numbers-nil, numbers-cons}
use Rattle.dotted.specs.Inner.Arcs.{after_digit, is_formed, numbers_after, add_digit, arc_of, arc_from, arc_at, rest_pieces}
use Rattle.dotted.specs.declared.Form.{Form}
use Rattle.dotted.specs.declared.Digits.{Digits}
use Rattle.dotted.specs.declared.Arc.{Arc}

-- ---- the loop
pub arc_start : (t : List ℕ) (at : ℕ) → arc_from (record { size = Some 0; form = Form.Empty }) (drop at t) at ≡ arc_at t at
unfolding arc_at
arc_start t at = refl

module _ (t : List ℕ) (at i : ℕ) (d : Digits) (inv : arc_from d (drop i t) i ≡ arc_at t at) where
  pub arc_done : (r : Arc) → length t ≤ i → r ≡ arc_of d None → r ≡ arc_at t at
  unfolding arc_from
  arc_done r h e = e ∙ (rw (rest-none t i h) at inv)

  module _ (h : i < length t) where
    step : arc_from d (octet t i ∷ drop (i + 1) t) i ≡ arc_at t at
    step = sym (ap (λ (l : List ℕ). arc_from d l i) (rest-cons t i h)) ∙ inv

    pub arc_dot : (r : Arc) → octet t i ≡ 46 → r ≡ arc_of d (Some (i + 1)) → r ≡ arc_at t at
    unfolding arc_from
    arc_dot r q e = e ∙ (rw (eq-eqb (octet t i) 46 q) at step)

    pub arc_more : (g : Digits) → (octet t i ≡ 46 → ⊥) → g ≡ add_digit d (octet t i) → arc_from g (drop (i + 1) t) (i + 1) ≡ arc_at t at
    unfolding arc_from
    arc_more g q e = ap (λ (x : Digits). arc_from x (drop (i + 1) t) (i + 1)) e ∙ (rw (ne_eqb (octet t i) 46 q) at step)

-- ---- the form of digits is that of a number
unfoldable pub form_from : Form → List ℕ → Form
form_from f [] = f
form_from f (b ∷ s) = form_from (after_digit f b) s

broken-stays : (s : List ℕ) → is_formed (form_from Form.Broken s) ≡ false
unfolding after_digit form_from
broken-stays [] = refl
broken-stays (b ∷ s) = broken-stays s

digits-form : (s : List ℕ) → is_formed (form_from Form.Number s) ≡ every is_digit s
unfolding after_digit form_from
digits-form [] = sym (every-nil is_digit)
digits-form (b ∷ s) = go (is_digit b) (digits-form s) ∙ sym (every-cons is_digit b s)
  where
    go : (t : Bool) → is_formed (form_from Form.Number s) ≡ every is_digit s → is_formed (form_from (pick t Form.Number Form.Broken) s) ≡ pick t (every is_digit s) false
    go true e = e
    go false e = broken-stays s

zero_form : (s : List ℕ) → is_formed (form_from Form.Zero s) ≡ eqb (length s) 0
unfolding after_digit form_from
zero_form [] = refl
zero_form (b ∷ s) = broken-stays s ∙ sym (ne_eqb (suc (length s)) 0 (λ e. omega arith))

number-form : (s : List ℕ) → is_formed (form_from Form.Empty s) ≡ is_number s
unfolding after_digit form_from
number-form [] = sym number-nil
number-form (b ∷ s) = go (eqb b 48) (is_digit b) ∙ sym (number-cons b s)
  where
    go : (u t : Bool) → is_formed (form_from (pick u Form.Zero (pick t Form.Number Form.Broken)) s) ≡ pick u (eqb (length s) 0) (pick t (every is_digit s) false)
    go true t = zero_form s
    go false true = digits-form s
    go false false = broken-stays s

-- ---- the arcs of a text, octet by octet
-- the first piece of a text and those after it; after digits of a form
pub record Cut (s : List ℕ) : Type 0 where
  pub piece : List ℕ
  pub others : List (List ℕ)
  pub is : pieces s ≡ piece ∷ others
  pub numbers : (f : Form) → numbers_after f s ≡ both (is_formed (form_from f piece)) (every_number others)

cut_numbers : (s : List ℕ) → Cut s → numbers_after Form.Empty s ≡ every_number (pieces s)
cut_numbers s c =
    c.numbers Form.Empty ∙ ap (λ (b : Bool). both b (every_number c.others)) (number-form c.piece) ∙ sym (numbers-cons c.piece c.others)
    ∙ ap every_number (sym c.is)

pub cut : (s : List ℕ) → Cut s
unfolding numbers_after form_from
cut [] = record { piece = []; others = []; is = pieces-nil; numbers = λ f. rw numbers-nil (whole (is_formed f)) }
  where
    whole : (b : Bool) → b ≡ both b true
    whole true = refl
    whole false = refl
cut (b ∷ s) = go (cut s) (eqb b 46) refl (pieces-cons b s)
  where
    go : Cut s → (u : Bool) → eqb b 46 ≡ u → pieces (b ∷ s) ≡ pick u ([] ∷ pieces s) (onto_first b (pieces s)) → Cut (b ∷ s)
    go c true e q = record {
      piece = [];
      others = pieces s;
      is = q;
      numbers = λ f. rw e (ap (both (is_formed f)) (cut_numbers s c));
    }
    go c false e q = record {
      piece = b ∷ c.piece;
      others = c.others;
      is = q ∙ ap (onto_first b) c.is;
      numbers = λ f. rw e (c.numbers (after_digit f b));
    }

pub numbers-start : (t : List ℕ) (at : ℕ) → numbers_after Form.Empty (drop at t) ≡ every_number (pieces (drop at t))
numbers-start t at = cut_numbers (drop at t) (cut (drop at t))

module _ (t : List ℕ) (i : ℕ) (f : Form) (m : Bool) (inv : numbers_after f (drop i t) ≡ m) where
  pub numbers-done : (r : Bool) → length t ≤ i → r ≡ is_formed f → r ≡ m
  unfolding numbers_after
  numbers-done r h e = e ∙ (rw (rest-none t i h) at inv)

  module _ (h : i < length t) where
    on : numbers_after f (octet t i ∷ drop (i + 1) t) ≡ m
    on = sym (ap (numbers_after f) (rest-cons t i h)) ∙ inv

    module _ (u : Bool) (told : u ≡ is_formed f) (q : octet t i ≡ 46) where
      pub numbers-bad : not u ≡ true → false ≡ m
      unfolding numbers_after
      numbers-bad e = rw (eq-eqb (octet t i) 46 q, sym told ∙ not-true u e) at on

      pub numbers_next : (g : Form) → not u ≡ false → g ≡ Form.Empty → numbers_after g (drop (i + 1) t) ≡ m
      unfolding numbers_after
      numbers_next g e z = rw z (rw (eq-eqb (octet t i) 46 q, sym told ∙ not-false u e) at on)

    pub numbers_longer : (g r : Form) → (octet t i ≡ 46 → ⊥) → g ≡ r → r ≡ after_digit f (octet t i) → numbers_after g (drop (i + 1) t) ≡ m
    unfolding numbers_after
    numbers_longer g r q z e = rw (z, e) (rw (ne_eqb (octet t i) 46 q) at on)

-- ---- the piece that an arc stands in, after digits that stand for n, of form f
record Piece (ps : List (List ℕ)) (n : ℕ) (f : Form) (t : List ℕ) (arc : Arc) : Type 0 where
  pub piece : List ℕ
  pub is : ps ≡ piece ∷ rest_pieces t arc.next
  pub clipped : arc.size ≡ clip (decimal_from n piece)
  pub formed : arc.formed ≡ is_formed (form_from f piece)

drop_next : (b : ℕ) (bs t : List ℕ) (at : ℕ) → b ∷ bs ≡ drop at t → bs ≡ drop (at + 1) t
drop_next b bs [] zero e = cc
drop_next b bs [] (suc at) e = absurd (let z : ◌≡◌ {A = ℕ} 0 (suc (length bs)) = ap length (sym e) in omega arith)
drop_next b bs (x ∷ t) zero e = cc
drop_next b bs (x ∷ t) (suc at) e = drop_next b bs t at e ∙ rw (add-one, add-one)

piece_of : (t : List ℕ) (n : ℕ) (d : Digits) (l : List ℕ) (at : ℕ) → d.size ≡ clip n → l ≡ drop at t → Piece (pieces l) n d.form t (arc_from d l at)
unfolding arc_from rest_pieces form_from
piece_of t n d [] at c e = record { piece = []; is = pieces-nil; clipped = c ∙ ap clip (sym (decimal-nil n)); formed = refl }
piece_of t n d (b ∷ bs) at c e =
    go (piece_of t (n * 10 + (b - 48)) (add_digit d b) bs (at + 1) (ap (λ (z : Option ℕ). grow_of z (b - 48)) c ∙ grow_clip n (b - 48)) tail) (eqb b 46) (pieces-cons b bs)
  where
    tail : bs ≡ drop (at + 1) t
    tail = drop_next b bs t at e

    go : Piece (pieces bs) (n * 10 + (b - 48)) (after_digit d.form b) t (arc_from (add_digit d b) bs (at + 1)) → (u : Bool)
        → pieces (b ∷ bs) ≡ pick u ([] ∷ pieces bs) (onto_first b (pieces bs))
        → Piece (pieces (b ∷ bs)) n d.form t (pick u (arc_of d (Some (at + 1))) (arc_from (add_digit d b) bs (at + 1)))
    go more true q = record { piece = []; is = q ∙ ap (λ (x : List ℕ). [] ∷ pieces x) tail; clipped = c ∙ ap clip (sym (decimal-nil n)); formed = refl }
    go more false q = record {
      piece = b ∷ more.piece;
      is = q ∙ ap (onto_first b) more.is;
      clipped = more.clipped ∙ ap clip (sym (decimal-cons n b more.piece));
      formed = more.formed;
    }

-- the arc at a place: its piece, the pieces after it, its number and form
pub record Headed (t : List ℕ) (at : ℕ) (arc : Arc) : Type 0 where
  pub piece : List ℕ
  pub is : pieces (drop at t) ≡ piece ∷ rest_pieces t arc.next
  pub clipped : arc.size ≡ clip (decimal_from 0 piece)
  pub formed : arc.formed ≡ is_number piece

pub arc_headed : (t : List ℕ) (at : ℕ) (arc : Arc) → arc ≡ arc_at t at → Headed t at arc
unfolding arc_at
arc_headed t at arc e = rw e (go (piece_of t 0 (record { size = Some 0; form = Form.Empty }) (drop at t) at refl refl))
  where
    go : Piece (pieces (drop at t)) 0 Form.Empty t (arc_from (record { size = Some 0; form = Form.Empty }) (drop at t) at)
        → Headed t at (arc_from (record { size = Some 0; form = Form.Empty }) (drop at t) at)
    go p = record { piece = p.piece; is = p.is; clipped = p.clipped; formed = p.formed ∙ number-form p.piece }
