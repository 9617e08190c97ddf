-- "The assertion has optional `component` (quoted, `""` for a quote), optional `useDefaultValues` (TRUE or FALSE; TRUE if missing), `rule`,
-- `value`, in that order."
use Rattle.std.specs.Prelude.{ℕ, ◌+◌, ◌-◌, Bool, true, false, List, [], ◌∷◌, drop, eqb}
use Rattle.std.specs.Prelude.{Option, None, Some}
use Rattle.octets.specs.Pick.{pick, both, either, ◌>>=◌}
use Rattle.octets.specs.Octets.{part, every, bytes}
use Rattle.octets.specs.Text.{is_letter, is_alnum, starts}
use Rattle.octets.specs.Quoted.{closing_at, characters}
use Rattle.der.specs.Dotted.{is_dotted}
use Rattle.assertion.specs.Item.{Item}
use Rattle.assertion.specs.Spaces.{label_at, mark_at, comma, open_brace}
use Rattle.assertion.specs.ValueText.{ValueText, value_text_at}

-- a part of an assertion, and the place after it
pub record Read (A : Type 0) : Type 0 where
  pub is : A
  pub after : ℕ

abbrev pub read_to : {A : Type 0} → A → ℕ → Option (Read A)
read_to a after = Some (record { is = a; after = after })

-- a part that a comma and the next part follow
abbrev pub followed : {A : Type 0} → List ℕ → ℕ → A → Option (Read A)
followed s at a = do
  p ← mark_at comma s at
  read_to a p

-- a part that may be missing: f reads it behind its label
abbrev pub if_labelled : {A : Type 0} → A → ℕ → (ℕ → Option (Read A)) → Option ℕ → Option (Read A)
if_labelled missing at f None = read_to missing at
if_labelled missing at f (Some p) = f p

-- ---- `component`
abbrev pub quoted_part : List ℕ → ℕ → Option (Read (Option (List ℕ)))
quoted_part s at = do
  close ← closing_at s at
  followed s (close + 1) (Some (characters s at close))

unfoldable pub component_at : List ℕ → ℕ → Option (Read (Option (List ℕ)))
component_at s at = if_labelled None at (quoted_part s) (label_at (bytes "component") s at)

-- ---- `useDefaultValues`
abbrev pub truth_part : List ℕ → ℕ → Option (Read Bool)
truth_part s at =
    pick (starts (bytes "TRUE") (drop at s)) (followed s (at + 4) true)
    (pick (starts (bytes "FALSE") (drop at s)) (followed s (at + 5) false)
    None)

unfoldable pub defaults_at : List ℕ → ℕ → Option (Read Bool)
defaults_at s at = if_labelled true at (truth_part s) (label_at (bytes "useDefaultValues") s at)

-- ---- `rule`: "a dotted OID (as under Rules) or a name (a letter, then letters, digits, hyphens ..)", up to the comma
abbrev pub is_name_letter : ℕ → Bool
is_name_letter b = either (is_alnum b) (eqb b 45)

unfoldable pub is_rule_name : List ℕ → Bool
is_rule_name [] = false
is_rule_name (b ∷ s) = both (is_letter b) (every is_name_letter s)

unfoldable pub is_rule : List ℕ → Bool
is_rule t = either (is_rule_name t) (is_dotted t)

-- the place of the first comma of a text that stands at a place
unfoldable pub comma_from : List ℕ → ℕ → Option ℕ
comma_from [] at = None
comma_from (b ∷ s) at = let r = comma_from s (at + 1) in pick (eqb b comma) (Some at) r

unfoldable pub rule_at : List ℕ → ℕ → Option (Read (List ℕ))
rule_at s at = do
  p ← label_at (bytes "rule") s at
  end ← comma_from (drop p s) p
  pick (is_rule (part s p (end - p))) (followed s end (part s p (end - p))) None

-- ---- `value`, which the closing brace follows
unfoldable pub value_at : List ℕ → ℕ → Option ValueText
value_at s at = do
  p ← label_at (bytes "value") s at
  value_text_at s p

-- ---- a braced assertion: the four parts in order
unfoldable pub assertion_at : List ℕ → ℕ → Option (Read Item)
assertion_at s at = do
  p ← mark_at open_brace s at
  c ← component_at s p
  d ← defaults_at s c.after
  r ← rule_at s d.after
  v ← value_at s r.after
  read_to (record { component = c.is; defaults = d.is; rule = r.is; value = v.text }) (v.brace + 1)
