-- What the readers of a filter make of octets q that are the quoted form of a text.
use Rattle.std.specs.Prelude.{Result, Ok}
use Rattle.std.specs.Prelude.{ℕ, suc, ◌+◌, ◌≡◌, Bool, true, false, List, [], ◌∷◌, ◌++◌, length, take, drop, replicate}
use Rattle.std.specs.Prelude.{Option, Some}
use Rattle.octets.specs.Pick.{◌>>=◌}
use Rattle.octets.specs.Octets.{bytes}
use Rattle.octets.specs.Text.{starts}
use Rattle.octets.specs.Utf8.{utf8}
use Rattle.octets.specs.Quoted.{unquoted}
use Rattle.strings.specs.Asserted.{is_text, asserted_text}
use Rattle.assertion.specs.Item.{Item}
use Rattle.assertion.specs.Spaces.{label_at, mark_at, open_brace, close_brace}
use Rattle.assertion.specs.ValueText.{brace_from, value_text_at}
use Rattle.assertion.specs.Assertion.{Read, read_to, component_at, defaults_at, rule_at, assertion_at}
use Rattle.filter.specs.Filter.{item}
use Rattle.filter.specs.Parse.{filter_from, whole}
use Rattle.quote.specs.declared.QuoteError.{QuoteError}

-- so many spaces, a closing brace, and any octets
abbrev pub closed_by : ℕ → List ℕ → List ℕ
closed_by spaces after = replicate spaces 32 ++ (close_brace ∷ after)

-- ---- an assertion before its value text
pub record Opening : Type 0 where
  pub component : Option (List ℕ)
  pub defaults : Bool
  pub rule : List ℕ

-- its parts up to the label `value`, and the place where the value text begins
unfoldable pub opening_at : List ℕ → ℕ → Option (Read Opening)
opening_at s at = do
  p ← mark_at open_brace s at
  c ← component_at s p
  d ← defaults_at s c.after
  r ← rule_at s d.after
  v ← label_at (bytes "value") s r.after
  read_to (record { component = c.is; defaults = d.is; rule = r.is }) v

abbrev pub item_with : Opening → List ℕ → Item
item_with o value = record { component = o.component; defaults = o.defaults; rule = o.rule; value = value }

-- ---- what q is read as
pub record ReadsAs (text q : List ℕ) : Type 0 where
  -- they are one quoted string, and its characters are the text
  pub back : unquoted q ≡ Some text
  -- so for the rules on strings they conform, and assert the text
  pub conforms : is_text q ≡ true
  pub asserts : asserted_text q ≡ text
  -- the search for the brace that ends a value text goes on behind them as it was before them, with as many braces open inside and out of quotes
  pub passed : (after : List ℕ) (at inner : ℕ) → brace_from (q ++ after) at inner false ≡ brace_from after (at + length q) inner false
  -- where they stand as a value text behind any octets, they are the value text that is read, and the brace behind them ends it
  pub value : (before after : List ℕ) (spaces : ℕ)
      → value_text_at (before ++ (q ++ closed_by spaces after)) (length before) ≡ Some (record { text = q; brace = length before + (length q + spaces) })
  -- where an assertion is open up to its value text, which a quote is to begin, q as that text makes an item with this value; the item ends behind the
  -- brace behind q
  pub assertion : (before after : List ℕ) (at spaces : ℕ) (o : Opening) → opening_at (before ++ (34 ∷ [])) at ≡ read_to o (length before)
      → assertion_at (before ++ (q ++ closed_by spaces after)) at ≡ read_to (item_with o q) (length before + (length q + spaces) + 1)
  -- and where `item:` stands before that assertion, the filter that is read there is this item, in lists and under `not` too (n bounds the calls)
  pub filter : (n : ℕ) (before after : List ℕ) (at spaces : ℕ) (o : Opening) → starts (bytes "item:") (drop at before) ≡ true
      → opening_at (before ++ (34 ∷ [])) (at + 5) ≡ read_to o (length before)
      → filter_from (suc n) (before ++ (q ++ closed_by spaces after)) at ≡ read_to (item (item_with o q)) (length before + (length q + spaces) + 1)
  -- they are whole characters: behind valid UTF-8, what follows decides whether all is
  pub characters : (before after : List ℕ) → utf8 before ≡ true → utf8 (before ++ (q ++ after)) ≡ utf8 after
  -- a filter of one item that is made so is this item
  pub alone : (before : List ℕ) (spaces : ℕ) (o : Opening) → utf8 before ≡ true → starts (bytes "item:") before ≡ true
      → opening_at (before ++ (34 ∷ [])) 5 ≡ read_to o (length before) → whole (before ++ (q ++ closed_by spaces [])) ≡ Some (item (item_with o q))

-- the octets that were written
pub record Reads (answer : Result ℕ QuoteError) (text memory : List ℕ) : Type 0 where
  pub written : (n : ℕ) → answer ≡ Ok n → ReadsAs text (take n memory)
