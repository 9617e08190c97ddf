-- Computed examples.
use Rattle.std.specs.Prelude.{◌≡◌, refl, Bool, true, false, List, [], ◌∷◌, ◌++◌, map, ℕ, zero, suc}
use Rattle.std.specs.Prelude.{Option, None, Some}
use Prim.Native.String.{String}
use Rattle.octets.specs.Pick.{is_some}
use Rattle.octets.specs.Octets.{bytes, hex}
use Rattle.filter.specs.Filter.{Item, and, or, Filter, item, list, inverse, end_filters, next}
use Rattle.filter.specs.Parse.{parse}
use Rattle.filter.specs.Paper.{filter_limits}
use Rattle.filter.specs.Computing.{filter_computes}

-- ---- contents of an item
read : String → Option (Filter Item)
read s = parse filter_limits (bytes s)

one : read "item:{component \"parts.*.copies\",rule integerMatch,value 3}"
    ≡ Some (item (record { component = Some (bytes "parts.*.copies"); defaults = true; rule = bytes "integerMatch"; value = bytes "3" }))
unfolding filter_computes read
one = refl

full : read "item:{ component  \"a\"\"b\",  useDefaultValues FALSE, rule 2.5.13.14,   value   { x \"}\" }   }"
    ≡ Some (item (record { component = Some (bytes "a\"b"); defaults = false; rule = bytes "2.5.13.14"; value = bytes "{ x \"}\" }" }))
unfolding filter_computes read
full = refl

lists : read "and:{ item:{rule x,value 1},  not:or:{} }"
    ≡ Some (list and (next (item (record { component = None; defaults = true; rule = bytes "x"; value = bytes "1" }))
    (next (inverse (list or end_filters)) end_filters)))
unfolding filter_computes read
lists = refl

-- ---- good or not
is_good : String → Bool
is_good s = is_some (read s)

-- spaces: none; after `{`; after `,`; before `}`; more than one after a label; in empty lists
spaces_may : map is_good ("item:{rule x,value 1}" ∷ "item:{ rule x,value 1}" ∷ "item:{rule x, value 1}" ∷ "item:{rule x,value 1 }" ∷ "item:{rule  x,value  1}"
    ∷ "and:{}" ∷ "and:{ }" ∷ "or:{  }"
    ∷ "and:{ or:{}, or:{} }" ∷ "item:{useDefaultValues TRUE,rule x,value 1}" ∷ [])
    ≡ true ∷ true ∷ true ∷ true ∷ true ∷ true ∷ true ∷ true ∷ true ∷ true ∷ []
unfolding filter_computes read is_good
spaces_may = refl

-- before `,`; after `item:`, `and:`, `not:`; around the text; none after a label, even before a quote or a brace; a tabulator
spaces_may_not : map is_good ("item:{rule x ,value 1}" ∷ "and:{or:{} ,or:{}}" ∷ "item: {rule x,value 1}" ∷ "and: {}" ∷ "not: and:{}" ∷ " and:{}" ∷ "and:{} "
    ∷ "and :{}"
    ∷ "item:{component\"a\",rule x,value 1}" ∷ "item:{rule x,value\"a\"}" ∷ "item:{rule x,value{}}" ∷ "item:{component \"a\" ,rule x,value 1}"
    ∷ "item:{useDefaultValues TRUE ,rule x,value 1}" ∷ "and:{\tor:{}}" ∷ [])
    ≡ false ∷ false ∷ false ∷ false ∷ false ∷ false ∷ false ∷ false ∷ false ∷ false ∷ false ∷ false ∷ false ∷ false ∷ []
unfolding filter_computes read is_good
spaces_may_not = refl

-- order and completeness of the parts; case; commas; trailing text; braces
forms : map is_good ("item:{useDefaultValues FALSE,component \"a\",rule x,value 1}" ∷ "item:{rule x,useDefaultValues FALSE,value 1}" ∷ "item:{value 1,rule x}"
    ∷ "item:{rule x}" ∷ "item:{value 1}" ∷ "item:{}"
    ∷ "Item:{rule x,value 1}" ∷ "item:{Rule x,value 1}" ∷ "item:{useDefaultValues true,rule x,value 1}" ∷ "and:{or:{},}" ∷ "and:{,or:{}}"
    ∷ "and:{or:{} or:{}}" ∷ "and:{}x" ∷ "and:{" ∷ "and:}" ∷ "not:" ∷ "" ∷ "x" ∷ [])
    ≡ false ∷ false ∷ false ∷ false ∷ false ∷ false ∷ false ∷ false ∷ false ∷ false ∷ false ∷ false ∷ false ∷ false ∷ false ∷ false ∷ false ∷ false ∷ []
unfolding filter_computes read is_good
forms = refl

-- the value text: empty; spaces alone; with a comma; braces in pairs; a brace in quotes; doubled quotes; an unclosed quote; single quotes hide nothing
values : map is_good ("item:{rule x,value }" ∷ "item:{rule x,value   }" ∷ "item:{rule x,value 3, x}" ∷ "item:{rule x,value {{}{}}}"
    ∷ "item:{rule x,value \"}\"}" ∷ "item:{rule x,value \"a\"\"}\"}"
    ∷ "item:{rule x,value \"a}" ∷ "item:{rule x,value '}'}" ∷ "item:{rule x,value {}" ∷ [])
    ≡ false ∷ false ∷ true ∷ true ∷ true ∷ true ∷ false ∷ false ∷ false ∷ []
unfolding filter_computes read is_good
values = refl

-- rules: unknown names and OIDs are of good form; malformed ones are not
rules : map is_good ("item:{rule noSuchRule,value 1}" ∷ "item:{rule a-,value 1}" ∷ "item:{rule a--b9,value 1}" ∷ "item:{rule 2.5.13.999,value 1}"
    ∷ "item:{rule 2.18446744073709551616,value 1}"
    ∷ "item:{rule 3.1,value 1}" ∷ "item:{rule 1.40,value 1}" ∷ "item:{rule 2,value 1}" ∷ "item:{rule 2.05,value 1}" ∷ "item:{rule 9a,value 1}"
    ∷ "item:{rule a_b,value 1}" ∷ "item:{rule -a,value 1}" ∷ "item:{rule ,value 1}" ∷ [])
    ≡ true ∷ true ∷ true ∷ true ∷ true ∷ false ∷ false ∷ false ∷ false ∷ false ∷ false ∷ false ∷ false ∷ []
unfolding filter_computes read is_good
rules = refl

-- the component: empty, and any text, is of good form; unclosed, and bare, it is not
components : map is_good ("item:{component \"\",rule x,value 1}" ∷ "item:{component \"(..)} {\",rule x,value 1}" ∷ "item:{component \"a,rule x,value 1}"
    ∷ "item:{component a,rule x,value 1}" ∷ [])
    ≡ true ∷ true ∷ false ∷ false ∷ []
unfolding filter_computes read is_good
components = refl

-- valid UTF-8 all over
utf8_texts : map (λ s. is_some (parse filter_limits s)) ((bytes "item:{rule x,value \"" ++ hex "C3A9" ++ bytes "\"}") ∷ (bytes "item:{rule x,value \""
    ++ hex "C3" ++ bytes "\"}") ∷ [])
    ≡ true ∷ false ∷ []
unfolding filter_computes
utf8_texts = refl

-- ---- depth and items
nots : ℕ → List ℕ → List ℕ
nots zero s = s
nots (suc n) s = bytes "not:" ++ nots n s

braces : ℕ → List ℕ → List ℕ
braces zero s = s
braces (suc n) s = bytes "and:{" ++ braces n s ++ bytes "}"

-- an item or empty list is 1, `not` and a list add 1: depth 16 and 17
depths : map (λ s. is_some (parse filter_limits s)) (nots 15 (bytes "and:{}") ∷ nots 16 (bytes "and:{}") ∷ braces 15 (bytes "item:{rule x,value 1}")
    ∷ braces 16 (bytes "item:{rule x,value 1}") ∷ braces 16 [] ∷ braces 17 [] ∷ [])
    ≡ true ∷ false ∷ true ∷ false ∷ true ∷ false ∷ []
unfolding filter_computes nots braces
depths = refl

-- 64 and 65 items
many : ℕ → List ℕ → List ℕ
many zero s = s
many (suc n) s = bytes "item:{rule x,value 1}," ++ many n s

counts : map (λ s. is_some (parse filter_limits s)) ((bytes "or:{" ++ many 63 (bytes "item:{rule x,value 1}}")) ∷ (bytes "or:{"
    ++ many 64 (bytes "item:{rule x,value 1}}")) ∷ [])
    ≡ true ∷ false ∷ []
unfolding filter_computes many
counts = refl
