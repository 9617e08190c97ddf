-- Computed examples: the licence table, and for each clause of "Admitted" tables that break only that clause.
use Rattle.std.specs.Prelude.{◌≡◌, refl, Bool, true, false, List, [], ◌∷◌, ◌++◌, map, ℕ, zero, suc, length, set, take, replicate}
use Prim.Native.String.{String}
use Rattle.rows.specs.Paper.{table_limits}
use Rattle.types.specs.Paper.{member_row, long_row, bit_row, rights, licence}
use Rattle.rows.specs.Row.{rows}
use Rattle.types.specs.Types.{type_at}
use Rattle.types.specs.Begins.{begins}
use Rattle.clauses.specs.Clauses.{every_row, whole_rows, body_formed, first_is_type, points_later, followers_stand, names_differ, numbers_differ}
use Rattle.clauses.specs.Clauses.{alternatives_mandatory, no_implicit_choice, default_legal, chain_fits}
use Rattle.types.specs.Admitted.{tags_differ}
use Rattle.types.specs.Check.{TableReport, refused, admits, table_report}
use Rattle.types.specs.Computing.{table_computes}

-- "206 bytes"
licence-octets : length licence ≡ 206
licence-octets = refl

licence-admitted : table_report table_limits licence ≡ admits 12
unfolding table_computes
licence-admitted = refl

abbrev answer : List ℕ → TableReport
answer t = table_report table_limits t

-- the clauses, each on its own
clauses_of : List ℕ → List ℕ → List Bool
clauses_of t s =
    whole_rows 128 s ∷ every_row (body_formed 16 t s) s ∷ first_is_type t s ∷ every_row (points_later t s) s ∷ followers_stand t s ∷ every_row (names_differ t s) s
    ∷ every_row (alternatives_mandatory t s) s ∷ every_row (no_implicit_choice t s) s ∷ every_row (default_legal t s) s ∷ every_row (chain_fits 16 t s) s ∷ every_row
    (tags_differ 16 t s) s
    ∷ every_row (numbers_differ t s) s ∷ []

clauses : List ℕ → List Bool
clauses t = clauses_of t (rows 128 t)

-- all hold but the n-th, from 0
abbrev all_but : ℕ → List Bool
all_but n = set (replicate 12 true) n false

-- a mandatory, untagged member
abbrev plain : String → ℕ → List ℕ
plain name type = member_row name type 0 0 0 []

-- a SEQUENCE of one member, of the type in row 2, which is an INTEGER
abbrev one : List ℕ → List ℕ
one m = 12 ∷ 1 ∷ m ++ 2 ∷ []

-- the same of two members, of the types in rows 3 and 4
abbrev pair : ℕ → List ℕ → List ℕ → List ℕ → List ℕ
pair k m n types = k ∷ 2 ∷ m ++ n ++ types

-- ---- bodies as the type table has them (clause 1)
abbrev sixteen : List ℕ
sixteen = plain "a" 17 ++ plain "b" 17 ++ plain "c" 17 ++ plain "d" 17 ++ plain "e" 17 ++ plain "f" 17 ++ plain "g" 17 ++ plain "h" 17
    ++ plain "i" 17 ++ plain "j" 17 ++ plain "k" 17 ++ plain "l" 17 ++ plain "m" 17 ++ plain "n" 17 ++ plain "o" 17 ++ plain "p" 17

abbrev seventeen : List ℕ
seventeen = plain "a" 18 ++ plain "b" 18 ++ plain "c" 18 ++ plain "d" 18 ++ plain "e" 18 ++ plain "f" 18 ++ plain "g" 18 ++ plain "h" 18
    ++ plain "i" 18 ++ plain "j" 18 ++ plain "k" 18 ++ plain "l" 18 ++ plain "m" 18 ++ plain "n" 18 ++ plain "o" 18 ++ plain "p" 18 ++ plain "q" 18

-- 17 members; no alternative; names that start with a capital or a digit, have two hyphens, end in a hyphen, fill with another octet, end in a
-- hyphen at 24, are empty; tag mode 3; number 31; a number in mode 0; presence 3; a default's fill
bodies : map clauses ((12 ∷ 17 ∷ seventeen ++ 2 ∷ []) ∷ (13 ∷ 0 ∷ [])
    ∷ one (plain "Ab" 2) ∷ one (plain "1b" 2) ∷ one (plain "a--b" 2) ∷ one (plain "a-" 2) ∷ one (set (plain "a" 2) 5 97) ∷ one (plain "abcdefghijklmnopqrstuvw-" 2) ∷ one (plain "" 2)
    ∷ one (member_row "a" 2 3 0 0 []) ∷ one (member_row "a" 2 1 31 0 []) ∷ one (member_row "a" 2 0 1 0 []) ∷ one (member_row "a" 2 0 0 3 []) ∷ one (set (member_row "a" 2 0 0 2 (1 ∷ [])) 32 1) ∷ [])
    ≡ all_but 1 ∷ all_but 1
    ∷ all_but 1 ∷ all_but 1 ∷ all_but 1 ∷ all_but 1 ∷ all_but 1 ∷ all_but 1 ∷ all_but 1
    ∷ all_but 1 ∷ all_but 1 ∷ all_but 1 ∷ all_but 1 ∷ all_but 1 ∷ []
unfolding table_computes clauses clauses_of
bodies = refl

-- 16 members, a name of 24 letters, one with single hyphens, numbers 0 and 30
formed : map answer ((12 ∷ 16 ∷ sixteen ++ 2 ∷ []) ∷ one (plain "abcdefghijklmnopqrstuvwx" 2) ∷ one (plain "a-B-9" 2) ∷ one (member_row "a" 2 1 30 0 []) ∷ one (member_row "a" 2 2 0 1 []) ∷ (12 ∷ 0 ∷ []) ∷ [])
    ≡ admits 18 ∷ admits 3 ∷ admits 3 ∷ admits 3 ∷ admits 3 ∷ admits 1 ∷ []
unfolding table_computes
formed = refl

-- ---- clauses 0 and 2: a last row that is cut off, an unknown kind, 129 rows: there is then no row 0; a member in row 0 stands after no SEQUENCE
whole : map answer ((14 ∷ 0 ∷ []) ∷ (17 ∷ []) ∷ (0 ∷ []) ∷ replicate 128 2 ∷ replicate 129 2 ∷ [] ∷ (plain "a" 1 ++ 2 ∷ []) ∷ [])
    ≡ refused 2 ∷ refused 2 ∷ refused 2 ∷ admits 128 ∷ refused 2 ∷ refused 1 ∷ refused 2 ∷ []
unfolding table_computes
whole = refl

-- ---- clause 3: an element in an earlier row; in a member's row; a member's type in a member's row
later : map clauses ((2 ∷ 14 ∷ 0 ∷ 0 ∷ []) ∷ (14 ∷ 0 ∷ 2 ∷ one (plain "a" 3)) ∷ (12 ∷ 2 ∷ plain "a" 2 ++ plain "b" 3 ++ 2 ∷ []) ∷ [])
    ≡ all_but 3 ∷ all_but 3 ∷ all_but 3 ∷ []
unfolding table_computes clauses clauses_of
later = refl

-- ---- clause 4: a member more than its SEQUENCE has
standing : clauses (12 ∷ 1 ∷ plain "a" 3 ++ plain "b" 3 ++ 2 ∷ []) ≡ all_but 4
unfolding table_computes clauses clauses_of
standing = refl

-- ---- clause 5: one name twice; names that differ in case are two
names : clauses (pair 12 (plain "a" 3) (plain "a" 4) (1 ∷ 2 ∷ [])) ∷ clauses (pair 12 (plain "ab" 3) (plain "aB" 4)
    (1 ∷ 2 ∷ [])) ∷ [] ≡ all_but 5 ∷ replicate 12 true ∷ []
unfolding table_computes clauses clauses_of
names = refl

-- ---- clause 6: an optional alternative
alternatives : clauses (13 ∷ 1 ∷ member_row "a" 2 0 0 1 [] ++ 2 ∷ []) ≡ all_but 6
unfolding table_computes clauses clauses_of
alternatives = refl

-- ---- clause 7: an implicit tag on a CHOICE; an explicit one is good
implicits : clauses (12 ∷ 1 ∷ member_row "a" 2 2 0 0 [] ++ 13 ∷ 1 ∷ plain "b" 4 ++ 2 ∷ []) ∷ clauses (12 ∷ 1 ∷ member_row "a" 2 1 0 0 [] ++ 13 ∷ 1 ∷ plain "b" 4 ++ 2 ∷ []) ∷ []
    ≡ all_but 7 ∷ replicate 12 true ∷ []
unfolding table_computes clauses clauses_of
implicits = refl

-- ---- clause 8: a default of a string, of an INTEGER that is not shortest, of none, a length without presence 2; of BOOLEAN 01
defaults : map clauses ((12 ∷ 1 ∷ member_row "a" 2 0 0 2 (97 ∷ []) ++ 8 ∷ []) ∷ one (member_row "a" 2 0 0 2 (0 ∷ 1 ∷ [])) ∷ one (member_row "a" 2 0 0 2 [])
    ∷ one (member_row "a" 2 0 0 0 (1 ∷ [])) ∷ (12 ∷ 1 ∷ member_row "a" 2 0 0 2 (1 ∷ []) ++ 1 ∷ []) ∷ [])
    ≡ all_but 8 ∷ all_but 8 ∷ all_but 8 ∷ all_but 8 ∷ all_but 8 ∷ []
unfolding table_computes clauses clauses_of
defaults = refl

-- ---- clause 9: chains of 16 and 17 type rows: SEQUENCE OFs, each of the next row, from row i on, above other rows
lists_above : List ℕ → ℕ → ℕ → List ℕ
lists_above rest i zero = rest
lists_above rest i (suc n) = 14 ∷ 0 ∷ suc i ∷ lists_above rest (suc i) n

chains : clauses (lists_above (2 ∷ []) 0 15) ∷ clauses (lists_above (2 ∷ []) 0 16) ∷ [] ≡ replicate 12 true ∷ all_but 9 ∷ []
unfolding table_computes clauses clauses_of lists_above
chains = refl

-- ---- clause 10: alternatives of one tag; `[0]` explicit and implicit; SEQUENCE and SEQUENCE OF; an untagged CHOICE that shares a tag
alternative-tags : map clauses (pair 13 (plain "a" 3) (plain "b" 4) (2 ∷ 2 ∷ []) ∷ pair 13 (member_row "a" 3 1 0 0 []) (member_row "b" 4 2 0 0 []) (1 ∷ 2 ∷ [])
    ∷ pair 13 (plain "a" 3) (plain "b" 4) (12 ∷ 0 ∷ 14 ∷ 0 ∷ 5 ∷ 2 ∷ []) ∷ pair 13 (plain "a" 3) (plain "b" 5) (13 ∷ 1 ∷ plain "c" 5 ++ 2 ∷ []) ∷ [])
    ≡ all_but 10 ∷ all_but 10 ∷ all_but 10 ∷ all_but 10 ∷ []
unfolding table_computes clauses clauses_of
alternative-tags = refl

-- a run: an optional member and the mandatory one after it; two optional ones; an optional one after a mandatory one is none
run-tags : map clauses (pair 12 (member_row "a" 3 0 0 1 []) (plain "b" 4) (2 ∷ 2 ∷ []) ∷ pair 12 (member_row "a" 3 0 0 1 []) (member_row "b" 4 0 0 1 []) (2 ∷ 2 ∷ [])
    ∷ pair 12 (plain "a" 3) (member_row "b" 4 0 0 1 []) (2 ∷ 2 ∷ []) ∷ pair 12 (plain "a" 3) (plain "b" 4) (2 ∷ 2 ∷ []) ∷ [])
    ≡ all_but 10 ∷ all_but 10 ∷ replicate 12 true ∷ replicate 12 true ∷ []
unfolding table_computes clauses clauses_of
run-tags = refl

-- a run goes to its mandatory member, past optional ones in between, and ends there
abbrev run : ℕ → List ℕ
run presence = 12 ∷ 3 ∷ member_row "a" 4 0 0 1 [] ++ member_row "b" 5 0 0 presence [] ++ plain "c" 6 ++ 2 ∷ 1 ∷ 2 ∷ []

run_ends : map clauses (run 1 ∷ run 0 ∷ []) ≡ all_but 10 ∷ replicate 12 true ∷ []
unfolding table_computes clauses clauses_of
run_ends = refl

-- an untagged CHOICE of a CHOICE begins with the tags of all alternatives: universal 2 and 1, context 3
abbrev nested : List ℕ
nested = 13 ∷ 2 ∷ plain "a" 3 ++ member_row "b" 6 1 3 0 [] ++ 13 ∷ 2 ∷ plain "c" 6 ++ plain "d" 7 ++ 2 ∷ 1 ∷ []

nested-begins : table_report table_limits nested ≡ admits 8
unfolding table_computes
nested-begins = refl

nested-tags : map (begins (type_at table_limits nested 0)) (1 ∷ 2 ∷ 3 ∷ 35 ∷ 34 ∷ []) ≡ true ∷ true ∷ false ∷ true ∷ false ∷ []
unfolding table_computes
nested-tags = refl

-- ---- document 02, Q-2: BIT STRING with names
named-bits : answer rights ≡ admits 4
unfolding table_computes
named-bits = refl

-- one name, and 16; numbers in any order; names that differ in case; two lists with the same names
abbrev seventeen_bits : List ℕ
seventeen_bits = bit_row "a" 0 ++ bit_row "b" 1 ++ bit_row "c" 2 ++ bit_row "d" 3 ++ bit_row "e" 4 ++ bit_row "f" 5 ++ bit_row "g" 6 ++ bit_row "h" 7 ++ bit_row "i" 8
    ++ bit_row "j" 9 ++ bit_row "k" 10 ++ bit_row "l" 11 ++ bit_row "m" 12 ++ bit_row "n" 13 ++ bit_row "o" 14 ++ bit_row "p" 63 ++ bit_row "q" 62

bits-admitted : map answer ((17 ∷ 1 ∷ bit_row "a" 63) ∷ (17 ∷ 16 ∷ take 416 seventeen_bits) ∷ (17 ∷ 2 ∷ bit_row "ab" 5 ++ bit_row "aB" 0)
    ∷ (17 ∷ 1 ∷ bit_row "a" 0 ++ 17 ∷ 1 ∷ bit_row "a" 0) ∷ [])
    ≡ admits 2 ∷ admits 17 ∷ admits 3 ∷ admits 4 ∷ []
unfolding table_computes
bits-admitted = refl

-- bodies: no name, 17 names, number 64, a name with a capital first
bit_bodies : map clauses ((17 ∷ 0 ∷ []) ∷ (17 ∷ 17 ∷ seventeen_bits) ∷ (17 ∷ 1 ∷ bit_row "a" 64) ∷ (17 ∷ 1 ∷ bit_row "A" 0) ∷ [])
    ≡ all_but 1 ∷ all_but 1 ∷ all_but 1 ∷ all_but 1 ∷ []
unfolding table_computes clauses clauses_of
bit_bodies = refl

-- one name too few, one too many, one behind a SEQUENCE's members, a member where a name is due, one behind another row
bits-stand : map clauses ((17 ∷ 2 ∷ bit_row "a" 1) ∷ (17 ∷ 1 ∷ bit_row "a" 0 ++ bit_row "b" 1) ∷ (12 ∷ 1 ∷ plain "a" 3 ++ bit_row "b" 0 ++ 2 ∷ [])
    ∷ (17 ∷ 1 ∷ plain "a" 2 ++ 2 ∷ []) ∷ (17 ∷ 1 ∷ 2 ∷ bit_row "a" 0) ∷ [])
    ≡ all_but 4 ∷ all_but 4 ∷ all_but 4 ∷ all_but 4 ∷ all_but 4 ∷ []
unfolding table_computes clauses clauses_of
bits-stand = refl

-- a name twice; a number twice; a row that names a bit's; a default; 7 and 17 untagged in one CHOICE
bits-agree : map clauses ((17 ∷ 2 ∷ bit_row "a" 0 ++ bit_row "a" 1) ∷ (17 ∷ 3 ∷ bit_row "a" 7 ++ bit_row "b" 1 ++ bit_row "c" 7) ∷
    (14 ∷ 0 ∷ 2 ∷ 17 ∷ 1 ∷ bit_row "a" 0)
    ∷ (12 ∷ 1 ∷ member_row "a" 2 0 0 2 (0 ∷ []) ++ 17 ∷ 1 ∷ bit_row "b" 0) ∷ pair 13 (plain "a" 3) (plain "b" 4) (7 ∷ 17 ∷ 1 ∷ bit_row "c" 0) ∷ [])
    ≡ all_but 5 ∷ all_but 11 ∷ all_but 3 ∷ all_but 8 ∷ all_but 10 ∷ []
unfolding table_computes clauses clauses_of
bits-agree = refl

-- chains: 15 and 16 lists above it
bit_chains : map clauses (lists_above (17 ∷ 1 ∷ bit_row "a" 0) 0 15 ∷ lists_above (17 ∷ 1 ∷ bit_row "a" 0) 0 16 ∷ []) ≡ replicate 12 true ∷ all_but 9 ∷ []
unfolding table_computes clauses clauses_of lists_above
bit_chains = refl

-- ---- document 02, Q-3: RDNSequence and RDN
-- in row 0; with a body of one octet, which is then a row of no kind; as elements; as members, untagged, with an explicit and an implicit tag; optional
names-admitted : map answer ((19 ∷ []) ∷ (20 ∷ []) ∷ (19 ∷ 0 ∷ []) ∷ (14 ∷ 0 ∷ 1 ∷ 19 ∷ []) ∷ (15 ∷ 0 ∷ 1 ∷ 20 ∷ [])
    ∷ (12 ∷ 1 ∷ plain "a" 2 ++ 19 ∷ []) ∷ (12 ∷ 1 ∷ member_row "a" 2 1 0 0 [] ++ 20 ∷ []) ∷ (12 ∷ 1 ∷ member_row "a" 2 2 1 0 [] ++ 19 ∷ [])
    ∷ (12 ∷ 1 ∷ member_row "a" 2 2 30 1 [] ++ 20 ∷ []) ∷ [])
    ≡ admits 1 ∷ admits 1 ∷ refused 2 ∷ admits 2 ∷ admits 2 ∷ admits 3 ∷ admits 3 ∷ admits 3 ∷ admits 3 ∷ []
unfolding table_computes
names-admitted = refl

-- in one CHOICE, untagged: 19 with a SEQUENCE, with a SEQUENCE OF; 20 with a SET OF; 19 with 20, which have two tags; and 19 optional before a SEQUENCE
name-tags : map clauses (pair 13 (plain "a" 3) (plain "b" 4) (19 ∷ 12 ∷ 0 ∷ []) ∷ pair 13 (plain "a" 3) (plain "b" 4) (19 ∷ 14 ∷ 0 ∷ 5 ∷ 2 ∷ [])
    ∷ pair 13 (plain "a" 3) (plain "b" 4) (20 ∷ 15 ∷ 0 ∷ 5 ∷ 2 ∷ []) ∷ pair 13 (plain "a" 3) (plain "b" 4) (19 ∷ 20 ∷ [])
    ∷ pair 12 (member_row "a" 3 0 0 1 []) (plain "b" 4) (19 ∷ 12 ∷ 0 ∷ []) ∷ [])
    ≡ all_but 10 ∷ all_but 10 ∷ all_but 10 ∷ replicate 12 true ∷ all_but 10 ∷ []
unfolding table_computes clauses clauses_of
name-tags = refl

-- a default of either; 15 and 16 lists above one
name-defaults : map clauses ((12 ∷ 1 ∷ member_row "a" 2 0 0 2 (0 ∷ []) ++ 19 ∷ []) ∷ (12 ∷ 1 ∷ member_row "a" 2 0 0 2 (0 ∷ []) ++ 20 ∷ []) ∷ [])
    ≡ all_but 8 ∷ all_but 8 ∷ []
unfolding table_computes clauses clauses_of
name-defaults = refl

name_chains : map clauses (lists_above (19 ∷ []) 0 15 ∷ lists_above (19 ∷ []) 0 16 ∷ lists_above (20 ∷ []) 0 15 ∷ lists_above (20 ∷ []) 0 16 ∷ [])
    ≡ replicate 12 true ∷ all_but 9 ∷ replicate 12 true ∷ all_but 9 ∷ []
unfolding table_computes clauses clauses_of lists_above
name_chains = refl

-- ---- document 02, Q-4: members with long names
-- a mandatory, untagged one
abbrev long : String → ℕ → List ℕ
long name type = long_row name type 0 0 0 []

-- a row has 63 octets; 29, 25 and 48 letters; beside a short name that it begins with, in both orders; an alternative; tagged, optional, with a default
long-admitted : map answer (one (long "educationalConcessionCategory" 2) ∷ one (long "abcdefghijklmnopqrstuvwxy" 2)
    ∷ one (long "abcdefghijklmnopqrstuvwxyabcdefghijklmnopqrstuvw" 2)
    ∷ pair 12 (plain "abcdefghijklmnopqrstuvwx" 3) (long "abcdefghijklmnopqrstuvwxy" 4) (1 ∷ 2 ∷ [])
    ∷ pair 12 (long "abcdefghijklmnopqrstuvwxy" 3) (plain "abcdefghijklmnopqrstuvwx" 4) (1 ∷ 2 ∷ [])
    ∷ (13 ∷ 1 ∷ long "educationalConcessionCategory" 2 ++ 2 ∷ []) ∷ one (long_row "educationalConcessionCategory" 2 1 30 0 [])
    ∷ one (long_row "educationalConcessionCategory" 2 2 0 1 []) ∷ one (long_row "educationalConcessionCategory" 2 0 0 2 (1 ∷ [])) ∷ [])
    ≡ admits 3 ∷ admits 3 ∷ admits 3 ∷ admits 5 ∷ admits 5 ∷ admits 3 ∷ admits 3 ∷ admits 3 ∷ admits 3 ∷ []
unfolding table_computes
long-admitted = refl

long-octets : length (long "educationalConcessionCategory" 2) ≡ 63
long-octets = refl

-- bodies: 24 letters, and one; no name; a capital first; a hyphen last, at 25 and at 48; two hyphens; another octet behind the fill; tag mode 3; a default's
-- fill
long_bodies : map clauses (one (long "abcdefghijklmnopqrstuvwx" 2) ∷ one (long "a" 2) ∷ one (long "" 2) ∷ one (long "EducationalConcessionCategory" 2)
    ∷ one (long "abcdefghijklmnopqrstuvwx-" 2) ∷ one (long "abcdefghijklmnopqrstuvwxyabcdefghijklmnopqrstuv-" 2)
    ∷ one (long "educational--ConcessionCategory" 2) ∷ one (set (long "educationalConcessionCategory" 2) 40 97)
    ∷ one (long_row "educationalConcessionCategory" 2 3 0 0 []) ∷ one (set (long_row "educationalConcessionCategory" 2 0 0 2 (1 ∷ [])) 56 1) ∷ [])
    ≡ replicate 10 (all_but 1)
unfolding table_computes clauses clauses_of
long_bodies = refl

-- names that differ in the 48th letter, and in none; a row of kind 21 behind no SEQUENCE or CHOICE, in the place of a bit's name, and as an element
long-names : map clauses (pair 12 (long "abcdefghijklmnopqrstuvwxyabcdefghijklmnopqrstuvw" 3)
    (long "abcdefghijklmnopqrstuvwxyabcdefghijklmnopqrstuvx" 4) (1 ∷ 2 ∷ [])
    ∷ pair 12 (long "educationalConcessionCategory" 3) (long "educationalConcessionCategory" 4) (1 ∷ 2 ∷ [])
    ∷ (12 ∷ 1 ∷ plain "a" 3 ++ long "educationalConcessionCategory" 3 ++ 2 ∷ []) ∷ (17 ∷ 1 ∷ long "educationalConcessionCategory" 2 ++ 2 ∷ [])
    ∷ (14 ∷ 0 ∷ 2 ∷ one (long "educationalConcessionCategory" 3)) ∷ [])
    ≡ replicate 12 true ∷ all_but 5 ∷ all_but 4 ∷ all_but 4 ∷ all_but 3 ∷ []
unfolding table_computes clauses clauses_of
long-names = refl

-- sizes: 4,993 and 8,064 octets that are no table, 8,065
sizes : map answer (replicate 4993 2 ∷ replicate 8064 2 ∷ replicate 8065 2 ∷ []) ≡ refused 2 ∷ refused 2 ∷ refused 1 ∷ []
unfolding table_computes
sizes = refl
