-- Document 02, Q-3: a licence filed under its holder's directory name, put to the entries.
use Rattle.std.specs.Prelude.{◌≡◌, refl, true, List, [], ◌∷◌, ◌++◌, map, ℕ}
use Prim.Native.String.{String}
use Rattle.octets.specs.Octets.{bytes, hex}
use Rattle.types.specs.Paper.{member_row}
use Rattle.rules.specs.Rule.{known_rules}
use Rattle.engine.specs.Paper.{limits}
use Rattle.evaluation.specs.Truth.{TRUE, FALSE, UNDEFINED}
use Rattle.engine.specs.Answer.{Report, answers, refused, ask_report}
use Rattle.engine.specs.Computing.{engine_computes}
use Rattle.demands.specs.Licence.{put}
use Rattle.demands.specs.Shown.{shown_table, shown_value, shown_list}

-- SEQUENCE { event UTF8String, holder RDNSequence, hall [0] IMPLICIT RelativeDistinguishedName OPTIONAL }
abbrev holders_table : List ℕ
holders_table = 12 ∷ 3 ∷ member_row "event" 4 0 0 0 [] ++ member_row "holder" 5 0 0 0 [] ++ member_row "hall" 6 2 0 1 [] ++ 8 ∷ 19 ∷ 20 ∷ []

-- the RDN c=AU; the pairs o=Élan and cn=Ann Lee
abbrev country : List ℕ
country = hex "310B3009060355040613024155"

abbrev organization : List ℕ
organization = hex "300C060355040A0C05C3896C616E"

abbrev person : List ℕ
person = hex "300E06035504030C07" ++ bytes "Ann Lee"

-- { event "Gala", holder c=AU, o=Élan + cn=Ann Lee, hall cn=Hall }
abbrev gala : List ℕ
gala = hex "30440C0447616C61302D" ++ country ++ hex "311E" ++ organization ++ person ++ hex "A00D300B0603550403160448616C6C"

-- the record; with the two pairs exchanged; with no RDNs; with an RDN of no pairs
pub holders_good : shown_table holders_table ∷ map (shown_value holders_table) (gala
    ∷ (hex "30350C0447616C61302D" ++ country ++ hex "311E" ++ person ++ organization) ∷ hex "30080C0447616C613000" ∷ hex "300A0C0447616C6130023100" ∷ [])
    ≡ (0 ∷ 7 ∷ []) ∷ (0 ∷ []) ∷ (4 ∷ []) ∷ (0 ∷ []) ∷ (4 ∷ []) ∷ []
unfolding engine_computes
holders_good = refl

unfoldable pub asks : String → String → String → Report
asks reference rule value = ask_report limits known_rules holders_table gala (put reference rule value) 65535

-- the name, its pairs in the other order and in other letters; its RDNs not turned; a pair left out; a name of a type; the rule of RDNs
pub holder_asked : map (asks "holder" "distinguishedNameMatch") ("\"2.5.4.10=\\C3\\89lan+2.5.4.3=Ann Lee,2.5.4.6=AU\""
    ∷ "\"2.5.4.3=ANN  LEE+2.5.4.10=\\c3\\a9lan,2.5.4.6=au\"" ∷ "\"2.5.4.6=AU,2.5.4.10=\\C3\\89lan+2.5.4.3=Ann Lee\"" ∷ "\"2.5.4.3=Ann Lee,2.5.4.6=AU\""
    ∷ "\"cn=Ann Lee,2.5.4.6=AU\"" ∷ "2.5.4.6=AU" ∷ [])
    ++ asks "holder" "rdnMatch" "\"2.5.4.6=AU\"" ∷ asks "holder" "presentMatch" "NULL" ∷ []
    ≡ answers TRUE 1 ∷ answers TRUE 1 ∷ answers FALSE 1 ∷ answers FALSE 1 ∷ answers UNDEFINED 0 ∷ answers UNDEFINED 0 ∷ answers UNDEFINED 0
    ∷ answers TRUE 1 ∷ []
unfolding engine_computes asks
holder_asked = refl

-- the hall, with an implicit tag; no reference goes inside a name; a quote that isn't closed
pub hall_asked : map (asks "hall" "rdnMatch") ("\"2.5.4.3=HALL\"" ∷ "\"2.5.4.3=Halls\"" ∷ "\"\"" ∷ "\"2.5.4.3=Hall" ∷ [])
    ++ asks "hall" "distinguishedNameMatch" "\"2.5.4.3=Hall\"" ∷ asks "holder.-1" "rdnMatch" "\"2.5.4.6=AU\"" ∷ []
    ≡ answers TRUE 1 ∷ answers FALSE 1 ∷ answers UNDEFINED 0 ∷ refused 3 ∷ answers UNDEFINED 0 ∷ answers UNDEFINED 0 ∷ []
unfolding engine_computes asks
hall_asked = refl

-- listed: each is one value, at its own tag; what would be inside is refused
pub holders_listed : map (λ r. shown_list holders_table gala true (bytes r) true 3) ("holder" ∷ "hall" ∷ "holder.1" ∷ "hall.*" ∷ [])
    ≡ (0 ∷ 1 ∷ 0 ∷ 8 ∷ 47 ∷ []) ∷ (0 ∷ 1 ∷ 0 ∷ 55 ∷ 15 ∷ []) ∷ (3 ∷ []) ∷ (3 ∷ []) ∷ []
unfolding engine_computes
holders_listed = refl
