-- One licence record: P1..P12 as one table under one statement, and the "Run only" cases as another.
use Rattle.std.specs.Prelude.{◌≡◌, refl, true, List, [], ◌∷◌, ◌++◌, map, ℕ, replicate}
use Prim.Native.String.{String}
use Rattle.octets.specs.Octets.{bytes, hex}
use Rattle.types.specs.Paper.{licence}
use Rattle.value.specs.Paper.{licence_record}
use Rattle.rules.specs.Rule.{known_rules}
use Rattle.engine.specs.Paper.{limits}
use Rattle.evaluation.specs.Truth.{Truth, TRUE, FALSE, UNDEFINED}
use Rattle.engine.specs.Answer as answer
use Rattle.engine.specs.Listing as listing
use Rattle.engine.specs.Computing.{engine_computes}

-- a filter put with a budget, or a reference listed with defaults into a room of so many numbers
pub data Question : Type 0 where
  asks : List ℕ → ℕ → Question
  lists : String → ℕ → Question

-- the answer to a filter; or the listing's, with the room afterwards
pub data Reply : Type 0 where
  answered : answer.Report → Reply
  listed : listing.Listing → Reply

abbrev pub truth : Truth → ℕ → Reply
truth u n = answered (answer.answers u n)

abbrev pub refusal : ℕ → Reply
refusal n = answered (answer.refused n)

-- so many values, and what the room holds
abbrev pub room : ℕ → List ℕ → Reply
room n memory = listed (record { report = listing.lists n; memory = memory })

-- a refusal, with the room as it was
abbrev pub no_room : ℕ → ℕ → Reply
no_room n size = listed (listing.refused_list n (replicate size 99))

-- what the definitions say of the licence table and a record; a room is lent full of the number 99
unfoldable pub reply_for : List ℕ → Question → Reply
reply_for v (asks f budget) = answered (answer.ask_report limits known_rules licence v f budget)
reply_for v (lists r n) = listed (listing.list_report limits licence v true (bytes r) true (replicate n 99))

pub record Row : Type 0 where
  pub question : Question
  pub reply : Reply

-- an assertion's filter text: reference, rule, value
abbrev pub put : String → String → String → List ℕ
put reference rule value = bytes "item:{component \"" ++ bytes reference ++ bytes "\",rule " ++ bytes rule ++ bytes ",value " ++ bytes value ++ bytes "}"

-- the same with defaults off
abbrev pub put_without : String → String → String → List ℕ
put_without reference rule value =
    bytes "item:{component \"" ++ bytes reference ++ bytes "\",useDefaultValues FALSE,rule " ++ bytes rule ++ bytes ",value " ++ bytes value ++ bytes "}"

abbrev pub ask : List ℕ → Truth → ℕ → Row
ask f u n = record { question = asks f 65535; reply = truth u n }

abbrev pub paper : List Row
paper =
    -- P1 to P4
    ask (put "parts.*.copies" "integerMatch" "3") TRUE 2
    ∷ ask (put "parts.*.copies" "integerMatch" "7") FALSE 2
    ∷ ask (put_without "parts.*.copies" "integerMatch" "1") FALSE 1
    ∷ ask (put "parts.*.copies" "integerOrderingMatch" "2") TRUE 1
    -- P5, P6
    ∷ ask (put "event" "integerMatch" "3") UNDEFINED 0
    ∷ ask (bytes "not:" ++ put "event" "integerMatch" "3") UNDEFINED 0
    -- P7, P8
    ∷ ask (bytes "and:{ }") TRUE 0
    ∷ ask (bytes "or:{ }") FALSE 0
    -- P9, P10
    ∷ ask (put "seats" "integerMatch" "9223372036854775808") FALSE 1
    ∷ ask (put "parts.3" "presentMatch" "NULL") FALSE 0
    -- P11, P12
    ∷ record { question = lists "parts.*.copies" 8; reply = room 2 (1 ∷ 8 ∷ 9 ∷ 0 ∷ 20 ∷ 3 ∷ 99 ∷ 99 ∷ []) }
    ∷ record { question = lists "parts.0" 4; reply = room 1 (2 ∷ 6 ∷ 2 ∷ 99 ∷ []) }
    ∷ []

abbrev pub question_of : Row → Question
question_of r = r.question

abbrev pub reply_of : Row → Reply
reply_of r = r.reply

-- a table holds of a record: each question has the reply that stands beside it
abbrev pub Holds : List ℕ → List Row → Type 0
Holds v rows = map (reply_for v) (map question_of rows) ≡ map reply_of rows

pub p1_to_p12 : Holds licence_record paper
unfolding engine_computes reply_for
p1_to_p12 = refl

-- "Run only": with budget 1, P1 is refused 5; room of 5 numbers for P11 is refused 6; 6 is enough
abbrev pub run_only : List Row
run_only =
    record { question = asks (put "parts.*.copies" "integerMatch" "3") 1; reply = refusal 5 }
    ∷ record { question = asks (put "parts.*.copies" "integerMatch" "3") 2; reply = truth TRUE 2 }
    ∷ record { question = lists "parts.*.copies" 5; reply = no_room 6 5 }
    ∷ record { question = lists "parts.*.copies" 6; reply = room 2 (1 ∷ 8 ∷ 9 ∷ 0 ∷ 20 ∷ 3 ∷ []) }
    ∷ []

pub run_only_lem : Holds licence_record run_only
unfolding engine_computes reply_for
run_only_lem = refl

-- a stored `02 01 01` for seats is refused 4; another number there is not
abbrev pub stored_default : List ℕ
stored_default = hex "30180C026531020101300F30041302566C300713025661800103"

abbrev pub stored_other : List ℕ
stored_other = hex "30180C026531020102300F30041302566C300713025661800103"

pub stored-default : Holds stored_default (record { question = asks (put "seats" "presentMatch" "NULL") 65535; reply = refusal 4 } ∷ [])
unfolding engine_computes reply_for
stored-default = refl

pub stored_other_lem : Holds stored_other (ask (put "seats" "presentMatch" "NULL") TRUE 1 ∷ [])
unfolding engine_computes reply_for
stored_other_lem = refl
