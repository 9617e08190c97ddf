-- Computed examples of comparing names (document 02, Q-3): each by the asserted text, and by the operand that is made of it.
use Rattle.std.specs.Prelude.{◌≡◌, refl, Bool, true, false, List, [], ◌∷◌, ◌++◌, map, ℕ, length}
use Rattle.std.specs.Prelude.{Option, None, Some}
use Prim.Native.String.{String}
use Rattle.octets.specs.Octets.{bytes, hex}
use Rattle.names.specs.Rfc4514.{distinguished_name, relative_distinguished_name}
use Rattle.names.specs.Compared.{stored_rdn, stored_name, same_rdn, same_name, mapped, asserted_name, asserted_rdn}
use Rattle.names.specs.Inner.Operand.{rdn_octets, name_octets, operand_rdn, operand_name}
use Rattle.namematch.specs.Computing.{matching_computes}

-- ---- stored: a pair by the contents of its attribute type, the tag octet of its value and the value; an RDN by its pairs, a name by its RDNs
abbrev element : ℕ → List ℕ → List ℕ
element o c = o ∷ length c ∷ c

abbrev pair : String → ℕ → String → List ℕ
pair t o v = element 0x30 (element 6 (hex t) ++ element o (bytes v))

abbrev cn : String → List ℕ
cn v = pair "550403" 12 v

abbrev joined : List (List ℕ) → List ℕ
joined [] = []
joined (c ∷ cs) = c ++ joined cs

abbrev rdn : List (List ℕ) → List ℕ
rdn ps = element 0x31 (joined ps)

-- ---- asked: by the text and by the operand
abbrev names : List (List ℕ) → List String → List (Option Bool)
names rs ts = map (λ t. mapped (same_name (stored_name (joined rs))) (asserted_name (bytes t))) ts

abbrev names_by_operand : List (List ℕ) → List String → List (Option Bool)
names_by_operand rs ts = map (λ t. mapped (λ l. same_name (stored_name (joined rs)) (operand_name (name_octets l))) (distinguished_name (bytes t))) ts

abbrev rdns : List (List ℕ) → List String → List (Option Bool)
rdns ps ts = map (λ t. mapped (same_rdn (stored_rdn (joined ps))) (asserted_rdn (bytes t))) ts

abbrev rdns_by_operand : List (List ℕ) → List String → List (Option Bool)
rdns_by_operand ps ts = map (λ t. mapped (λ l. same_rdn (stored_rdn (joined ps)) (operand_rdn (rdn_octets l))) (relative_distinguished_name (bytes t))) ts

abbrev Asked : List (List ℕ) → List String → List (Option Bool) → Type 0
Asked rs ts answers = (names rs ts ≡ answers) × (names_by_operand rs ts ≡ answers)

abbrev AskedRdn : List (List ℕ) → List String → List (Option Bool) → Type 0
AskedRdn ps ts answers = (rdns ps ts ≡ answers) × (rdns_by_operand ps ts ≡ answers)

-- the text has the last RDN first; also of another length
order : Asked
    (rdn (pair "550406" 19 "AU" ∷ []) ∷ rdn (pair "55040A" 12 "Adacel" ∷ []) ∷ rdn (cn "Steven Legg" ∷ []) ∷ [])
    ("2.5.4.3=steven  legg,2.5.4.10=Adacel,2.5.4.6=AU" ∷ "2.5.4.6=AU,2.5.4.10=Adacel,2.5.4.3=Steven Legg" ∷ "2.5.4.10=Adacel,2.5.4.6=AU" ∷ "" ∷ [])
    (Some true ∷ Some false ∷ Some false ∷ Some false ∷ [])
unfolding matching_computes
order = (refl, refl)

-- an attribute type twice, in any order
twice : AskedRdn (cn "a" ∷ cn "b" ∷ []) ("2.5.4.3=b+2.5.4.3=a" ∷ "2.5.4.3=a+2.5.4.3=b" ∷ "2.5.4.3=b+2.5.4.3=b" ∷ "2.5.4.3=a+2.5.4.4=b" ∷ [])
    (Some true ∷ Some true ∷ Some false ∷ Some false ∷ [])
unfolding matching_computes
twice = (refl, refl)

-- equal pairs are used up one by one
equals : AskedRdn (cn "a" ∷ cn "a" ∷ []) ("2.5.4.3=a+2.5.4.3=A" ∷ "2.5.4.3=a" ∷ "2.5.4.3=a+2.5.4.3=b" ∷ "2.5.4.3=a+2.5.4.3=a+2.5.4.3=a" ∷ [])
    (Some true ∷ Some false ∷ Some false ∷ Some false ∷ [])
unfolding matching_computes
equals = (refl, refl)

-- empty values
empty-value : AskedRdn (cn " " ∷ []) ("2.5.4.3=" ∷ "2.5.4.3=a" ∷ []) (Some true ∷ Some false ∷ [])
unfolding matching_computes
empty-value = (refl, refl)

-- an arc above 2^32 conforms, and equals no stored one
large_arc : AskedRdn (cn "a" ∷ []) ("2.5.4.4294967299=a" ∷ "2.5.4.3=a" ∷ "1.40=a" ∷ []) (Some false ∷ Some true ∷ None ∷ [])
unfolding matching_computes
large_arc = (refl, refl)

-- a name without RDNs; one RDN has a pair at least
no-rdn : Asked [] ("" ∷ "2.5.4.3=a" ∷ []) (Some true ∷ Some false ∷ [])
unfolding matching_computes
no-rdn = (refl, refl)

no-pair : AskedRdn [] ("" ∷ "2.5.4.3=a" ∷ []) (None ∷ Some false ∷ [])
unfolding matching_computes
no-pair = (refl, refl)

-- the kind of a stored string doesn't matter
kinds : (AskedRdn (pair "550403" 12 "a" ∷ []) ("2.5.4.3=A" ∷ []) (Some true ∷ []))
    × (AskedRdn (pair "550403" 19 "a" ∷ []) ("2.5.4.3=A" ∷ []) (Some true ∷ []))
    × (AskedRdn (pair "550403" 22 "a" ∷ []) ("2.5.4.3=A" ∷ []) (Some true ∷ []))
unfolding matching_computes
kinds = ((refl, refl), (refl, refl), (refl, refl))

-- four pairs in several orders
four : AskedRdn (cn "a" ∷ cn "b" ∷ pair "550404" 12 "a" ∷ pair "55040A" 19 "a" ∷ [])
    ("2.5.4.3=a+2.5.4.3=b+2.5.4.4=a+2.5.4.10=a" ∷ "2.5.4.10=a+2.5.4.4=a+2.5.4.3=b+2.5.4.3=a" ∷ "2.5.4.4=a+2.5.4.3=b+2.5.4.10=a+2.5.4.3=a"
    ∷ "2.5.4.4=a+2.5.4.3=b+2.5.4.10=a+2.5.4.3=b" ∷ "2.5.4.4=b+2.5.4.3=b+2.5.4.10=a+2.5.4.3=a" ∷ "2.5.4.3=a+2.5.4.3=b+2.5.4.4=a" ∷ [])
    (Some true ∷ Some true ∷ Some true ∷ Some false ∷ Some false ∷ Some false ∷ [])
unfolding matching_computes
four = (refl, refl)
