-- Q-1, the image of a character: "Mend the preparation for characters up to U+017F: its Map step (case folding from RFC 3454 table B.2 for
-- caseIgnoreMatch, no-break space, U+0009 to U+000D and U+0085 to a space, soft hyphen and other controls to nothing) and the NFKC form of single
-- characters from Unicode 3.2." Characters are numbers here (code points), and a character that no row has stands for itself.
use Rattle.std.specs.Prelude.{ℕ, ◌+◌, ◌-◌, ◌/◌, ◌%◌, Bool, List, [], ◌∷◌, ◌++◌, map, ltb, eqb}
use Rattle.octets.specs.Pick.{pick, both}
use Rattle.octets.specs.Text.{within}

-- what a character turns into: itself, nothing, a space to be trimmed and joined, the character so many above or below it, or some characters; a space
-- among those is one "that NFKC puts before a combining mark", which is neither trimmed nor joined
pub data Image : Type 0 where
  itself : Image
  nothing : Image
  space : Image
  above : ℕ → Image
  below : ℕ → Image
  characters : List ℕ → Image

-- the characters from first to last, each (1) or every second (2), and what they turn into for caseIgnoreMatch and for caseExactMatch
pub record Row : Type 0 where
  pub first : ℕ
  pub last : ℕ
  pub every : ℕ
  pub folded : Image
  pub exact : Image

-- one character, and characters one after another, with the same image for both rules; those that are folded alone
abbrev one : ℕ → Image → Row
one c i = record { first = c; last = c; every = 1; folded = i; exact = i }

abbrev run : ℕ → ℕ → Image → Row
run a b i = record { first = a; last = b; every = 1; folded = i; exact = i }

abbrev folded_run : ℕ → ℕ → ℕ → Image → Row
folded_run a b n i = record { first = a; last = b; every = n; folded = i; exact = itself }

abbrev folded_one : ℕ → Image → Row
folded_one c i = folded_run c c 1 i

-- both: the first image for caseIgnoreMatch, the second for caseExactMatch
abbrev twofold : ℕ → List ℕ → List ℕ → Row
twofold c f e = record { first = c; last = c; every = 1; folded = characters f; exact = characters e }

-- The table. "map": RFC 4518 section 2.2, controls and spaces; "B.2": folding, RFC 3454; "NFKC": the compatibility form in Unicode 3.2, of the
-- character folded by B.2 or as it is
unfoldable pub table : List Row
table =
    run 0x0000 0x0008 nothing  -- map: controls
    ∷ run 0x0009 0x000D space  -- map: tabulations and line ends
    ∷ run 0x000E 0x001F nothing  -- map: controls
    ∷ one 0x0020 space  -- map: space
    ∷ folded_run 0x0041 0x005A 1 (above 32)  -- B.2: A to Z
    ∷ run 0x007F 0x0084 nothing  -- map: controls
    ∷ one 0x0085 space  -- map: next line
    ∷ run 0x0086 0x009F nothing  -- map: controls
    ∷ one 0x00A0 space  -- map: no-break space
    ∷ one 0x00A8 (characters (0x0020 ∷ 0x0308 ∷ []))  -- NFKC: diaeresis
    ∷ one 0x00AA (characters (0x0061 ∷ []))  -- NFKC: feminine ordinal, a
    ∷ one 0x00AD nothing  -- map: soft hyphen
    ∷ one 0x00AF (characters (0x0020 ∷ 0x0304 ∷ []))  -- NFKC: macron
    ∷ run 0x00B2 0x00B3 (below 128)  -- NFKC: superscripts 2, 3
    ∷ one 0x00B4 (characters (0x0020 ∷ 0x0301 ∷ []))  -- NFKC: acute accent
    ∷ one 0x00B5 (characters (0x03BC ∷ []))  -- B.2 and NFKC: micro sign, Greek mu
    ∷ one 0x00B8 (characters (0x0020 ∷ 0x0327 ∷ []))  -- NFKC: cedilla
    ∷ one 0x00B9 (characters (0x0031 ∷ []))  -- NFKC: superscript 1
    ∷ one 0x00BA (characters (0x006F ∷ []))  -- NFKC: masculine ordinal, o
    ∷ one 0x00BC (characters (0x0031 ∷ 0x2044 ∷ 0x0034 ∷ []))  -- NFKC: one quarter
    ∷ one 0x00BD (characters (0x0031 ∷ 0x2044 ∷ 0x0032 ∷ []))  -- NFKC: one half
    ∷ one 0x00BE (characters (0x0033 ∷ 0x2044 ∷ 0x0034 ∷ []))  -- NFKC: three quarters
    ∷ folded_run 0x00C0 0x00D6 1 (above 32)  -- B.2
    ∷ folded_run 0x00D8 0x00DE 1 (above 32)  -- B.2
    ∷ folded_one 0x00DF (characters (0x0073 ∷ 0x0073 ∷ []))  -- B.2: sharp s
    ∷ folded_run 0x0100 0x012E 2 (above 1)  -- B.2
    ∷ folded_one 0x0130 (characters (0x0069 ∷ 0x0307 ∷ []))  -- B.2: I with dot above
    ∷ twofold 0x0132 (0x0069 ∷ 0x006A ∷ []) (0x0049 ∷ 0x004A ∷ [])  -- B.2 and NFKC: ligature IJ
    ∷ one 0x0133 (characters (0x0069 ∷ 0x006A ∷ []))  -- NFKC: ligature ij
    ∷ folded_run 0x0134 0x0136 2 (above 1)  -- B.2
    ∷ folded_run 0x0139 0x013D 2 (above 1)  -- B.2
    ∷ twofold 0x013F (0x006C ∷ 0x00B7 ∷ []) (0x004C ∷ 0x00B7 ∷ [])  -- B.2 and NFKC: L with middle dot
    ∷ one 0x0140 (characters (0x006C ∷ 0x00B7 ∷ []))  -- NFKC: l with middle dot
    ∷ folded_run 0x0141 0x0147 2 (above 1)  -- B.2
    ∷ one 0x0149 (characters (0x02BC ∷ 0x006E ∷ []))  -- B.2 and NFKC: n preceded by apostrophe
    ∷ folded_run 0x014A 0x0176 2 (above 1)  -- B.2
    ∷ folded_one 0x0178 (below 121)  -- B.2: Y with diaeresis
    ∷ folded_run 0x0179 0x017D 2 (above 1)  -- B.2
    ∷ one 0x017F (characters (0x0073 ∷ []))  -- B.2 and NFKC: long s
    ∷ []

-- a row has a character
abbrev pub has : Row → ℕ → Bool
has r c = both (within r.first r.last c) (eqb ((c - r.first) % r.every) 0)

-- the image of a character by the first row that has it
unfoldable pub image_in : List Row → Bool → ℕ → Image
image_in [] fold c = itself
image_in (r ∷ rs) fold c =
    let rest = image_in rs fold c in
    pick (has r c) (pick fold r.folded r.exact) rest

-- the characters of an image; a space to be joined is U+0020 here
abbrev pub characters_of : ℕ → Image → List ℕ
characters_of c itself = c ∷ []
characters_of c nothing = []
characters_of c space = 0x0020 ∷ []
characters_of c (above n) = (c + n) ∷ []
characters_of c (below n) = (c - n) ∷ []
characters_of c (characters l) = l

-- the characters that a character turns into
abbrev pub characters_in : Bool → ℕ → List ℕ
characters_in fold c = characters_of c (image_in table fold c)

-- ---- in UTF-8: the octets of a character up to U+FFFF
unfoldable pub encoded : ℕ → List ℕ
encoded c =
    pick (ltb c 0x80) (c ∷ [])
    (pick (ltb c 0x0800) ((0xC0 + c / 64) ∷ (0x80 + c % 64) ∷ [])
    ((0xE0 + c / 4096) ∷ (0x80 + c / 64 % 64) ∷ (0x80 + c % 64) ∷ []))

unfoldable pub all_encoded : List ℕ → List ℕ
all_encoded [] = []
all_encoded (c ∷ cs) = encoded c ++ all_encoded cs

-- ---- marks: a space to be trimmed and joined is blank, any other octet is shown, and so is a space that NFKC puts before a combining mark
pub data Mark : Type 0 where
  blank : Mark
  shown : ℕ → Mark

unfoldable pub marks : ℕ → Image → List Mark
marks c itself = map shown (encoded c)
marks c nothing = []
marks c space = blank ∷ []
marks c (above n) = map shown (encoded (c + n))
marks c (below n) = map shown (encoded (c - n))
marks c (characters l) = map shown (all_encoded l)

-- the image of a character up to U+017F, with folding (caseIgnoreMatch) or without (caseExactMatch)
unfoldable pub image : Bool → ℕ → List Mark
image fold c = marks c (image_in table fold c)
