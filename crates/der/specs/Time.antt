-- GeneralizedTime: `YYYYMMDDHHMMSS`, perhaps `.` and 1..9 digits not ending in 0, then `Z`; a real Gregorian date, second 00..60.
use Rattle.std.specs.Prelude.{ℕ, zero, suc, ◌+◌, ◌-◌, ◌*◌, ◌%◌, Bool, List, [], ◌∷◌, length, take, ltb, leb, eqb}
use Rattle.octets.specs.Pick.{pick, both, either, no}
use Rattle.octets.specs.Octets.{octet, part, every}
use Rattle.octets.specs.Text.{within, is_digit, decimal}
use Rattle.der.specs.declared.Time.{Time}

-- the number that n digits from a place on stand for
abbrev pub digits_at : List ℕ → ℕ → ℕ → ℕ
digits_at c at n = decimal (part c at n)

-- Gregorian, also before 1582
unfoldable pub is_leap : ℕ → Bool
is_leap year = both (eqb (year % 4) 0) (either (no (eqb (year % 100) 0)) (eqb (year % 400) 0))

unfoldable pub has_thirty : ℕ → Bool
has_thirty month = either (eqb month 4) (either (eqb month 6) (either (eqb month 9) (eqb month 11)))

unfoldable pub days_in : ℕ → ℕ → ℕ
days_in year month = pick (eqb month 2) (pick (is_leap year) 29 28) (pick (has_thirty month) 30 31)

unfoldable pub real_date : ℕ → ℕ → ℕ → Bool
real_date year month day = both (within 1 12 month) (within 1 (days_in year month) day)

unfoldable pub real_time : ℕ → ℕ → ℕ → Bool
real_time hour minute second = both (leb hour 23) (both (leb minute 59) (leb second 60))

-- the digits of a fraction: between the point and the `Z`
unfoldable pub fraction_digits : List ℕ → List ℕ
fraction_digits c = part c 15 (length c - 16)

-- 1..9 digits not ending in 0
unfoldable pub fraction_formed : List ℕ → Bool
fraction_formed f = both (within 1 9 (length f)) (both (every is_digit f) (no (eqb (octet f (length f - 1)) 48)))

-- after the 14 digits: `Z`, or a point, a fraction and `Z`
unfoldable pub tail_formed : List ℕ → Bool
tail_formed c =
    both (eqb (octet c (length c - 1)) 90)
    (either (eqb (length c) 15) (both (eqb (octet c 14) 46) (fraction_formed (fraction_digits c))))

-- the date and time of the 14 digits
unfoldable pub real_moment : List ℕ → Bool
real_moment c =
    both (real_date (digits_at c 0 4) (digits_at c 4 2) (digits_at c 6 2))
    (real_time (digits_at c 8 2) (digits_at c 10 2) (digits_at c 12 2))

unfoldable pub legal_time : List ℕ → Bool
legal_time c = both (leb 15 (length c)) (both (every is_digit (take 14 c)) (both (tail_formed c) (real_moment c)))

-- a number with k digits more, those of a text and then zeros
unfoldable pub scaled : ℕ → ℕ → List ℕ → ℕ
scaled zero n f = n
scaled (suc k) n [] = scaled k (n * 10) []
scaled (suc k) n (b ∷ f) = scaled k (n * 10 + (b - 48)) f

-- a fraction in billionths; no fraction is zero
unfoldable pub billionths : List ℕ → ℕ
billionths f = scaled 9 0 f

-- what a time says (`Time`): the 14 digits as one number, which orders dates and times, and the fraction
unfoldable pub time_of : List ℕ → Time
time_of c = record { stamp = digits_at c 0 14; fraction = billionths (fraction_digits c) }

unfoldable pub same_time : Time → Time → Bool
same_time a b = both (eqb a.stamp b.stamp) (eqb a.fraction b.fraction)

-- by date and time, then fraction
unfoldable pub earlier : Time → Time → Bool
earlier a b = pick (eqb a.stamp b.stamp) (ltb a.fraction b.fraction) (ltb a.stamp b.stamp)
