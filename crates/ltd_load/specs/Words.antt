-- The words of the call, as bytes in ASCII: a number in decimal digits, and a date as 2010-01-01.
use Rattle.std.specs.Prelude.{ℕ, ◌+◌, ◌-◌, ◌*◌, Bool, true, ◌&&◌, List, [], ◌∷◌, length, get_or, take, drop, leb, eqb, None, Option, Some}
use Rattle.basics.specs.Pick.{pick}
use Rattle.calendar.specs.Calendar.{is_date}
use Rattle.calendar.specs.declared.Date.{Date}

unfoldable pub is_digit : ℕ → Bool
is_digit b = leb 48 b && leb b 57

unfoldable pub all_digits : List ℕ → Bool
all_digits [] = true
all_digits (b ∷ bs) = is_digit b && all_digits bs

-- the number of digits that go on from n
unfoldable pub value_from : ℕ → List ℕ → ℕ
value_from n [] = n
value_from n (b ∷ bs) = value_from (10 * n + (b - 48)) bs

-- a word's number: digits and nothing else, and at least one of them; up to 2^32 − 1
unfoldable pub is_decimal : List ℕ → Bool
is_decimal word = leb 1 (length word) && all_digits word && leb (value_from 0 word) 4294967295

unfoldable pub number_of_word : List ℕ → Option ℕ
number_of_word word = pick (is_decimal word) (Some (value_from 0 word)) None

-- the date of a year, a month and a day
unfoldable pub date_of_parts : ℕ → ℕ → ℕ → Option Date
date_of_parts y m d = pick (is_date (record { year = y; month = m; day = d })) (Some (record { year = y; month = m; day = d })) None

unfoldable pub date_of : Option ℕ → Option ℕ → Option ℕ → Option Date
date_of (Some y) (Some m) (Some d) = date_of_parts y m d
date_of (Some y) (Some m) None = None
date_of (Some y) None d = None
date_of None m d = None

-- a word's date: four digits, a hyphen, two digits, a hyphen, two digits
unfoldable pub is_dated : List ℕ → Bool
is_dated word = eqb (length word) 10 && eqb (get_or word 4 0) 45 && eqb (get_or word 7 0) 45

unfoldable pub date_of_word : List ℕ → Option Date
date_of_word word = pick (is_dated word) (date_of (number_of_word (take 4 word)) (number_of_word (take 2 (drop 5 word))) (number_of_word (take 2 (drop 8 word)))) None
