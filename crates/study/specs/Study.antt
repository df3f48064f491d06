-- Document 01, Study: what a study holds, opening it and adding a claim.
use Rattle.std.specs.Prelude.{ℕ, ◌+◌, ◌*◌, Bool, ◌&&◌, List, [], ◌∷◌, length, ltb, eqb, ℤ, pos, Err, Ok, Result}
use Rattle.basics.specs.Pick.{pick}
use Rattle.basics.specs.Limits.{most_claims}
use Rattle.basics.specs.Tables.{table}
use Rattle.basics.specs.Checks.{check, ◌then◌, refuse_full}
use Rattle.calendar.specs.declared.Date.{Date}
use Rattle.claim_months.specs.declared.Claim.{Claim}
use Rattle.claim_months.specs.declared.Window.{Window}
use Rattle.claim_months.specs.Claim.{claim_check, weight}
use Rattle.claim_months.specs.Exposure.{MonthRecord, month_records, weighted, closings}
use Rattle.claim_months.specs.Windows.{window_check, window_in}
use Rattle.rates.specs.Rates.{recovery_rate, death_rate, rate_check, group_of}
use Rattle.study.specs.declared.Study.{Study}
use Rattle.study.specs.Answers.{Answer}
use Rattle.study.specs.Sums.{group_at, column_at, is_count, none, plus, times, within}

-- 1 for a duration in group g, 0 for any other
unfoldable pub count_in_group : ℕ → ℕ → ℕ
count_in_group g d = pick (eqb (group_of d) g) 1 0

-- a weight at the durations of group g, 0 at any other
unfoldable pub group_weight : ℕ → (ℕ → ℤ) → ℕ → ℤ
group_weight g w d = pick (eqb (group_of d) g) (w d) (pos 0)

-- Over the month records whose duration is in group g: the sum of thirtieths
unfoldable pub exposure : ℕ → List MonthRecord → ℤ
exposure g rs = weighted (group_weight g (λ d. pos 1)) rs

-- the closing count under category x: a closing month counts one, under its category
unfoldable pub closing_count : ℕ → ℕ → List MonthRecord → ℕ
closing_count g x rs = closings (λ d y. count_in_group g d * pick (eqb y x) 1 0) rs

-- expected recoveries and expected deaths: the sum of thirtieths times rate
unfoldable pub expected : (ℕ → ℤ) → ℕ → List MonthRecord → ℤ
expected rate g rs = weighted (group_weight g rate) rs

-- the figure of a column of group g: thirtieths, the closing count under the column's category, expected recoveries, expected deaths
unfoldable pub figure : (ℕ → ℤ) → (ℕ → ℤ) → ℕ → ℕ → List MonthRecord → ℤ
figure recovery death g column rs =
    pick (is_count column) (pos (closing_count g column rs))
    (pick (eqb column 0) (exposure g rs) (pick (eqb column 6) (expected recovery g rs) (expected death g rs)))

-- the sums over some month records, with the rates of recovery and of death at each duration, of a claim with a weight
unfoldable pub record_sums : (ℕ → ℤ) → (ℕ → ℤ) → ℕ → List MonthRecord → List ℤ
record_sums recovery death n rs = times n (table 80 (λ k. figure recovery death (group_at k) (column_at k) rs))

-- a claim's share of a study: the sums over its month records in the window, with the rates of its cell; in the weighted set its share is
-- multiplied by its benefit (document 02, No. 7)
unfoldable pub share_of : Window → List ℕ → Claim → List ℤ
share_of w rates c =
    record_sums (λ d. pos (recovery_rate rates c.cell d)) (λ d. pos (death_rate rates c.cell d)) (weight c)
    (month_records c w.first.0 w.last.0)

-- the sum over claims
unfoldable pub sum_over : {A : Type 0} → (A → A → A) → A → (Claim → A) → List Claim → A
sum_over add zero f [] = zero
sum_over add zero f (c ∷ cs) = add (f c) (sum_over add zero f cs)

-- the number of the first of the checks 2 to 8 and 16 that a claim fails with the rates, or 0: a claim with 0 is accepted
unfoldable pub own_refusal : List ℕ → Claim → ℕ
own_refusal rates c = claim_check c then rate_check rates c.cell

-- the accepted claims of a list
unfoldable pub accepted : List ℕ → List Claim → List Claim
accepted rates [] = []
accepted rates (c ∷ cs) = pick (eqb (own_refusal rates c) 0) (c ∷ accepted rates cs) (accepted rates cs)

-- The study of a window and a list of accepted claims
unfoldable pub study_of : Window → List ℕ → List Claim → Study
study_of w rates claims = record { window = w; taken = length claims; sums = sum_over plus none (share_of w rates) claims }

-- a study with no claims taken and zero sums
unfoldable pub fresh : Window → Study
fresh w = record { window = w; taken = 0; sums = none }

-- the window 1950-01-01 alone
abbrev pub first_day_alone : Window
first_day_alone = record { first = record { 0 = 0 }; last = record { 0 = 0 } }

-- Opening takes a window. A refused opening gives the window 1950-01-01 alone
unfoldable pub opened_with : Result Window ℕ → Answer
opened_with (Ok w) = record { refused = 0; study = fresh w }
opened_with (Err n) = record { refused = n; study = fresh first_day_alone }

unfoldable pub opened : Date → Date → Answer
opened b e = opened_with (window_in b e)

-- 9, full: 500,000 claims or more taken, or a sum or count handed in outside its bounds
unfoldable pub has_room : Study → Bool
has_room s = ltb s.taken most_claims && within s.sums

unfoldable pub room_check : Study → ℕ
room_check s = check (has_room s) refuse_full

-- the number of the first of the checks 1 to 9 and 16 that fails, or 0
unfoldable pub add_check : Study → Claim → List ℕ → ℕ
add_check s c rates =
    window_check s.window.first.0 s.window.last.0
    then claim_check c
    then rate_check rates c.cell
    then room_check s

-- a study with one accepted claim more: counted as taken, and the claim's share added to the sums
unfoldable pub with_claim : Study → Claim → List ℕ → Study
with_claim s c rates = record { window = s.window; taken = s.taken + 1; sums = plus s.sums (share_of s.window rates c) }

-- What a call answers of a study: 0 and the study that it makes, or the number of the first check that failed and the study as given
abbrev pub study_answer : ℕ → Study → Study → Answer
study_answer number given made = record { refused = number; study = pick (eqb number 0) made given }

-- Adding takes study, claim and rates. A refusal gives its number and the study as given
unfoldable pub added : Study → Claim → List ℕ → Answer
added s c rates = study_answer (add_check s c rates) s (with_claim s c rates)
