-- The rows of a group's durations total the group's figures.
-- Assumes nothing.
use Rattle.std.proofs.Common.{◌≡◌, ℕ, zero, suc, ◌+◌, ◌-◌, ◌<◌, ◌≤◌, min, Bool, true, false, ◌&&◌, eqb, ltb, leb, List, ℤ, ◌+ℤ◌, sym, refl, ◌∙◌, ap₂, le-ltb, lt-ltb, ne_eqb, le-leb}
use mathlib.Core.Bool.{and-false}
use borrow.Author.Tests.{lt-leb}
use Rattle.basics.specs.Limits.{most_rows}
use Rattle.basics.specs.Series.{sum_to}
use Rattle.basics.proofs.Tests.{tests, by}
use Rattle.claim_months.specs.declared.Claim.{Claim}
use Rattle.claim_months.specs.Exposure.{MonthRecord, month_records}
use Rattle.rates.specs.Rates.{group_of, last_of}
use Rattle.rates.proofs.Laws.{by-group}
use Rattle.study.specs.Study.{figure}
use Rattle.by_duration.specs.Rows.{row_of, row_figure}
use Rattle.by_duration.specs.GroupTotals.{first_of, group_rows}
use Rattle.by_duration.proofs.Figures.{Either, figure_in, of_group, of_row, group-figure, row-figure, figure-plus, figure-none, figure-same, from_one}

-- a number from a on, one of m
abbrev among : ℕ → ℕ → ℕ → Bool
among a m x = leb a x && ltb x (a + m)

among-more : (a m x : ℕ) → Either (among a (suc m) x) (among a m x) (eqb x (a + m))
among-more a m x =
    by (leb a x) (λ s. Either (s && ltb x (a + suc m)) (s && ltb x (a + m)) (eqb x (a + m)))
    (λ q.
    by (ltb x (a + m)) (λ t. Either (ltb x (a + suc m)) t (eqb x (a + m)))
    (λ p. rw (lt-ltb x (a + suc m) (omega tests), ne_eqb x (a + m) (λ (e : x ≡ a + m). omega tests)))
    (λ p.
    by (eqb x (a + m)) (λ t. Either (ltb x (a + suc m)) false t)
    (λ e. rw (lt-ltb x (a + suc m) (omega tests))) (λ e. rw (le-ltb x (a + suc m) (omega tests)))))
    (λ q. rw (ne_eqb x (a + m) (λ (e : x ≡ a + m). omega tests)))

none-among : (a x : ℕ) → among a 0 x ≡ false
none-among a x =
    by (leb a x) (λ s. (s && ltb x (a + 0)) ≡ false) (λ q. le-ltb x (a + 0) (omega tests)) (λ q. refl)

module _ (recovery death : ℕ → ℤ) (column : ℕ) (rs : List MonthRecord) (n a : ℕ) where
  -- the figures of m rows from a on
  rows-among : (m : ℕ) → sum_to (λ j. row_figure recovery death n (a + j) column rs) m ≡ figure_in (λ d. among a m (row_of n d)) recovery death column rs
  unfolding sum_to
  rows-among zero = sym (figure-none recovery death column rs (λ d. among a 0 (row_of n d)) (λ d. none-among a (row_of n d)))
  rows-among (suc m) =
      ap₂ ◌+ℤ◌ (rows-among m) (row-figure recovery death n (a + m) column rs)
      ∙ sym (figure-plus recovery death column rs (λ d. among a (suc m) (row_of n d)) (λ d. among a m (row_of n d)) (of_row n (a + m)) (λ d. among-more a m (row_of n d)))

-- a number is among some, or not
yes : (a m x : ℕ) → a ≤ x → x < a + m → among a m x ≡ true
yes a m x h l = rw (le-leb a x h, lt-ltb x (a + m) l)

below : (a m x : ℕ) → x < a → among a m x ≡ false
below a m x h = rw (lt-leb a x h)

above : (a m x : ℕ) → a + m ≤ x → among a m x ≡ false
above a m x h = rw (le-ltb x (a + m) h, and-false (leb a x))

-- the group of a duration, by the rows: at each of the five groups
abbrev Grouped : ℕ → ℕ → ℕ → Type 0
Grouped n d g = last_of (min g 4) < n → among (first_of g) (group_rows n g) (row_of n d) ≡ of_group g d

pub five : (P : ℕ → Type 0) → P 1 → P 2 → P 3 → P 4 → P 5 → (g : ℕ) → 1 ≤ g → g ≤ 5 → P g
five P p1 p2 p3 p4 p5 zero l h = absurd (omega tests)
five P p1 p2 p3 p4 p5 (suc zero) l h = p1
five P p1 p2 p3 p4 p5 (suc (suc zero)) l h = p2
five P p1 p2 p3 p4 p5 (suc (suc (suc zero))) l h = p3
five P p1 p2 p3 p4 p5 (suc (suc (suc (suc zero)))) l h = p4
five P p1 p2 p3 p4 p5 (suc (suc (suc (suc (suc zero))))) l h = p5
five P p1 p2 p3 p4 p5 (suc (suc (suc (suc (suc (suc g)))))) l h = absurd (omega tests)

module _ (n d : ℕ) (hn : n ≤ most_rows) (hd : 1 ≤ d) where
  abbrev Told : ℕ → ℕ → ℕ → Type 0
  Told a m g = among a m (min d n) ≡ eqb (group_of d) g

  first_group : 3 < n → Told 1 (min 3 n + 1 - 1) 1
  first_group h =
      by-group d (λ k _. among 1 (min 3 n + 1 - 1) (min d n) ≡ eqb k 1)
      (λ p. yes 1 _ (min d n) (omega tests) (omega tests)) (λ o p. above 1 _ (min d n) (omega tests)) (λ o p. above 1 _ (min d n) (omega tests))
      (λ o p. above 1 _ (min d n) (omega tests)) (λ o. above 1 _ (min d n) (omega tests))

  second_group : 24 < n → Told 4 (min 24 n + 1 - 4) 2
  second_group h =
      by-group d (λ k _. among 4 (min 24 n + 1 - 4) (min d n) ≡ eqb k 2)
      (λ p. below 4 _ (min d n) (omega tests)) (λ o p. yes 4 _ (min d n) (omega tests) (omega tests)) (λ o p. above 4 _ (min d n) (omega tests))
      (λ o p. above 4 _ (min d n) (omega tests)) (λ o. above 4 _ (min d n) (omega tests))

  third_group : 60 < n → Told 25 (min 60 n + 1 - 25) 3
  third_group h =
      by-group d (λ k _. among 25 (min 60 n + 1 - 25) (min d n) ≡ eqb k 3)
      (λ p. below 25 _ (min d n) (omega tests)) (λ o p. below 25 _ (min d n) (omega tests)) (λ o p. yes 25 _ (min d n) (omega tests) (omega tests))
      (λ o p. above 25 _ (min d n) (omega tests)) (λ o. above 25 _ (min d n) (omega tests))

  fourth_group : 120 < n → Told 61 (min 120 n + 1 - 61) 4
  fourth_group h =
      by-group d (λ k _. among 61 (min 120 n + 1 - 61) (min d n) ≡ eqb k 4)
      (λ p. below 61 _ (min d n) (omega tests)) (λ o p. below 61 _ (min d n) (omega tests)) (λ o p. below 61 _ (min d n) (omega tests))
      (λ o p. yes 61 _ (min d n) (omega tests) (omega tests)) (λ o. above 61 _ (min d n) (omega tests))

  last-group : 120 < n → Told 121 (min 4294967295 n + 1 - 121) 5
  last-group h =
      by-group d (λ k _. among 121 (min 4294967295 n + 1 - 121) (min d n) ≡ eqb k 5)
      (λ p. below 121 _ (min d n) (omega tests)) (λ o p. below 121 _ (min d n) (omega tests)) (λ o p. below 121 _ (min d n) (omega tests))
      (λ o p. below 121 _ (min d n) (omega tests)) (λ o. yes 121 _ (min d n) (omega tests) (omega tests))

  grouped : (g : ℕ) → 1 ≤ g → g ≤ 5 → Grouped n d g
  unfolding first_of group_rows last_of row_of
  grouped = five (Grouped n d) first_group second_group third_group fourth_group last-group

-- a claim's rows of a group's durations total its figure of the group
pub rows-group : (recovery death : ℕ → ℤ) (n g column : ℕ) (c : Claim) (b e : ℕ) → n ≤ most_rows → 1 ≤ g → g ≤ 5 → last_of (min g 4) < n
    → sum_to (λ j. row_figure recovery death n (first_of g + j) column (month_records c b e)) (group_rows n g) ≡ figure recovery death g column (month_records c b e)
rows-group recovery death n g column c b e hn low high h =
    let rs = month_records c b e in
    rows-among recovery death column rs n (first_of g) (group_rows n g)
    ∙ figure-same recovery death column rs (from_one c b e) (λ d. among (first_of g) (group_rows n g) (row_of n d)) (of_group g) (λ d l. grouped n d hn l g low high h)
    ∙ sym (group-figure recovery death g column rs)
