-- Document 01's figure of the reserve factor: g 500,000 throughout, V 0.5, N 2 give the factor 0.3125. Assumes nothing.
use Prim.Native.Nat.{ℕ}
use mathlib.Core.Path.{◌≡◌, refl}
use mathlib.Core.List.{List}
use lib.Ieee.{of_int, add, mul, div, lt, le, eq}
use Rattle.basics.specs.Checks.{◌then◌}
use Rattle.rates.specs.Rates.{cells, place, recovery_rate, death_rate, length_sound, rates_sound_to, rates_sound, rate_check, group_of}
use Rattle.valuation.specs.Rate.{valuation_rate, duration_sound}
use Rattle.valuation.specs.Reserve.{
  float,
  start,
  month,
  month_duration,
  group_t,
  month_rate,
  running,
  reserve_of,
  discount_sound,
  reserve_check,
  reserve_in,
}
use Rattle.valuation.specs.Example.{half, figure, half_table, even}
use Rattle.valuation.specs.declared.Reserve.TheVariants.{Factor}

-- the step of a month, taken twice from the start
pub two-months : (month (month start 500000 half) 500000 half).sum ≡ figure
unfolding month start float of_int add mul div
two-months = refl

-- for every table, cell, first duration and T that give this g throughout
pub half_throughout :
    (rates : List ℕ) (cell first : ℕ) (t : List ℕ) → ((n : ℕ) → month_rate rates cell first t n ≡ 500000)
    → reserve_of rates cell first t 2 half ≡ figure
unfolding reserve_of running month
half_throughout rates cell first t g = rw (g 1, g 2) two-months

-- the table's rates and each T give this g, so the call's answer is the figure
pub call-answers : reserve_in half_table 0 4 even 2 half ≡ Factor figure
unfolding reserve_in reserve_check ◌then◌ rate_check length_sound cells rates_sound rates_sound_to recovery_rate death_rate place duration_sound discount_sound reserve_of running month start month_rate month_duration group_t group_of valuation_rate float of_int add mul div lt le eq
call-answers = refl
