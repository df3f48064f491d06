-- Document 01, Valuation: the valuation rate of a T, cell and duration.
use Rattle.std.specs.Prelude.{ℕ, ◌+◌, ◌*◌, ◌/◌, min, Bool, ◌&&◌, List, leb, eqb, Err, Ok, Result}
use Rattle.basics.specs.Limits.{last_duration}
use Rattle.basics.specs.Pick.{pick}
use Rattle.basics.specs.Checks.{check, ◌then◌, refuse_valuation}
use Rattle.rates.specs.Rates.{recovery_rate, death_rate, rate_check}

-- min(1,000,000, floor(T × S / 1,000,000)), S recovery plus death rate
unfoldable pub valuation_rate : List ℕ → ℕ → ℕ → ℕ → ℕ
valuation_rate rates cell t d = min 1000000 (t * (recovery_rate rates cell d + death_rate rates cell d) / 1000000)

-- 12, valuation: duration outside 2–480
unfoldable pub duration_sound : ℕ → Bool
duration_sound d = leb 2 d && leb d last_duration

-- the number of the first of the checks 6 to 8 and 12 that fails, or 0
unfoldable pub valuation_check : List ℕ → ℕ → ℕ → ℕ
valuation_check rates cell d = rate_check rates cell then check (duration_sound d) refuse_valuation

-- what the call for the valuation rate answers
unfoldable pub rate_in : List ℕ → ℕ → ℕ → ℕ → Result ℕ ℕ
rate_in rates cell t d =
    pick (eqb (valuation_check rates cell d) 0) (Ok (valuation_rate rates cell t d)) (Err (valuation_check rates cell d))
