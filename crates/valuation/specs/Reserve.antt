-- Document 01, Valuation: the reserve factor, in f64, one rounding per operation. Each operation is the logic's account of IEEE 754.
use Rattle.std.specs.Prelude.{ℕ, zero, suc, ◌+◌, ◌-◌, min, Bool, ◌&&◌, List, get_or, leb, eqb, pos, Float}
use Rattle.std.specs.Float.{binary64}
use Rattle.std.specs.Float.Ieee.{of_int, add, mul, div, lt, le}
use Rattle.basics.specs.Limits.{last_duration}
use Rattle.basics.specs.Pick.{pick}
use Rattle.basics.specs.Checks.{check, ◌then◌, refuse_valuation, refuse_discount}
use Rattle.rates.specs.Rates.{rate_check, group_of}
use Rattle.valuation.specs.Rate.{valuation_rate, duration_sound}
use Rattle.valuation.specs.declared.Reserve.{Reserve}
use Rattle.valuation.specs.declared.Reserve.TheVariants.{Factor, Refused}
use Rattle.valuation.specs.declared.reserve_factor.Running.{Running}

-- a whole number in f64; up to 2 ^ 53 nothing is rounded
unfoldable pub float : ℕ → Float
float n = of_int binary64 (pos n)

-- P = 1, D = 1, sum = 0
unfoldable pub start : Running
start = record { p = float 1; d = float 1; sum = float 0 }

-- P becomes P × ((1,000,000 − g) / 1,000,000), D becomes D × V, sum becomes sum + P × D, with the new P and D
unfoldable pub month : Running → ℕ → Float → Running
month run g v =
    let p = mul binary64 run.p (div binary64 (float (1000000 - g)) (float 1000000)) in
    let d = mul binary64 run.d v in
    record { p = p; d = d; sum = add binary64 run.sum (mul binary64 p d) }

-- the duration of month n = 1, 2, ..: first + n − 1, at most 480
unfoldable pub month_duration : ℕ → ℕ → ℕ
month_duration first n = min last_duration (first + n - 1)

-- the T of a duration's group: group 1 has the first of the five
unfoldable pub group_t : List ℕ → ℕ → ℕ
group_t t d = get_or t (group_of d - 1) 0

-- g, the valuation rate of month n
unfoldable pub month_rate : List ℕ → ℕ → ℕ → List ℕ → ℕ → ℕ
month_rate rates cell first t n =
    let d = month_duration first n in
    valuation_rate rates cell (group_t t d) d

-- the running values after n months
unfoldable pub running : List ℕ → ℕ → ℕ → List ℕ → Float → ℕ → Running
running rates cell first t v zero = start
running rates cell first t v (suc n) =
    month (running rates cell first t v n) (month_rate rates cell first t (suc n)) v

-- the factor of N months is the sum
unfoldable pub reserve_of : List ℕ → ℕ → ℕ → List ℕ → ℕ → Float → Float
reserve_of rates cell first t months v = (running rates cell first t v months).sum

-- 13, discount: not (V > 0 and V ≤ 1)
unfoldable pub discount_sound : Float → Bool
discount_sound v = lt (float 0) v && le v (float 1)

-- the number of the first of the checks 6 to 8, 12 (duration outside 2–480, N over 480) and 13 that fails, or 0
unfoldable pub reserve_check : List ℕ → ℕ → ℕ → ℕ → Float → ℕ
reserve_check rates cell first months v =
    rate_check rates cell
    then check (duration_sound first && leb months last_duration) refuse_valuation
    then check (discount_sound v) refuse_discount

-- what the call for the reserve factor answers: the factor, or the number refused
unfoldable pub reserve_in : List ℕ → ℕ → ℕ → List ℕ → ℕ → Float → Reserve
reserve_in rates cell first t months v =
    pick (eqb (reserve_check rates cell first months v) 0) (Factor (reserve_of rates cell first t months v))
    (Refused (reserve_check rates cell first months v))
