-- Document 02, request No. 9: the 1.30 limit judged on the total reserves of open claims disabled over two years.
use Rattle.std.specs.Prelude.{ℕ, zero, suc, ◌+◌, ◌*◌, ◌/◌, ◌%◌, ◌≡◌, Bool, true, ◌&&◌, List, [], ◌∷◌, length, get_or, leb, ltb, eqb, Float}
use Rattle.std.specs.Float.{binary64}
use Rattle.std.specs.Float.Ieee.{add, lt, le}
use Rattle.basics.specs.Limits.{most_open_claims}
use Rattle.basics.specs.Pick.{pick}
use Rattle.basics.specs.Checks.{check, ◌then◌, refuse_open_claims}
use Rattle.valuation.specs.Reserve.{float, reserve_of, reserve_check}
use Rattle.valuation.specs.LimitAnswers.{LimitAnswer}

-- An open claim is three numbers of the list: cell, next duration, months left. Claims are counted from 0
abbrev pub claim_cell : List ℕ → ℕ → ℕ
claim_cell list i = get_or list (3 * i) 0

abbrev pub next_duration : List ℕ → ℕ → ℕ
next_duration list i = get_or list (3 * i + 1) 0

abbrev pub months_left : List ℕ → ℕ → ℕ
months_left list i = get_or list (3 * i + 2) 0

abbrev pub claims_open_in : List ℕ → ℕ
claims_open_in list = length list / 3

-- 17: a list of more than 2,000 claims, or with a part claim at its end
unfoldable pub list_sound : List ℕ → Bool
list_sound list = eqb (length list % 3) 0 && leb (claims_open_in list) most_open_claims

-- the checks of one claim: those of the factor call, and after them 17 for a duration of 24 or less
unfoldable pub open_claim_check : List ℕ → List ℕ → Float → ℕ → ℕ
open_claim_check rates list v i =
    reserve_check rates (claim_cell list i) (next_duration list i) (months_left list i) v
    then check (ltb 24 (next_duration list i)) refuse_open_claims

-- the first check that fails among the first n claims, in list order, or 0
unfoldable pub open_claims_check : List ℕ → List ℕ → Float → ℕ → ℕ
open_claims_check rates list v zero = 0
open_claims_check rates list v (suc n) = open_claims_check rates list v n then open_claim_check rates list v n

-- the number of the first check that fails, or 0: the list's, before anything else, then the claims'
unfoldable pub limit_check : List ℕ → List ℕ → Float → ℕ
limit_check rates list v = check (list_sound list) refuse_open_claims then open_claims_check rates list v (claims_open_in list)

-- the reserve factors of the first n claims added in list order, one rounding each
unfoldable pub reserve_total : List ℕ → List ℕ → List ℕ → Float → ℕ → Float
reserve_total rates list t v zero = float 0
reserve_total rates list t v (suc n) =
    add binary64 (reserve_total rates list t v n)
    (reserve_of rates (claim_cell list n) (next_duration list n) t (months_left list n) v)

-- T replaced by 1,300,000 in groups 3 to 5, group 3 kept if its termination count is 5,000 or more
unfoldable pub replaced_t : List ℕ → ℕ → List ℕ
replaced_t t count =
    get_or t 0 0 ∷ get_or t 1 0 ∷ pick (leb 5000 count) (get_or t 2 0) 1300000 ∷ 1300000 ∷ 1300000 ∷ []

-- the total with the given T, and with T replaced
abbrev pub given_total : List ℕ → List ℕ → List ℕ → Float → Float
given_total rates list t v = reserve_total rates list t v (claims_open_in list)

abbrev pub replaced_total : List ℕ → List ℕ → List ℕ → ℕ → Float → Float
replaced_total rates list t count v = reserve_total rates list (replaced_t t count) v (claims_open_in list)

-- if the first total is less, the replaced set, else the given one
unfoldable pub judged_t : List ℕ → List ℕ → List ℕ → ℕ → Float → List ℕ
judged_t rates list t count v = pick (lt (given_total rates list t v) (replaced_total rates list t count v)) (replaced_t t count) t

-- what the call answers: the set of T with both totals; a refusal gives its number and zeros
unfoldable pub limit_of : List ℕ → List ℕ → List ℕ → ℕ → Float → LimitAnswer
limit_of rates list t count v =
    pick (eqb (limit_check rates list v) 0)
    (record {
      refused = 0;
      t = judged_t rates list t count v;
      given = given_total rates list t v;
      replaced = replaced_total rates list t count v;
    })
    (record { refused = limit_check rates list v; t = 0 ∷ 0 ∷ 0 ∷ 0 ∷ 0 ∷ []; given = float 0; replaced = float 0 })

-- Of every call that is not refused: no total is a NaN (a NaN is not at most itself), and the total of the set returned is never below the
-- replaced one's. `proofs/ReserveLimit.antt` proves it
pub record ReserveLimits (rates list t : List ℕ) (count : ℕ) (v : Float) : Type 0 where
  pub given_number : le (limit_of rates list t count v).given (limit_of rates list t count v).given ≡ true
  pub replaced_number : le (limit_of rates list t count v).replaced (limit_of rates list t count v).replaced ≡ true
  pub never_below : le (limit_of rates list t count v).replaced (reserve_total rates list (limit_of rates list t count v).t v (claims_open_in list)) ≡ true

abbrev pub ReserveLimit : Type 0
ReserveLimit =
    (rates list t : List ℕ) (count : ℕ) (v : Float) → length t ≡ 5 → limit_check rates list v ≡ 0 → ReserveLimits rates list t count v
