-- What each call for C and Rust answers, and what each lent list holds at exit, on every input, in terms of the layers below.
use Rattle.std.specs.Prelude.{ℕ, ◌+◌, ◌*◌, ◌/◌, ◌%◌, Bool, ◌&&◌, List, [], ◌∷◌, length, leb, eqb, Float, Result, Ok, Err}
use Rattle.std.proofs.lemmas.List.Edits.{sets}
use Rattle.basics.specs.Limits.{no_form}
use Rattle.calendar.specs.declared.Date.{Date}
use Rattle.basics.specs.Pick.{pick}
use Rattle.valuation.specs.declared.Reserve.{Reserve}
use Rattle.valuation.specs.declared.Reserve.TheVariants as reserved
use Rattle.valuation.specs.LimitAnswers.{LimitAnswer}
use Rattle.study_list.specs.Lent.{answered, stored}
use Rattle.valuation.specs.declared.GroupFactor.{GroupFactor}

-- a refusal where the answer is a number: 2^32 + the number refused
abbrev pub refused_number : ℕ → ℕ
refused_number n = 4294967296 + n

-- a date's number: the claim file's four bytes, low byte first
unfoldable pub date_in : ℕ → Date
date_in n = record { year = n % 65536; month = n / 65536 % 256; day = n / 16777216 }

-- ltd_valuation_rate, ltd_wanted_count and ltd_listing
abbrev pub number_answered : Result ℕ ℕ → ℕ
number_answered (Ok n) = n
number_answered (Err n) = refused_number n

-- ltd_factor: z, m and T, or the list as it was
abbrev pub factor_number : Result GroupFactor ℕ → ℕ
factor_number (Ok f) = 0
factor_number (Err n) = n

abbrev pub factor_stored : List ℕ → Result GroupFactor ℕ → List ℕ
factor_stored old (Ok f) = sets old 0 (f.z ∷ f.m ∷ f.t ∷ [])
factor_stored old (Err n) = old

-- ltd_reserve_factor: the factor, or the list as it was
abbrev pub reserve_number : Reserve → ℕ
reserve_number (reserved.Factor f) = 0
reserve_number (reserved.Refused n) = n

abbrev pub reserve_stored : List Float → Reserve → List Float
reserve_stored old (reserved.Factor f) = sets old 0 (f ∷ [])
reserve_stored old (reserved.Refused n) = old

-- 255 too where T has not five numbers
abbrev pub reserve_answered : List ℕ → List Float → Reserve → ℕ
reserve_answered t old r = pick (eqb (length t) 5) (answered 1 old (reserve_number r)) no_form

abbrev pub reserve_after : List ℕ → List Float → Reserve → List Float
reserve_after t old r = pick (eqb (length t) 5) (stored 1 old (reserve_stored old r)) old

-- ltd_reserve_limit: T has five numbers, and there is room for five and for both totals
abbrev pub limit_lent : List ℕ → List ℕ → List Float → Bool
limit_lent t out totals = eqb (length t) 5 && leb 5 (length out) && leb 2 (length totals)

abbrev pub limit_answered : List ℕ → List ℕ → List Float → LimitAnswer → ℕ
limit_answered t out totals a = pick (limit_lent t out totals) a.refused no_form

-- the set of T and both totals, the given one first, or both lists as they were
abbrev pub limit_set : List ℕ → List ℕ → List Float → LimitAnswer → List ℕ
limit_set t out totals a = pick (limit_lent t out totals && eqb a.refused 0) (sets out 0 a.t) out

abbrev pub limit_totals : List ℕ → List ℕ → List Float → LimitAnswer → List Float
limit_totals t out totals a = pick (limit_lent t out totals && eqb a.refused 0) (sets totals 0 (a.given ∷ a.replaced ∷ [])) totals

-- a date as one number
abbrev pub date_number : Date → ℕ
date_number d = d.year + 65536 * d.month + 16777216 * d.day
