-- `rates::prepared::rates_over` meets its contract: which way out gives which sums. Assumes nothing.
use Prim.Native.Nat.{ℕ, ◌-◌}
use mathlib.Core.Path.{◌≡◌}
use mathlib.Core.Bool.{true}
use native.Mathlib.Omega.{arith}
use Rattle.basics.specs.Tables.{all_at_most}
use Rattle.basics.proofs.Tables.{at-most-list}
use Rattle.rates.proofs.Laws.{place-below}
use Rattle.rates.proofs.PartSums.{Later, later, recovery-sized, death-sized, no-rates, within-answer, past-answer}
use Rattle.rates.proofs.prepared.rates_over.Goals as goal
use Rattle.rates.proofs.prepared.rates_over.Goals.{After-rates_at-last}

pub returns-in_default : goal.returns-in_default
returns-in_default c =
    let part_small : all_at_most 4294967295 c.args.part.now ≡ true = at-most-list 4294967295 c.args.part.now (λ k _. omega (arith, c.type_inv.part k)) in
    let a = c.args in let rest = no-rates a.kind a.part.now part_small a.from.0 a.months c.in_default.ensures.cases in
    record { recoveries_value = rest.0; deaths_value = rest.1.0; recoveries_bound = rest.1.1.0; deaths_bound = rest.1.1.1 }

pub months_within-within-requires : goal.months_within-within-requires
months_within-within-requires c = omega (arith, place-below c.args.from.0)

pub rates_at-sums-requires : goal.rates_at-sums-requires
rates_at-sums-requires c = omega (arith, place-below c.args.from.0)

pub returns-then-within-months : goal.returns-then-within-months
returns-then-within-months c =
    let same : c.in-Some.part.now ≡ c.args.part.now = c.in-Some.ensures.cases.same in
    let part_small : all_at_most 4294967295 c.args.part.now ≡ true = at-most-list 4294967295 c.args.part.now (λ k _. omega (arith, c.type_inv.part k)) in
    let a = c.args in
    let rest = within-answer a.kind a.part.now part_small a.from.0 a.months c.in-Some.ensures.cases.long c.place_of-first.result c.place_of-first.ensures
    c.months_within-within.result _ _ (omega arith)
    (rw same at c.rates_at-sums.ensures.recoveries_value) (rw same at c.rates_at-sums.ensures.deaths_value) in
    record { recoveries_value = rest.0; deaths_value = rest.1.0; recoveries_bound = rest.1.1.0; deaths_bound = rest.1.1.1 }

-- past 480: both sums with 480's rates
module _ (c : After-rates_at-last) where
  small : all_at_most 4294967295 c.args.part.now ≡ true
  small = at-most-list 4294967295 c.args.part.now (λ k _. omega (arith, c.type_inv.part k))

  same : c.in-Some.part.now ≡ c.args.part.now
  same = c.in-Some.ensures.cases.same

  abbrev more : ℕ
  more = c.args.months - c.months_within-within.result

  recoveries : Later c.rates_at-sums.result.recoveries c.rates_at-last.result.recoveries more
  recoveries =
      later c.rates_at-sums.result.recoveries c.rates_at-last.result.recoveries c.months_within-within.result more (omega arith) (omega arith)
      (recovery-sized _ _ small _ _ _ (rw same at c.rates_at-sums.ensures.recoveries_value))
      (recovery-sized _ _ small _ _ _ (rw same at c.rates_at-last.ensures.recoveries_value))

  deaths : Later c.rates_at-sums.result.deaths c.rates_at-last.result.deaths more
  deaths =
      later c.rates_at-sums.result.deaths c.rates_at-last.result.deaths c.months_within-within.result more (omega arith) (omega arith)
      (death-sized _ _ small _ _ _ (rw same at c.rates_at-sums.ensures.deaths_value))
      (death-sized _ _ small _ _ _ (rw same at c.rates_at-last.ensures.deaths_value))

pub overflow_mul-result : goal.overflow_mul-result
overflow_mul-result c = (recoveries (goal.at.overflow_mul-result c).After-rates_at-last).product-fits

pub overflow_add-result : goal.overflow_add-result
overflow_add-result c = (recoveries (goal.at.overflow_add-result c).After-rates_at-last).fits

pub overflow_mul-result-2 : goal.overflow_mul-result-2
overflow_mul-result-2 c = (deaths (goal.at.overflow_mul-result-2 c).After-rates_at-last).product-fits

pub overflow_add-result-2 : goal.overflow_add-result-2
overflow_add-result-2 c = (deaths (goal.at.overflow_add-result-2 c).After-rates_at-last).fits

pub returns : goal.returns
returns c =
    let a = c.args in
    let k = (goal.at.returns c).After-rates_at-last in
    let sums = c.rates_at-sums.result in
    let last = c.rates_at-last.result in
    let r = past-answer a.kind a.part.now (small k) a.from.0 a.months c.in-Some.ensures.cases.long c.place_of-first.result c.place_of-first.ensures
    c.months_within-within.result (more k) sums.recoveries sums.deaths last.recoveries last.deaths _ _ (omega (arith, place-below a.from.0)) (omega arith)
    (rw (same k) at c.rates_at-sums.ensures.recoveries_value) (rw (same k) at c.rates_at-sums.ensures.deaths_value)
    (rw (same k) at c.rates_at-last.ensures.recoveries_value) (rw (same k) at c.rates_at-last.ensures.deaths_value) (recoveries k).is (deaths k).is in
    record { recoveries_value = r.0; deaths_value = r.1.0; recoveries_bound = r.1.1.0; deaths_bound = r.1.1.1 }
