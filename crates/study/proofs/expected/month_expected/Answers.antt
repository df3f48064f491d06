-- `study::expected::month_expected` meets its contract: thirtieths fit 32 bits and a rate does, so that 64 bits hold their product.
-- Assumes nothing.
use Rattle.std.proofs.Common.{◌≡◌, ◌*◌, ◌≤◌, ◌∙◌, ap, ℤ, pos, negsuc, ◌*ℤ◌, nat_abs, mul-le-mul_left, arith, w32, w64, SFits, to_z, of_z, to_z-of_z}
use Rattle.basics.proofs.Integers.{size-product}
use Rattle.basics.proofs.Signed.{Small, result-is, result_fits}
use Rattle.study.proofs.expected.month_expected.Goals as goal

-- 32 bits hold the thirtieths
few : (t : ℤ) → SFits w32 t → nat_abs t ≤ 2147483648
few (pos n) h = omega (arith, h.sfits)
few (negsuc n) h = omega (arith, h.sfits)

-- thirtieths t, read as r, times a rate
module _ (t r y : ℤ) (e : r ≡ to_z w32 (of_z w32 t)) (fits : SFits w32 t) (size : nat_abs y ≤ 4294967295 * 1) where
  as-given : r ≡ t
  as-given = e ∙ to_z-of_z {w = w32} fits

  high : nat_abs t ≤ 2147483648
  high = few t fits

  product-size : nat_abs (t *ℤ y) ≤ 4294967295 * nat_abs t
  product-size =
      let p : nat_abs t * nat_abs y ≤ nat_abs t * 4294967295 = mul-le-mul_left (nat_abs t) (omega arith) in
      omega (arith, p, size-product t y)

  small : Small (t *ℤ y)
  small =
      let h : nat_abs t ≤ 2147483648 = high in
      let p : nat_abs (t *ℤ y) ≤ 4294967295 * nat_abs t = product-size in
      omega (arith, h, p)

  fit : SFits w64 (to_z w64 (of_z w64 r) *ℤ to_z w64 (of_z w64 y))
  fit = rw as-given (result_fits ◌*ℤ◌ t y (omega (arith, high)) (omega arith) small)

  value : to_z w64 (of_z w64 (to_z w64 (of_z w64 r) *ℤ to_z w64 (of_z w64 y))) ≡ t *ℤ y
  value = rw as-given (result-is ◌*ℤ◌ t y (omega (arith, high)) (omega arith) small)

  sized : nat_abs (to_z w64 (of_z w64 (to_z w64 (of_z w64 r) *ℤ to_z w64 (of_z w64 y)))) ≤ 4294967295 * nat_abs t
  sized = rw value product-size

pub overflow_mul-result : goal.overflow_mul-result
overflow_mul-result c = fit c.args.thirtieths _ c.rates_over-rates.result.recoveries c.from-times.ensures c.ranges.thirtieths c.rates_over-rates.ensures.recoveries_bound

pub overflow_mul-result-2 : goal.overflow_mul-result-2
overflow_mul-result-2 c = fit c.args.thirtieths _ c.rates_over-rates.result.deaths c.from-times.ensures c.ranges.thirtieths c.rates_over-rates.ensures.deaths_bound

pub returns-clause-recoveries_value : goal.returns-clause-recoveries_value
returns-clause-recoveries_value c =
    let r = c.rates_over-rates in
    value c.args.thirtieths _ r.result.recoveries c.from-times.ensures c.ranges.thirtieths r.ensures.recoveries_bound
    ∙ ap (λ (y : ℤ). c.args.thirtieths *ℤ y) r.ensures.recoveries_value

pub returns-clause-deaths_value : goal.returns-clause-deaths_value
returns-clause-deaths_value c =
    let r = c.rates_over-rates in
    value c.args.thirtieths _ r.result.deaths c.from-times.ensures c.ranges.thirtieths r.ensures.deaths_bound
    ∙ ap (λ (y : ℤ). c.args.thirtieths *ℤ y) r.ensures.deaths_value

pub returns-clause-recoveries_bound : goal.returns-clause-recoveries_bound
returns-clause-recoveries_bound c = sized c.args.thirtieths _ c.rates_over-rates.result.recoveries c.from-times.ensures c.ranges.thirtieths c.rates_over-rates.ensures.recoveries_bound

pub returns-clause-deaths_bound : goal.returns-clause-deaths_bound
returns-clause-deaths_bound c = sized c.args.thirtieths _ c.rates_over-rates.result.deaths c.from-times.ensures c.ranges.thirtieths c.rates_over-rates.ensures.deaths_bound
