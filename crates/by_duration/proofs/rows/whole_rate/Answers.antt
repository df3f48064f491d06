-- `rows::whole_rate` meets its contract: 64 bits hold the product.
-- Assumes nothing.
use Rattle.std.proofs.Common.{◌*◌, ◌≤◌, ℤ, ◌*ℤ◌, nat_abs, mul-le-mul_left, ap, ◌∙◌, arith}
use Rattle.basics.proofs.Integers.{size-product}
use Rattle.basics.proofs.Signed.{Small, result_fits, result-is}
use Rattle.by_duration.proofs.rows.whole_rate.Goals as goal

product-small : (y t : ℤ) → nat_abs y ≤ 4294967295 → nat_abs t ≤ 30 → Small (y *ℤ t)
product-small y t h few =
    let p : nat_abs y * nat_abs t ≤ nat_abs y * 30 = mul-le-mul_left (nat_abs y) few in
    omega (arith, p, h, size-product y t)

pub overflow_mul-result : goal.overflow_mul-result
overflow_mul-result c =
    let y = c.rise.result in
    let t = c.args.thirtieths in
    let h = c.rise.ensures.size in
    let few = c.requires.thirtieths_high in
    result_fits ◌*ℤ◌ y t (omega (arith, h)) (omega (arith, few)) (product-small y t h few)

pub returns : goal.returns
returns c =
    let y = c.rise.result in
    let t = c.args.thirtieths in
    let h = c.rise.ensures.size in
    let few = c.requires.thirtieths_high in
    result-is ◌*ℤ◌ y t (omega (arith, h)) (omega (arith, few)) (product-small y t h few) ∙ ap (λ (z : ℤ). z *ℤ t) c.rise.ensures.value
