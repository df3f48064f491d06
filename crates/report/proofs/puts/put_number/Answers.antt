-- `put_number` meets its contract: the digits are the fewest that hold the number. Assumes nothing.
use native.Mathlib.Omega.{arith}
use Rattle.report.proofs.Numbers.{fewest-most, number_digits}
use Rattle.report.proofs.Texts.{renamed, shorter}
use Rattle.report.proofs.puts.put_number.Goals as goal

pub put_text-requires : goal.put_text-requires
put_text-requires c =
    let d = c.decimal-digits in
    let n = fewest-most c.args.number d.result (omega arith) d.ensures.len in
    omega (arith, d.ensures.in_bounds.1)

pub returns : goal.returns
returns c =
    let d = c.decimal-digits in
    let n = fewest-most c.args.number d.result (omega arith) d.ensures.len in
    renamed (shorter 20 c.put_text.ensures (omega (arith, d.ensures.in_bounds.1)))
    (number_digits c.args.number d.result _ (omega arith) d.ensures.len d.ensures.digits)
