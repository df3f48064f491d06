-- `study::sums::are_low` meets its contract: the bits of six sums are those of the definition, and where they are low each sum is.
-- Assumes nothing.
use Prim.Native.Nat.{◌+◌, ◌-◌, ◌*◌}
use mathlib.Core.Path.{◌≡◌, refl}
use native.Mathlib.Omega.{arith}
use lib.Bits.{bit_or}
use Rattle.std.proofs.Common.{rules, to_z, of_z, w64}
use Rattle.study.specs.design.Private.{three_bits, six_low}
use Rattle.study.proofs.Algebra.{at}
use Rattle.study.proofs.Low.{bits-low, or-low, both-low, at-place}
use Rattle.study.proofs.sums.are_low.Goals as goal

pub returns : goal.returns
unfolding three_bits six_low
returns c =
    let s = c.args.sums.now in
    let k = 8 * (c.args.group - 1) in
    let f1 : to_z w64 (of_z w64 (at s k)) ≡ at s k = search rules in
    let h1 : c.cast_unsigned.result ≡ of_z w64 (at s k) = search rules in
    let f2 : to_z w64 (of_z w64 (at s (k + 6))) ≡ at s (k + 6) = search rules in
    let h2 : c.cast_unsigned-2.result ≡ of_z w64 (at s (k + 6)) = search rules in
    let f3 : to_z w64 (of_z w64 (at s (k + 7))) ≡ at s (k + 7) = search rules in
    let h3 : c.cast_unsigned-3.result ≡ of_z w64 (at s (k + 7)) = search rules in
    let f4 : to_z w64 (of_z w64 (at s (k + 40))) ≡ at s (k + 40) = search rules in
    let h4 : c.cast_unsigned-4.result ≡ of_z w64 (at s (k + 40)) = search rules in
    let f5 : to_z w64 (of_z w64 (at s (k + 46))) ≡ at s (k + 46) = search rules in
    let h5 : c.cast_unsigned-5.result ≡ of_z w64 (at s (k + 46)) = search rules in
    let f6 : to_z w64 (of_z w64 (at s (k + 47))) ≡ at s (k + 47) = search rules in
    let h6 : c.cast_unsigned-6.result ≡ of_z w64 (at s (k + 47)) = search rules in
    let first = bit_or (bit_or c.cast_unsigned.result c.cast_unsigned-2.result) c.cast_unsigned-3.result in
    let weighted = bit_or (bit_or c.cast_unsigned-4.result c.cast_unsigned-5.result) c.cast_unsigned-6.result in
    record {
      value = rw (h1, h2, h3, h4, h5, h6) refl;
      low =
          λ q.
          let b = both-low first weighted q in
          let u = or-low c.cast_unsigned.result c.cast_unsigned-2.result c.cast_unsigned-3.result 18014398509481983 b.0 in
          let v = or-low c.cast_unsigned-4.result c.cast_unsigned-5.result c.cast_unsigned-6.result 4611686018427387903 b.1 in
          let l1 = bits-low (at s k) _ _ f1 h1 u.0 (omega arith) in
          let l2 = bits-low (at s (k + 6)) _ _ f2 h2 u.1 (omega arith) in
          let l3 = bits-low (at s (k + 7)) _ _ f3 h3 u.2 (omega arith) in
          let l4 = bits-low (at s (k + 40)) _ _ f4 h4 v.0 (omega arith) in
          let l5 = bits-low (at s (k + 46)) _ _ f5 h5 v.1 (omega arith) in
          let l6 = bits-low (at s (k + 47)) _ _ f6 h6 v.2 (omega arith) in
          record {
            thirtieths = record { first = at-place s k (k + 0) _ _ l1 (omega arith) (omega arith); weighted = at-place s (k + 40) (k + 0 + 40) _ _ l4 (omega arith) (omega arith) };
            recoveries = record { first = at-place s (k + 6) (k + 6) _ _ l2 refl (omega arith); weighted = at-place s (k + 46) (k + 6 + 40) _ _ l5 (omega arith) (omega arith) };
            deaths = record { first = at-place s (k + 7) (k + 7) _ _ l3 refl (omega arith); weighted = at-place s (k + 47) (k + 7 + 40) _ _ l6 (omega arith) (omega arith) };
          };
    }
