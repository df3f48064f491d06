-- `ltd_study::input::put_rates` meets its contract. The loop's invariant: the rates passed stand in their part of the table. Assumes nothing.
use Prim.Native.Nat.{ℕ, ◌*◌, ◌<◌}
use mathlib.Core.Path.{◌≡◌}
use native.Mathlib.Omega.{arith}
use lib.ListN.{length, get_or}
use Rattle.claim_file.specs.Bytes.{four_at}
use Rattle.ltd_study.proofs.Rates.{rates-stored}
use Rattle.ltd_study.proofs.input.put_rates.Goals as goal

pub returns : goal.returns
returns c =
    let s = c.args in
    let l = c.loop-i in
    let long : length l.rate-items ≡ s.rates = omega (arith, l.auto.rate-items) in
    let f : (k : ℕ) → k < s.rates → get_or l.rate-items k 0 ≡ four_at s.bytes.now (4 * k) = λ k h. l.invariant k (omega arith) in
    rates-stored s.table.now l.rate-items s.bytes.now s.from s.rates (omega arith) long f
