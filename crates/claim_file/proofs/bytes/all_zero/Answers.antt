-- `all_zero` meets its contract. The loop's invariant: the bits so far and what is left to test decide. Assumes nothing.
use native.Mathlib.Omega.{arith}
use Prim.Native.Nat.{ℕ, ◌+◌, ◌-◌, ◌<◌}
use mathlib.Core.Path.{◌≡◌, refl, sym, ap, ◌∙◌}
use mathlib.Core.Bool.{◌&&◌}
use lib.ListN.{get_or, drop, take, length-take}
use lib.Dec.{eqb}
use lib.Bits.{bit_or}
use Rattle.std.proofs.Common.{get_or-take, get_or-drop}
use Rattle.claim_file.specs.Bytes.{byte_at, zero_from}
use Rattle.claim_file.proofs.RecordParts.{zero-step}
use Rattle.claim_file.proofs.bytes.all_zero.Goals as goal

pub loop-byte-preserved : goal.loop-byte-preserved
unfolding byte_at
loop-byte-preserved c =
    let l = c.loop-byte in
    let a = c.args in
    let i = l.byte-index in
    let n = a.from + a.count - a.from in
    let rest = drop a.from a.bytes.now in
    let here : i < n = omega (arith, length-take n rest, c.loop-byte-test.true) in
    let same : get_or (take n rest) i 0 ≡ byte_at a.bytes.now (a.from + i) = get_or-take n rest i 0 here ∙ get_or-drop a.from a.bytes.now i 0 in
    l.invariant
    ∙ zero-step a.bytes.now a.from a.count i (a.from + i) l.all (omega arith) refl
    ∙ ap (λ (b : ℕ). eqb (bit_or l.all b) 0 && zero_from a.bytes.now (a.from + (i + 1)) (a.count - (i + 1))) (sym same)
