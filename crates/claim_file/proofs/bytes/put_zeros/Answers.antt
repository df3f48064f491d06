-- `put_zeros` meets its contract. Assumes nothing.
use native.Mathlib.Omega.{arith}
use Prim.Native.Nat.{ℕ, ◌+◌, ◌-◌}
use mathlib.Core.Path.{◌≡◌, refl, sym, ap, ◌∙◌}
use mathlib.Core.List.{List, ◌++◌}
use lib.ListN.{length, replicate, take, drop, length-take, length-drop}
use lib.Seq.{take-length}
use Rattle.std.proofs.Common.{rules}
use Rattle.std.proofs.lemmas.Slice.{put_mid-paste}
use Rattle.std.proofs.lemmas.List.Edits.{sets-eq}
use Rattle.claim_file.specs.Bytes.{zeros}
use Rattle.claim_file.proofs.ByteStores.{length-zeros, zeros-replicate}
use Rattle.claim_file.proofs.bytes.put_zeros.Goals as goal

pub returns : goal.returns
returns c =
    let a = c.args in
    let bytes : List ℕ = a.bytes.now in
    let zs : List ℕ = zeros a.count in
    let n = length-zeros a.count in
    let k = a.from + a.count - a.from in
    let size : length (take k (drop a.from bytes)) ≡ a.count = omega (arith, length-take k (drop a.from bytes), length-drop a.from bytes) in
    let filled : c.fill.new.self ≡ zs = c.fill.ensures.after (λ y h. search rules) ∙ ap (λ (m : ℕ). replicate m 0) size ∙ zeros-replicate a.count in
    put_mid-paste a.from k bytes _ zs (length zs) filled (omega arith) refl
    ∙ ap (λ (ys : List ℕ). take a.from bytes ++ ys ++ drop (a.from + length zs) bytes) (take-length zs)
    ∙ sym (sets-eq zs bytes a.from (omega arith))
