-- `put_claim` meets its contract: number, dates, status, code, cell, benefit and the zeros, one run after another. Assumes nothing.
use mathlib.Core.Path.{refl, ap, ◌∙◌}
use lib.Seq.{sets}
use Prim.Native.Nat.{ℕ, ◌+◌, ◌/◌, ◌%◌}
use mathlib.Core.List.{List, [], ◌∷◌, ◌++◌}
use Rattle.claim_file.specs.Bytes.{two, date_bytes, zeros}
use Rattle.claim_file.specs.Record.{claim_bytes}
use Rattle.basics.proofs.Stores.{run}
use Rattle.claim_file.proofs.ByteStores.{four_bytes}
use Rattle.claim_file.proofs.record.put_claim.Goals as goal

pub returns : goal.returns
unfolding claim_bytes zeros
returns c =
    let s = c.args in
    let k = s.claim in
    let n = two (k.number % 65536) ++ two (k.number / 65536) in
    let ds = date_bytes k.disability ++ (date_bytes k.bcd ++ (date_bytes k.termination ++ date_bytes k.maximum)) in
    let r1 = run s.bytes.now _ _ n ds s.at (s.at + 4) refl c.put_four.ensures c.put_dates.ensures in
    let r2 = run s.bytes.now _ _ (n ++ ds) (k.status ∷ []) s.at (s.at + 20) refl r1 refl in
    let r3 = run s.bytes.now _ _ (n ++ (ds ++ (k.status ∷ []))) (k.code ∷ []) s.at (s.at + 21) refl r2 refl in
    let r4 = run s.bytes.now _ _ (n ++ (ds ++ (k.status ∷ k.code ∷ []))) (two k.cell) s.at (s.at + 22) refl r3 c.put_two.ensures in
    let r5 = run s.bytes.now _ _ (n ++ (ds ++ (k.status ∷ k.code ∷ two k.cell))) (k.benefit ∷ []) s.at (s.at + 24) refl r4 refl in
    run s.bytes.now _ _ (n ++ (ds ++ (k.status ∷ k.code ∷ (two k.cell ++ (k.benefit ∷ []))))) (zeros 7) s.at (s.at + 25) refl r5
    c.put_zeros.ensures
    ∙ ap (λ (b : List ℕ). sets s.bytes.now s.at (b ++ (ds ++ (k.status ∷ k.code ∷ (two k.cell ++ (k.benefit ∷ zeros 7))))))
    (four_bytes k.number)
