-- A run may be fed a file in pieces: after a whole number of blocks it goes on as if all bytes had come at once.
-- Assumes nothing.
use Prim.Native.Nat.{ℕ, zero, suc, ◌*◌, ◌/◌, ◌≤◌}
use mathlib.Core.Path.{◌≡◌, refl, sym, ap, ◌∙◌}
use mathlib.Core.List.{List, [], ◌∷◌, ◌++◌}
use native.Mathlib.Omega.{arith}
use lib.ListN.{length, take, drop, length-append, length-drop}
use lib.Seq.{take-append-le, drop-append-le}
use lib.Dec.{eqb}
use borrow.Author.Tests.{eqb-true, eqb-false}
use Rattle.basics.proofs.Tests.{by}
use Rattle.claim_file.specs.Runs.{FileRun}
use Rattle.claim_file.specs.Run.{Adding, block_fed, fed}
use Rattle.claim_file.specs.FedInPieces.{FedInPieces}
use Rattle.claim_file.proofs.Runs.{fed-refused, fed-none, fed-block}

none_first : (r : FileRun) (add : Adding) (a b : List ℕ) → length a ≡ 0 → fed (fed r add a) add b ≡ fed r add (a ++ b)
none_first r add [] b e = ap (λ (x : FileRun). fed x add b) (fed-none r add [] refl)
none_first r add (x ∷ a) b e = absurd (omega arith)

pieces : (n : ℕ) (r : FileRun) (add : Adding) (a b : List ℕ) → length a ≡ 512 * n → fed (fed r add a) add b ≡ fed r add (a ++ b)
pieces zero r add a b e = none_first r add a b (omega arith)
pieces (suc n) r add a b e =
    let l : 512 ≤ length a = omega arith in
    by (eqb r.refused 0) (λ _. fed (fed r add a) add b ≡ fed r add (a ++ b))
    (λ t.
    let u = eqb-true r.refused 0 t in
    let first = block_fed r add (take 512 a) in
    let w : 512 ≤ length (a ++ b) = omega (arith, length-append a b) in
    ap (λ (x : FileRun). fed x add b) (fed-block r add a u l)
    ∙ pieces n first add (drop 512 a) b (omega (arith, length-drop 512 a))
    ∙ sym
    (fed-block r add (a ++ b) u w
    ∙ ap (λ (p : List ℕ). fed (block_fed r add p) add (drop 512 (a ++ b))) (take-append-le 512 a b l)
    ∙ ap (fed first add) (drop-append-le 512 a b l)))
    (λ t.
    let h = eqb-false r.refused 0 t in
    ap (λ (x : FileRun). fed x add b) (fed-refused r add a h) ∙ fed-refused r add b h ∙ sym (fed-refused r add (a ++ b) h))

pub fed-in-pieces : FedInPieces
fed-in-pieces r add a b e = pieces (length a / 512) r add a b (omega arith)
