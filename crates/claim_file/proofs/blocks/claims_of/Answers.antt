-- `claims_of` meets its contract. The loop's invariant: the places passed hold their claims, the others zeros. Assumes nothing.
use Prim.Native.Nat.{ℕ}
use native.Mathlib.Omega.{arith}
use mathlib.Core.Path.{◌≡◌, refl, sym, ap, subst, ◌∙◌}
use mathlib.Core.List.{List, ◌++◌}
use lib.ListN.{length, take, drop, replicate, take-append-drop}
use lib.Seq.{length-take-le}
use Rattle.claim_months.specs.declared.Claim.{Claim}
use Rattle.claim_file.specs.Block.{claim_count}
use Rattle.claim_file.specs.BlockAnswers.{no_claim}
use Rattle.claim_file.proofs.Reading.{Placed, placed-none, placed-all}
use Rattle.claim_file.proofs.blocks.claims_of.Goals as goal

first : (bytes : List ℕ) (n : ℕ) (k : Claim) → k ≡ no_claim → Placed bytes 0 (take n (replicate 15 k) ++ drop n (replicate 15 no_claim))
first bytes n k e =
    subst (λ (l : List Claim). Placed bytes 0 l)
    (sym (ap (λ (z : Claim). take n (replicate 15 z) ++ drop n (replicate 15 no_claim)) e ∙ take-append-drop n (replicate 15 no_claim)))
    (placed-none bytes no_claim refl)

pub loop-place-init : goal.loop-place-init
loop-place-init c = first c.args.bytes.now c.args.count _ c.no_claim-claims.ensures

pub returns : goal.returns
returns c =
    let l = c.loop-place in
    let long : length l.claim-items ≡ c.args.count
    = l.auto.claim-items ∙ length-take-le c.args.count (replicate 15 c.no_claim-claims.result) (omega arith) in
    let e : l.place ≡ claim_count c.args.bytes.now = omega (arith, long, c.requires) in
    ap (λ (z : Claim). l.claim-items ++ drop c.args.count (replicate 15 z)) c.no_claim-claims.ensures ∙ placed-all _ _ (rw e at l.invariant)
