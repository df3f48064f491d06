-- `records_read` meets its contract. The loop's invariant: the records passed are records, and their claims stand in their places. Assumes nothing.
use Prim.Native.Nat.{ℕ, zero, suc, ◌+◌, ◌*◌, ◌<◌}
use mathlib.Core.Path.{◌≡◌, refl, ap, sym, ◌∙◌}
use mathlib.Core.Bool.{Bool, true, false, ◌&&◌, and-false}
use mathlib.Core.List.{List, ◌++◌}
use native.Mathlib.Omega.{arith}
use native.Mathlib.Numerals.{add-one}
use lib.Dec.{eqb}
use lib.ListN.{length, set, take, drop, replicate, take-append-drop}
use lib.Seq.{set-append_left, length-take-le}
use Rattle.std.specs.Prelude.{Option, Some, None}
use Rattle.basics.proofs.Tests.{tests, by}
use Rattle.claim_months.specs.declared.Claim.{Claim}
use Rattle.claim_file.specs.BlockAnswers.{no_claim, record_in}
use Rattle.c_abi.specs.RecordCalls.{is_record, all_records, claim_or, records_read}
use Rattle.c_abi.proofs.block.records_read.Goals as goal

module _ (bytes : List ℕ) where
  -- one record that is none decides
  off : (n k : ℕ) → k < n → None ≡ record_in bytes (32 * k) → all_records bytes n ≡ false
  unfolding all_records
  off zero k h e = absurd (omega arith)
  off (suc n) k h e =
      by (eqb k n) (λ _. (all_records bytes n && is_record (record_in bytes (32 * n))) ≡ false)
      (λ q. let s : n ≡ k = omega tests in ap (λ (m : Option Claim). all_records bytes n && is_record m) (ap (λ (j : ℕ). record_in bytes (32 * j)) s ∙ sym e) ∙ and-false (all_records bytes n))
      (λ q. ap (λ (t : Bool). t && is_record (record_in bytes (32 * n))) (off n k (omega tests) e))

  -- one record more
  module _ (n : ℕ) (k : Claim) (e : Some k ≡ record_in bytes (32 * n)) where
    on : all_records bytes n ≡ true → all_records bytes (n + 1) ≡ true
    unfolding all_records
    on h = ap (all_records bytes) (add-one n) ∙ (λ i. h i && is_record (sym e i))

    more : (claims : List Claim) → claims ≡ records_read bytes n → set claims n k ≡ records_read bytes (n + 1)
    unfolding records_read
    more claims q = (λ i. set (q i) n (claim_or (e i))) ∙ sym (ap (records_read bytes) (add-one n))

first : (n : ℕ) (k : Claim) → k ≡ no_claim → take n (replicate 15 k) ++ drop n (replicate 15 no_claim) ≡ replicate 15 no_claim
first n k e =
    ap (λ (z : Claim). take n (replicate 15 z) ++ drop n (replicate 15 no_claim)) e ∙ take-append-drop n (replicate 15 no_claim)

pub loop-place-init : goal.loop-place-init
unfolding all_records records_read
loop-place-init c = (refl, first c.args.count _ c.no_claim-claims.ensures)

pub returns-in_err-claim : goal.returns-in_err-claim
returns-in_err-claim c =
    let long : length (take c.args.count (replicate 15 c.no_claim-claims.result)) ≡ c.args.count = length-take-le _ _ (omega arith) in
    c.from_residual.ensures ∙ rw (off c.args.bytes.now c.args.count c.loop-place.place (omega (arith, long)) c.in_err-claim.ensures) refl

pub loop-place-preserved : goal.loop-place-preserved
loop-place-preserved c =
    let l = c.loop-place in
    let bytes = c.args.bytes.now in
    let rest = drop c.args.count (replicate 15 no_claim) in
    let new = c.in_ok-claim in (
      on bytes l.place _ new.ensures l.invariant.0,
      sym (set-append_left l.claim-items rest l.place new.field-0 (omega arith)) ∙ more bytes l.place _ new.ensures (l.claim-items ++ rest) l.invariant.1,
    )
