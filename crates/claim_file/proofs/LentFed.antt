-- What feeding does to a run whose sums are lent, as the code sees it: a stopped run stays as it is, and the number of the block due rises by the whole blocks
-- fed to a run that goes on.
-- Assumes nothing.
use Prim.Native.Nat.{ℕ, zero, suc, ◌+◌, ◌/◌, ◌%◌}
use mathlib.Core.Path.{◌≡◌, refl, sym, ap, ◌∙◌}
use mathlib.Core.Bool.{true, false, ◌&&◌}
use mathlib.Core.List.{List}
use native.Mathlib.Omega.{arith}
use lib.IntN.{ℤ}
use lib.ListN.{length, take, drop}
use lib.Dec.{eqb, ltb}
use borrow.Author.Tests.{eqb-true, eqb-false}
use Rattle.std.specs.Prelude.{is_some}
use Rattle.basics.specs.Pick.{pick}
use Rattle.basics.proofs.Tests.{by}
use Rattle.study.specs.declared.Study.{Study}
use Rattle.claim_file.specs.declared.LentRun.{LentRun}
use Rattle.claim_file.specs.Runs.{FileRun}
use Rattle.claim_file.specs.Block.{block_claim, claim_count}
use Rattle.claim_file.specs.Run.{Adding, begun, going_on, stops, claims_from, block_fed, blocks_fed, part_fed, fed}
use Rattle.claim_file.specs.design.LentRuns.{with_sums}
use Rattle.claim_file.proofs.Stops.{stop-number, no-stop-number}
use Rattle.claim_file.proofs.Runs.{blocks-refused, fed-refused}

-- a run that goes on behind claims, a block, blocks, some bytes
due-claims : (r : FileRun) (s : Study) (add : Adding) (bytes : List ℕ) (k n : ℕ) → (claims_from r s add bytes k n).refused ≡ 0
    → (claims_from r s add bytes k n).due ≡ r.due + 1
unfolding claims_from going_on stops
due-claims r s add bytes k zero h = refl
due-claims r s add bytes k (suc n) h =
    let a = add s (block_claim bytes k) in
    by (eqb a.refused 0)
    (λ t. (pick t (claims_from r a.study add bytes (suc k) n) (stops r a.study a.refused (suc k))).refused ≡ 0
    → (pick t (claims_from r a.study add bytes (suc k) n) (stops r a.study a.refused (suc k))).due ≡ r.due + 1)
    (λ _ g. due-claims r a.study add bytes (suc k) n g)
    (λ t g. absurd (eqb-false a.refused 0 t g)) h

due-block : (r : FileRun) (add : Adding) (bytes : List ℕ) → (block_fed r add bytes).refused ≡ 0 → (block_fed r add bytes).due ≡ r.due + 1
unfolding block_fed stops
due-block r add bytes h =
    let a = begun r.study r.due bytes in
    by (eqb a.refused 0)
    (λ t. (pick t (claims_from r a.study add bytes 0 (claim_count bytes)) (stops r a.study a.refused 0)).refused ≡ 0
    → (pick t (claims_from r a.study add bytes 0 (claim_count bytes)) (stops r a.study a.refused 0)).due ≡ r.due + 1)
    (λ _ g. due-claims r a.study add bytes 0 (claim_count bytes) g)
    (λ t g. absurd (eqb-false a.refused 0 t g)) h

free-before : (n : ℕ) (r : FileRun) (add : Adding) (bytes : List ℕ) → (blocks_fed r add bytes n).refused ≡ 0 → r.refused ≡ 0
free-before n r add bytes h =
    by (eqb r.refused 0) (λ _. r.refused ≡ 0) (λ t. eqb-true r.refused 0 t)
    (λ t. sym (ap (λ (x : FileRun). x.refused) (blocks-refused r add bytes (eqb-false r.refused 0 t) n)) ∙ h)

due-blocks : (n : ℕ) (r : FileRun) (add : Adding) (bytes : List ℕ) → (blocks_fed r add bytes n).refused ≡ 0 → (blocks_fed r add bytes n).due ≡ r.due + n
unfolding blocks_fed
due-blocks zero r add bytes h = omega arith
due-blocks (suc n) r add bytes h =
    let next = block_fed r add (take 512 bytes) in
    by (eqb r.refused 0)
    (λ t. (pick t (blocks_fed next add (drop 512 bytes) n) r).refused ≡ 0 → (pick t (blocks_fed next add (drop 512 bytes) n) r).due ≡ r.due + suc n)
    (λ _ g.
    let d = due-block r add (take 512 bytes) (free-before n next add (drop 512 bytes) g) in
    due-blocks n next add (drop 512 bytes) g ∙ omega (arith, d))
    (λ t g. absurd (eqb-false r.refused 0 t g)) h

due-fed : (r : FileRun) (add : Adding) (bytes : List ℕ) → (fed r add bytes).refused ≡ 0 → (fed r add bytes).due ≡ r.due + length bytes / 512
unfolding fed part_fed stops
due-fed r add bytes h =
    let x = blocks_fed r add bytes (length bytes / 512) in
    let left = length bytes % 512 in
    by (eqb x.refused 0 && ltb 0 left)
    (λ t. (pick t (stops x x.study 11 0) x).refused ≡ 0 → (pick t (stops x x.study 11 0) x).due ≡ r.due + length bytes / 512)
    (λ _ g. absurd (omega arith))
    (λ _ g. due-blocks (length bytes / 512) r add bytes g) h

module _ (run : LentRun) (sums : List ℤ) (add : Adding) (bytes : List ℕ) where
  pub stopped-fed : is_some run.stop ≡ true → fed (with_sums run sums) add bytes ≡ with_sums run sums
  unfolding with_sums
  stopped-fed h = fed-refused (with_sums run sums) add bytes (stop-number run.stop h)

  pub due-rises : (next : LentRun) (after : List ℤ) → with_sums next after ≡ fed (with_sums run sums) add bytes → is_some next.stop ≡ false
      → next.due ≡ run.due + length bytes / 512
  unfolding with_sums
  due-rises next after e h =
      let free = sym (ap (λ (r : FileRun). r.refused) e) ∙ no-stop-number next.stop h in
      ap (λ (r : FileRun). r.due) e ∙ due-fed (with_sums run sums) add bytes free
