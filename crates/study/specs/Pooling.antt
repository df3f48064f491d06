-- Document 02, request No. 3, the statement: two studies joined are the study of both lists of claims.
use Rattle.std.specs.Prelude.{ℕ, ◌≤◌, ◌≡◌, List, length, leb}
use Rattle.basics.specs.Pick.{pick}
use Rattle.basics.specs.Limits.{most_claims}
use Rattle.basics.specs.Checks.{refuse_full}
use Rattle.claim_months.specs.declared.Claim.{Claim}
use Rattle.claim_months.specs.Windows.{Parts, total}
use Rattle.study.specs.Sums.{plus}
use Rattle.study.specs.Study.{study_of, opened}
use Rattle.study.specs.Joining.{added_all, SameClaims, Pool, pool_answer, pool_claims, pool_window, Poolable, PoolsClaims}

-- Request No. 3, of built studies of one accepted window and one table. `proofs/Pooling.antt` proves it
pub record Pooling : Type 0 where
  -- the answer is 0 exactly if together they hold at most 500,000 claims, else 9
  pub answer : (rates : List ℕ) (p : Pool) → Poolable rates p
      → (pool_answer rates p).refused ≡ pick (leb (length (pool_claims rates p)) most_claims) 0 refuse_full
  -- then the study is that of both lists of claims remaining, one after the other, and the one that adding their claims, in any order, to a fresh study
  -- returns
  pub study : (rates : List ℕ) (p : Pool) → Poolable rates p → length (pool_claims rates p) ≤ most_claims
      → (pool_answer rates p).study ≡ study_of (pool_window p) rates (pool_claims rates p)
  pub added_study : (rates : List ℕ) (p : Pool) (cs : List Claim) → Poolable rates p → length (pool_claims rates p) ≤ most_claims
      → SameClaims cs (pool_claims rates p)
      → (pool_answer rates p).study ≡ added_all rates (opened p.dates.first p.dates.last).study cs
  -- where a whole window and its consecutive parts are pooled likewise, the pooled parts total the pooled whole in both sets
  pub parts_total : (rates : List ℕ) (whole part : Pool) (parts : List Pool) → PoolsClaims rates (pool_claims rates whole) whole
      → Parts (PoolsClaims rates (pool_claims rates whole)) pool_window (pool_window whole).first.0 (pool_window whole).last.0 part parts
      → total plus (λ p. (pool_answer rates p).study.sums) part parts ≡ (pool_answer rates whole).study.sums
