-- Document 02, request No. 8, the statement: pools in any grouping are one study.
use Rattle.std.specs.Prelude.{ℕ, ◌≡◌, List, []}
use Rattle.claim_months.specs.Windows.{Parts, total}
use Rattle.study.specs.Sums.{plus}
use Rattle.study.specs.Study.{study_of, fresh}
use Rattle.study.specs.Moves.{Dates, dates_of, Accepted}
use Rattle.study.specs.Joining.{SameClaims}
use Rattle.study.specs.PoolTrees.{PoolTree, leaf, join, tree_claims, pooled, pool_refusal, Pools, TreeIn, tree_window, PoolsSame, pooled_in}

-- Request No. 8. `proofs/AnyGrouping.antt` proves it
pub record AnyGrouping : Type 0 where
  -- every join in the tree answers 0, and the result is the study of all claims remaining
  pub accepted : (rates : List ℕ) (d : Dates) (t : PoolTree) → Pools rates d t → pool_refusal rates d t ≡ 0
  pub study : (rates : List ℕ) (d : Dates) (t : PoolTree) → Pools rates d t → pooled rates d t ≡ study_of (dates_of d) rates (tree_claims rates t)
  -- however the same claims are pooled, with any number of fresh studies among them: one and the same study
  pub same : (rates : List ℕ) (d : Dates) (t u : PoolTree) → Pools rates d t → Pools rates d u → SameClaims (tree_claims rates t) (tree_claims rates u)
      → pooled rates d t ≡ pooled rates d u
  -- the order of two doesn't matter, the grouping of three doesn't matter, a fresh study is neutral on either side
  pub order : (rates : List ℕ) (d : Dates) (t u : PoolTree) → Pools rates d (join t u) → pooled rates d (join t u) ≡ pooled rates d (join u t)
  pub grouping : (rates : List ℕ) (d : Dates) (t u v : PoolTree) → Pools rates d (join (join t u) v)
      → pooled rates d (join (join t u) v) ≡ pooled rates d (join t (join u v))
  pub neutral : (rates : List ℕ) (d : Dates) (t : PoolTree) → Pools rates d t
      → (pooled rates d (join t (leaf [])) ≡ pooled rates d t) × (pooled rates d (join (leaf []) t) ≡ pooled rates d t)
  pub fresh_leaf : (rates : List ℕ) (d : Dates) → Accepted d → pooled rates d (leaf []) ≡ fresh (dates_of d)
  -- pools of the parts, each in its own tree and with the same claims remaining as the whole window's pool, up to order, total that pool
  pub parts_total : (rates : List ℕ) (whole part : TreeIn) (parts : List TreeIn) → Pools rates whole.dates whole.tree
      → Parts (PoolsSame rates (tree_claims rates whole.tree)) tree_window (tree_window whole).first.0 (tree_window whole).last.0 part parts
      → total plus (λ p. (pooled_in rates p).sums) part parts ≡ (pooled_in rates whole).sums
