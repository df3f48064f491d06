-- Document 02, request No. 8: pools in any grouping. Group offices pool regions first or lines of business first, and the totals must not
-- depend on it.
use Rattle.std.specs.Prelude.{ℕ, ◌≤◌, List, [], ◌∷◌, ◌++◌, length}
use Rattle.basics.specs.Limits.{most_claims}
use Rattle.basics.specs.Checks.{◌then◌}
use Rattle.claim_months.specs.declared.Claim.{Claim}
use Rattle.claim_months.specs.declared.Window.{Window}
use Rattle.study.specs.declared.Study.{Study}
use Rattle.study.specs.Moves.{Move, remaining, Allowed, Dates, dates_of, Accepted, moved_at}
use Rattle.study.specs.Joining.{joined, SameClaims}

-- A tree of joins: a leaf is a study built by some moves (no moves: a fresh study), a join pools two trees
pub data PoolTree : Type 0 where
  leaf : List Move → PoolTree
  join : PoolTree → PoolTree → PoolTree

-- its leaves, from the left, and the claims remaining in them
unfoldable pub leaves : PoolTree → List (List Move)
leaves (leaf ms) = ms ∷ []
leaves (join t u) = leaves t ++ leaves u

unfoldable pub tree_claims : List ℕ → PoolTree → List Claim
tree_claims rates (leaf ms) = remaining rates ms
tree_claims rates (join t u) = tree_claims rates t ++ tree_claims rates u

-- the pooled study of a window, and the number of the first join that refuses, or 0
unfoldable pub pooled : List ℕ → Dates → PoolTree → Study
pooled rates d (leaf ms) = moved_at rates ms d
pooled rates d (join t u) = (joined (pooled rates d t) (pooled rates d u)).study

unfoldable pub pool_refusal : List ℕ → Dates → PoolTree → ℕ
pool_refusal rates d (leaf ms) = 0
pool_refusal rates d (join t u) =
    pool_refusal rates d t then pool_refusal rates d u then (joined (pooled rates d t) (pooled rates d u)).refused

-- every withdrawal in it is allowed
unfoldable pub AllowedTree : List ℕ → PoolTree → Type 0
AllowedTree rates (leaf ms) = Allowed rates ms
AllowedTree rates (join t u) = AllowedTree rates t × AllowedTree rates u

-- a window that is accepted, and a tree of studies built in it with one table that together hold at most 500,000 claims
abbrev pub Pools : List ℕ → Dates → PoolTree → Type 0
Pools rates d t = Accepted d × AllowedTree rates t × (length (tree_claims rates t) ≤ most_claims)

-- a window with a tree, and that its claims are those of another pool, up to order
pub record TreeIn : Type 0 where
  pub dates : Dates
  pub tree : PoolTree

abbrev pub tree_window : TreeIn → Window
tree_window p = dates_of p.dates

abbrev pub PoolsSame : List ℕ → List Claim → TreeIn → Type 0
PoolsSame rates cs p = Pools rates p.dates p.tree × SameClaims (tree_claims rates p.tree) cs

abbrev pub pooled_in : List ℕ → TreeIn → Study
pooled_in rates p = pooled rates p.dates p.tree
