-- Runs of stores into a list: one run after another is one run.
-- Assumes nothing.
use Prim.Native.Nat.{ℕ, suc, ◌+◌}
use mathlib.Core.Path.{◌≡◌, ap, ◌∙◌}
use mathlib.Core.List.{List, [], ◌∷◌, ◌++◌}
use native.Mathlib.Omega.{arith}
use lib.ListN.{length, set}
use lib.Seq.{sets}

module _ {A : Type 0} where
  -- a run that starts where the one before it ends
  sets_more : (l : List A) (i : ℕ) (xs ys : List A) (j : ℕ) → j ≡ i + length xs → sets (sets l i xs) j ys ≡ sets l i (xs ++ ys)
  sets_more l i [] ys j e = let q : j ≡ i = omega arith in ap (λ (k : ℕ). sets l k ys) q
  sets_more l i (x ∷ xs) ys j e = sets_more (set l i x) (suc i) xs ys j (omega arith)

  -- the same of lists that were left by two runs
  pub run : (l a b xs ys : List A) (i j : ℕ) → j ≡ i + length xs → a ≡ sets l i xs → b ≡ sets a j ys → b ≡ sets l i (xs ++ ys)
  run l a b xs ys i j e p q = q ∙ ap (λ (m : List A). sets m j ys) p ∙ sets_more l i xs ys j e
