-- An array that calls of one closure fill place by place.
-- Assumes nothing.
use Prim.Native.Nat.{ℕ, zero, suc, ◌+◌, ◌≤◌, ◌<◌}
use mathlib.Core.Path.{◌≡◌, subst, sym}
use mathlib.Core.List.{List}
use lib.Dec.{eqb}
use lib.ListN.{get_or}
use denote.Param.Members.{Mut, Called}
use Rattle.std.specs.Array.{IsFromFnResultFrom}
use Rattle.basics.proofs.Tests.{tests, by}

-- where each call leaves the closure as it was, what holds of each call's answer holds of what stands at its place
module _ {F B : Type 0} (g : Mut F (ℕ × Unit {0}) B) (f : F) (P : ℕ → B → Type 0)
    (same : (k : ℕ) (y : B) (q : F) → Called g f (k, tt) y q → P k y × (q ≡ f)) (ys : List B) (z : B) where
  pub filled-by : (n i : ℕ) → IsFromFnResultFrom g f ys i n → (k : ℕ) → i ≤ k → k < i + n → P k (get_or ys k z)
  filled-by zero i r k l h = absurd (omega tests)
  filled-by (suc n) i r k l h =
      let call = same i r.1 r.0 r.3 in
      by (eqb k i) (λ _. P k (get_or ys k z))
      (λ e. let s : i ≡ k = omega tests in subst (λ (j : ℕ). P j (get_or ys j z)) s (subst (P i) (sym (r.2.1 z)) call.0))
      (λ e. filled-by n (i + 1) (subst (λ (q : F). IsFromFnResultFrom g q ys (i + 1) n) call.1 r.4) k (omega tests) (omega tests))
