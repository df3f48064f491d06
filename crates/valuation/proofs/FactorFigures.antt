-- Document 01's figures of z and m in group 2. Each is shown to be the largest, or smallest, by the two tests at the place where the property turns; nothing is counted out.
-- Assumes nothing.
use Prim.Native.Nat.{ℕ, ◌+◌, min}
use mathlib.Core.Path.{◌≡◌, refl, ap, ◌∙◌}
use native.Mathlib.Omega.{arith}
use lib.IntN.{pos}
use Rattle.valuation.specs.Factor.{group_k, group_twice_a, positive, z_reaches, credibility, r_reaches, smallest, margin}
use Rattle.valuation.proofs.Laws.{largest-one, largest-at, largest-full, smallest-one, smallest-at, z-falls, credibility-is, r-rises, root_is, margin-above}

pub half : credibility 2 (pos 24750000000) ≡ 500000
unfolding z_reaches group_k positive
half = largest-one (credibility-is 2 (pos 24750000000)) (largest-at (z-falls 2 (pos 24750000000)) (omega arith) refl refl)

pub whole : credibility 2 (pos 99000000000) ≡ 1000000
unfolding z_reaches group_k positive
whole = largest-one (credibility-is 2 (pos 99000000000)) (largest-full refl)

pub short-of-whole : credibility 2 (pos 98999999999) ≡ 999999
unfolding z_reaches group_k positive
short-of-whole = largest-one (credibility-is 2 (pos 98999999999)) (largest-at (z-falls 2 (pos 98999999999)) (omega arith) refl refl)

root : smallest (r_reaches 2 1000) 2060000 ≡ 65143
unfolding r_reaches group_twice_a
root = smallest-one (root_is 2 1000 (omega arith)) (smallest-at {a = 65142} (r-rises 2 1000) refl refl)

pub margin-1000 : margin 2 1000 ≡ 95143
margin-1000 = margin-above 2 1000 (omega arith) ∙ ap (λ (r : ℕ). min 150000 (30000 + r)) root
