-- `run::row_count` meets its contract. Assumes nothing.
use Rattle.std.proofs.Common.{◌≡◌, ℕ, ◌+◌, ◌-◌, ◌*◌, ◌/◌, ◌≤◌, refl, arith, Some, None, le-leb, eq-eqb}
use mathlib.Core.Bool.{and-eq-true_iff}
use Rattle.basics.specs.Limits.{most_rows}
use Rattle.basics.specs.Pick.{pick}
use Rattle.basics.proofs.Tests.{tests, by}
use Rattle.by_duration.specs.DurationRuns.{rows_in, has_rows}
use Rattle.by_duration.proofs.run.row_count.Goals as goal
use Rattle.by_duration.proofs.run.row_count.Goals.{then-n-lt1-via-then-n-lt1, then-n-lt1-via-else-n-lt1+then-n-gt-MOST_ROWS, then-n-lt1-via-else-n-lt1+else-n-gt-MOST_ROWS+then-len-n}
use Rattle.std.specs.Prelude.{Option}

no-rows : (len n : ℕ) → n ≡ (len - 4) / 8 → (1 ≤ n → n ≤ most_rows → len ≡ 4 + 8 * n → ⊥) → ◌≡◌ {A = Option ℕ} None (pick (has_rows len) (Some (rows_in len)) None)
unfolding has_rows rows_in
no-rows len n e h =
    by (has_rows len) (λ t. ◌≡◌ {A = Option ℕ} None (pick t (Some (rows_in len)) None))
    (λ q. let t = simp and-eq-true_iff at q in absurd (h (omega (tests, t)) (omega (tests, t)) (omega (tests, t))))
    (λ q. refl)

some_rows : (len n : ℕ) → n ≡ (len - 4) / 8 → 1 ≤ n → n ≤ most_rows → len ≡ 4 + 8 * n → Some n ≡ pick (has_rows len) (Some (rows_in len)) None
unfolding has_rows rows_in
some_rows len n e low high all =
    rw (le-leb 1 ((len - 4) / 8) (omega arith), le-leb ((len - 4) / 8) most_rows (omega arith), eq-eqb len (4 + 8 * ((len - 4) / 8)) (omega arith)) (λ i. Some (e i))

pub returns-then-n-lt1 : goal.returns-then-n-lt1
returns-then-n-lt1 c =
    let s = c.saturating_sub-n.ensures in
    elim c.then-n-lt1.branch [
      | then-n-lt1-via-then-n-lt1 w ↦ no-rows c.args.len (c.saturating_sub-n.result / 8) (omega arith) (λ a b d. absurd (omega (arith, w.if-n-lt1, a)))
      | then-n-lt1-via-else-n-lt1+then-n-gt-MOST_ROWS w ↦ no-rows c.args.len (c.saturating_sub-n.result / 8) (omega arith) (λ a b d. absurd (omega (arith, w.if-n-gt-MOST_ROWS, b)))
      | then-n-lt1-via-else-n-lt1+else-n-gt-MOST_ROWS+then-len-n w ↦ no-rows c.args.len (c.saturating_sub-n.result / 8) (omega arith) (λ a b d. absurd (omega (arith, w.if-len-n, d)))
    ]

pub returns : goal.returns
returns c =
    let s = c.saturating_sub-n.ensures in
    some_rows c.args.len (c.saturating_sub-n.result / 8) (omega arith) (omega (arith, c.if-n-lt1.false)) (omega (arith, c.if-n-gt-MOST_ROWS.false)) (omega (arith, c.if-len-n.false))
