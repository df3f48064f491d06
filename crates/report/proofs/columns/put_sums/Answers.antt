-- `put_sums` meets its contract. Invariant: the first `column` columns stand, one behind another. Measure: the columns left. Assumes nothing.
use Prim.Native.Nat.{ℕ, suc, ◌+◌, ◌*◌}
use mathlib.Core.Path.{◌≡◌, ap, ◌∙◌}
use mathlib.Core.List.{List, ◌++◌}
use native.Mathlib.Omega.{arith}
use lib.IntN.{ℤ}
use mir.Facts.{to_z-of_z}
use mir.Syntax.{w64}
use Rattle.study.specs.Sums.{sum_at}
use Rattle.report.specs.Text.{sum_column, sum_columns}
use Rattle.report.specs.design.Private.{Put}
use Rattle.report.proofs.Texts.{and_then, renamed, shorter, length-kept, nothing}
use Rattle.report.proofs.columns.put_sums.Goals as goal

module _ (s : List ℤ) (g k : ℕ) where
  one_more : sum_columns s g k ++ sum_column (sum_at s g k) ≡ sum_columns s g (k + 1)
  unfolding sum_columns
  one_more = let e : suc k ≡ k + 1 = omega arith in ap (sum_columns s g) e

  -- one column more behind the others
  step : {l a b : List ℕ} {at j r x : ℕ} {z : ℤ} → Put (21 * k) l at (sum_columns s g k) a j → Put 21 a j (sum_column z) b r → z ≡ sum_at s g x
      → x ≡ k → Put (21 * (k + 1)) l at (sum_columns s g (k + 1)) b r
  step p q e h =
      let t = renamed (and_then p (renamed q (ap sum_column (e ∙ ap (sum_at s g) h)))) one_more in
      shorter (21 * (k + 1)) t (omega (arith, t.within))

pub loop-column-init : goal.loop-column-init
unfolding sum_columns
loop-column-init c = let s = c.args in nothing s.line.now s.at 0

pub put_sum-next-requires : goal.put_sum-next-requires
put_sum-next-requires c =
    let p = c.loop-column.invariant in
    omega (arith, p.behind, p.within, length-kept p)

pub loop-column-preserved : goal.loop-column-preserved
loop-column-preserved c =
    let s = c.args in
    step s.sums.now s.group c.loop-column.column c.loop-column.invariant c.put_sum-next.ensures
    (to_z-of_z {w = w64} (record { sfits = c.sum_at.type_inv }) ∙ c.sum_at.ensures) (omega arith)

pub returns : goal.returns
returns c =
    let l = c.loop-column in
    let s = c.args in
    let e : l.column ≡ 8 = omega arith in
    let p = renamed l.invariant (ap (sum_columns s.sums.now s.group) e) in
    shorter 168 p (omega (arith, p.within))

pub shape_of-line : goal.shape_of-line
shape_of-line c = length-kept c.loop-column.invariant
