-- `half_sum` meets its contract. Invariant: the columns of the rows passed, from the last one back. Assumes nothing.
use native.Mathlib.Omega.{arith}
use Rattle.claim_file.proofs.CheckColumns.{row-added}
use Rattle.claim_file.proofs.check_sum.half_sum.Goals as goal

pub loop-rows-preserved : goal.loop-rows-preserved
loop-rows-preserved c =
    let l = c.loop-rows in (
      omega arith,
      rw (c.plus_row-next_sums.ensures, c.plus_row-next_by_row.ensures)
          (row-added _ _ l.rows _ _ (omega arith) (omega arith) l.invariant.1 _ c.row_at-row.ensures.result_value c.row_at-row.ensures.value),
    )
