-- `put_window` meets its contract: head, dates, zeros and check, one run after another. Assumes nothing.
use native.Mathlib.Omega.{arith}
use Rattle.claim_file.proofs.WrittenBlocks.{window-written}
use Rattle.claim_file.proofs.blocks.put_window.Goals as goal

pub returns : goal.returns
returns c =
    window-written c.args.bytes.now _ _ _ _ _ c.args.first c.args.last (omega arith)
    c.put_head.ensures c.put_date.ensures c.put_date-2.ensures c.put_zeros.ensures c.put_check.ensures
