-- `wrapping::raise` meets its contract: the sum of the bits is that of the numbers modulo 2⁶⁴.
-- Assumes nothing.
use Rattle.std.proofs.Common.{get_or, set, pos, ap, w64, SFits, rules}
use Rattle.by_duration.proofs.Wraps.{wrapped}
use Rattle.by_duration.proofs.wrapping.raise.Goals as goal

pub returns : goal.returns
returns c =
    let fits : SFits w64 (get_or c.args.rows.now c.args.place (pos 0)) = search rules in
    ap (set c.args.rows.now c.args.place) (wrapped _ _ fits c.ranges.amount)
