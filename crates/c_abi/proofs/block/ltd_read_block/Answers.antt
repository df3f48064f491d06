-- `ltd_read_block` meets its contract: a block that was read has few enough claims for the list. Assumes nothing.
use mathlib.Core.Path.{◌≡◌, ap}
use native.Mathlib.Omega.{arith}
use Rattle.claim_file.specs.BlockAnswers.{BlockRead, read_of}
use Rattle.claim_file.proofs.Reading.{read_count}
use Rattle.c_abi.proofs.block.ltd_read_block.Goals as goal

pub put_records-requires-clause-count_bound : goal.put_records-requires-clause-count_bound
put_records-requires-clause-count_bound c =
    let s = c.args in
    let e : c.in-Ok.found.count ≡ (read_of s.due s.block.now).block.count = ap (λ (r : BlockRead). r.block.count) c.in-Ok.ensures in
    omega (arith, e, read_count s.due s.block.now)
