-- `run::durations` meets its contract: behind the head stand zeros that the run's claims were added to. Assumes nothing.
use Rattle.std.proofs.Common.{◌-◌, length, take, drop, ◌++◌, refl, ◌∙◌, arith, rules, length-append}
use lib.Seq.{length-take-le}
use Rattle.by_duration.proofs.RowsTaken.{rows-found, rows-absent, absent-answered, absent-after, rows-answered, part_length, rows-after}
use Rattle.by_duration.proofs.run.durations.Goals as goal

pub returns-in_default-clause-value : goal.returns-in_default-clause-value
returns-in_default-clause-value c = absent-answered _ _ _ c.args.out.now (rows-absent (length c.args.out.now) _ c.in_default.not-Some c.row_count.ensures)

pub returns-in_default-clause-out_after : goal.returns-in_default-clause-out_after
returns-in_default-clause-out_after c = absent-after _ _ _ c.args.out.now (rows-absent (length c.args.out.now) _ c.in_default.not-Some c.row_count.ensures)

pub slice_bounds-rows-count : goal.slice_bounds-rows-count
slice_bounds-rows-count c =
    let f = rows-found (length c.args.out.now) c.in-Some.n _ c.in-Some.is c.row_count.ensures in
    omega (arith, f.length_so)

pub slice_bounds-rows-start : goal.slice_bounds-rows-start
slice_bounds-rows-start c =
    let f = rows-found (length c.args.out.now) c.in-Some.n _ c.in-Some.is c.row_count.ensures in
    omega (arith, f.length_so)

pub add_file-run-requires-clause-le_n : goal.add_file-run-requires-clause-le_n
add_file-run-requires-clause-le_n c =
    let f = rows-found (length c.args.out.now) c.in-Some.n _ c.in-Some.is c.row_count.ensures in f.low

pub add_file-run-requires-clause-rows_len : goal.add_file-run-requires-clause-rows_len
add_file-run-requires-clause-rows_len c =
    let f = rows-found (length c.args.out.now) c.in-Some.n _ c.in-Some.is c.row_count.ensures in
    c.fill.ensures.len ∙ part_length c.args.kind c.args.table.now c.args.file.now c.args.out.now c.in-Some.n f _ refl

pub put_head-requires : goal.put_head-requires
put_head-requires c =
    let f = rows-found (length c.args.out.now) c.in-Some.n _ c.in-Some.is c.row_count.ensures in
    let l = length-append (take 4 c.args.out.now) (c.add_file-run.new.rows ++ drop (length c.args.out.now - 4) (drop 4 c.args.out.now)) in
    omega (arith, l, length-take-le 4 c.args.out.now (omega (arith, f.length_so)))

pub returns-clause-value : goal.returns-clause-value
returns-clause-value c =
    let f = rows-found (length c.args.out.now) c.in-Some.n _ c.in-Some.is c.row_count.ensures in
    c.from.ensures.0 ∙ rows-answered _ _ _ c.args.out.now c.in-Some.n f _ c.add_file-run.ensures.run

pub returns-clause-out_after : goal.returns-clause-out_after
returns-clause-out_after c =
    let f = rows-found (length c.args.out.now) c.in-Some.n _ c.in-Some.is c.row_count.ensures in
    rows-after _ _ _ c.args.out.now c.in-Some.n f _ c.add_file-run.ensures.run _ _ _ (c.fill.ensures.after (λ y h. search rules)) c.add_file-run.ensures.rows_after c.put_head.ensures
