-- `ltd_study::input::read_rates` meets its contract. The loop's invariant: the rates passed are those of the bytes that came. Each turn but the last puts 512.
-- Assumes nothing.
use Prim.Native.Nat.{◌+◌, ◌*◌, ◌/◌, ◌≤◌}
use mathlib.Core.Path.{◌≡◌, refl, sym, ◌∙◌}
use mathlib.Core.Bool.{true}
use native.Mathlib.Omega.{arith}
use Rattle.ltd_study.specs.Input.{rates_fit}
use Rattle.ltd_study.proofs.Rates.{none_read, fit-so, nothing_read, all_read, read-on}
use Rattle.ltd_study.proofs.input.read_rates.Goals as goal

pub loop-filled-init : goal.loop-filled-init
loop-filled-init g c = record { read = none_read (g.F.Source.left c.args.file.now) c.args.table.now; room = c.told-table }

pub returns-then-not-are_rates : goal.returns-then-not-are_rates
returns-then-not-are_rates g c =
    let l = c.loop-filled in
    let fill = c.fill-filled in
    record {
      rates_read = nothing_read _ _ _ l.table fill.new.buffer l.rates fill.result l.invariant.read (omega (arith, fill.ensures.filling.within, fill.array_long)) fill.ensures.handed
          fill.ensures.filling fill.ensures.over (sym c.are_rates.ensures ∙ c.if-not-are_rates.true);
      upper_bound = omega arith;
    }

pub put_rates-requires : goal.put_rates-requires
put_rates-requires g c =
    let fits = (fit-so _ _ (sym c.are_rates.ensures ∙ c.if-not-are_rates.false)).1 in
    record {
      rates_in_bounds = omega (arith, c.fill-filled.ensures.filling.within, c.fill-filled.array_long);
      rates_in_bounds_2 = omega (arith, fits, c.loop-filled.invariant.room);
    }

pub returns-then-filled : goal.returns-then-filled
returns-then-filled g c =
    let l = c.loop-filled in
    let fill = c.fill-filled in
    let filled = fill.result in
    let fits : rates_fit filled.failed (4 * l.rates + filled.count) ≡ true = sym c.are_rates.ensures ∙ c.if-not-are_rates.false in
    let few : l.rates + filled.count / 4 ≤ 15328 = omega (arith, (fit-so _ _ fits).1) in
    record {
      rates_read = all_read _ _ _ l.table fill.new.buffer l.rates filled l.invariant.read (omega (arith, fill.ensures.filling.within, fill.array_long)) fill.ensures.handed
          (filled.count / 4) refl fits (omega (arith, few, l.invariant.room)) c.put_rates.new.table c.put_rates.ensures (fill.ensures.over c.if-filled.true);
      upper_bound = few;
    }

pub loop-filled-smaller : goal.loop-filled-smaller
loop-filled-smaller g c =
    let fits = (fit-so _ _ (sym c.are_rates.ensures ∙ c.if-not-are_rates.false)).1 in
    omega (arith, fits, c.fill-filled.ensures.filling.full c.if-filled.false)

pub loop-filled-preserved : goal.loop-filled-preserved
loop-filled-preserved g c =
    let l = c.loop-filled in
    let fill = c.fill-filled in
    let filled = fill.result in
    let fits : rates_fit filled.failed (4 * l.rates + filled.count) ≡ true = sym c.are_rates.ensures ∙ c.if-not-are_rates.false in
    let few : l.rates + filled.count / 4 ≤ 15328 = omega (arith, (fit-so _ _ fits).1) in
    record {
      read = read-on _ _ _ l.table fill.new.buffer l.rates filled l.invariant.read (omega (arith, fill.ensures.filling.within, fill.array_long)) fill.ensures.handed
          (filled.count / 4) refl fits (omega (arith, few, l.invariant.room)) c.put_rates.new.table c.put_rates.ensures;
      room = omega (arith, c.put_rates.auto.table, l.invariant.room);
    }
