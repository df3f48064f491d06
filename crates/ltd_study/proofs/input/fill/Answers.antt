-- `ltd_study::input::fill` meets its contract. The loop's invariant: what the buffer holds so far was handed out. Assumes nothing.
use Prim.Native.Nat.{◌+◌, ◌-◌}
use mathlib.Core.Path.{refl, ◌∙◌}
use native.Mathlib.Omega.{arith}
use borrow.Rule.Slice.PartMut.{same_len_mid, mid_len}
use Rattle.ltd_study.proofs.Sources.{hands-none, filled-on}
use Rattle.ltd_study.proofs.input.fill.Goals as goal

pub loop-done-init : goal.loop-done-init
loop-done-init g c = record { within = omega arith; long = c.told-buffer; handed = hands-none (g.S.Source.left c.args.source.now) }

pub loop-done-preserved : goal.loop-done-preserved
loop-done-preserved g c =
    let l = c.loop-done in
    let some = c.read_some-some in
    record {
      within = omega (arith, some.ensures.within, some.auto.bytes, mid_len l.done 2048 l.buffer (omega (arith, l.invariant.long)), c.loop-done-test.true);
      long = same_len_mid l.done (2048 - l.done) l.buffer some.new.bytes some.auto.bytes ∙ l.invariant.long;
      handed =
          filled-on l.buffer some.new.bytes l.done some.result.count (2048 - l.done) (l.done + some.result.count) _ _ _ (omega (arith, l.invariant.within, l.invariant.long))
          some.ensures.within refl l.invariant.handed some.ensures.handed;
    }

pub returns-then-some-clause-handed : goal.returns-then-some-clause-handed
returns-then-some-clause-handed g c =
    let l = c.loop-done in
    let some = c.read_some-some in
    filled-on l.buffer some.new.bytes l.done some.result.count (2048 - l.done) l.done _ _ _ (omega (arith, l.invariant.within, l.invariant.long))
    some.ensures.within (omega (arith, some.ensures.none c.if-some.true)) l.invariant.handed some.ensures.handed
