-- `rates::prepared::plain_at` meets its contract. The loop's invariant: the sums have the rates of the i places from the first on. The measure is what
-- is left of the months. Assumes nothing.
use Prim.Native.Nat.{◌+◌, ◌<◌}
use mathlib.Core.Path.{◌≡◌, refl, ◌∙◌}
use native.Mathlib.Omega.{arith}
use lib.ListN.{get_or}
use mir.Syntax.{w32, w64}
use mir.Val.{Fits}
use mir.Facts.{to_z_pos}
use borrow.Author.Rules.{rules}
use Rattle.basics.specs.Series.{sum_to}
use Rattle.rates.specs.Rates.{recovery_rate, death_rate}
use Rattle.rates.specs.design.Prepared.{rates_over}
use Rattle.rates.proofs.PartSums.{recovery-at, death-at, plain_more}
use Rattle.rates.proofs.prepared.plain_at.Goals as goal

pub loop-i-init : goal.loop-i-init
unfolding rates_over sum_to
loop-i-init c = (omega arith, refl, omega arith, omega arith, refl, refl)

pub loop-i-preserved : goal.loop-i-preserved
loop-i-preserved c =
    let recovery-high : Fits w32 (get_or c.args.part.now (c.args.first + c.loop-i.i) 0) = search rules in
    let death-high : Fits w32 (get_or c.args.part.now (479 + c.args.first + c.loop-i.i) 0) = search rules in
    let l = c.loop-i in
    let a = c.args in
    let h : a.first + l.i < 479 = omega arith in (
      omega arith,
      omega arith,
      omega (arith, recovery-high),
      omega (arith, death-high),
      plain_more (recovery_rate a.part.now 0) a.first l.i l.recoveries _ l.invariant.4 (recovery-at a.part.now a.first l.i h),
      plain_more (death_rate a.part.now 0) a.first l.i l.deaths _ l.invariant.5 (death-at a.part.now a.first l.i h),
    )

pub returns : goal.returns
returns c =
    let l = c.loop-i in
    let all : l.i ≡ c.args.months = omega arith in
    record { recoveries_value = to_z_pos w64 (omega arith) ∙ rw all at l.invariant.4; deaths_value = to_z_pos w64 (omega arith) ∙ rw all at l.invariant.5 }
