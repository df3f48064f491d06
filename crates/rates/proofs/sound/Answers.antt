-- `rates::sound` meets its contract. The loop's invariant: `all` says whether the i durations from 2 on are sound. The measure is what is left of the
-- 479. Assumes nothing.
use mathlib.Core.Path.{◌≡◌, refl}
use native.Mathlib.Omega.{arith}
use Rattle.rates.specs.Rates.{rates_sound_to, rates_sound}
use Rattle.rates.proofs.Preparing.{sound_more}
use Rattle.rates.proofs.sound.Goals as goal

pub loop-i-init : goal.loop-i-init
unfolding rates_sound_to
loop-i-init c = (omega arith, refl)

pub loop-i-preserved : goal.loop-i-preserved
loop-i-preserved c =
    let l = c.loop-i in
    (omega arith, sound_more _ l.i l.all _ (omega arith) l.invariant.1 c.are_sound-all.ensures)

pub returns : goal.returns
unfolding rates_sound
returns c =
    let e : c.loop-i.i ≡ 479 = omega arith in
    rw e at c.loop-i.invariant.1
