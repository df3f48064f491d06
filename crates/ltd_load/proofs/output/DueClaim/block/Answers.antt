-- `DueClaim::block` meets its contract: it fills a block's places step by step. Assumes nothing.
use mathlib.Core.Path.{◌≡◌, sym, ◌∙◌}
use native.Mathlib.Omega.{arith}
use lib.ListN.{length}
use lib.Seq.{length-take-le}
use Rattle.ltd_load.specs.design.Private.{count_from}
use Rattle.ltd_load.proofs.BlockClaims.{none_filled, next-due, more-filled, all-filled}
use Rattle.ltd_load.proofs.output.DueClaim.block.Goals as goal

pub slice_bounds-claims-end : goal.slice_bounds-claims-end
unfolding count_from
slice_bounds-claims-end c = omega (arith, c.from.ensures, c.count-count.ensures)

pub slice_bounds-claim-items-end : goal.slice_bounds-claim-items-end
unfolding count_from
slice_bounds-claim-items-end c = sym (length-take-le c.from.result _ (omega (arith, c.from.ensures, c.count-count.ensures)))

pub loop-place-init : goal.loop-place-init
loop-place-init c = none_filled _ _ _

pub invariant_of-due : goal.invariant_of-due
unfolding count_from
invariant_of-due c =
    let l = c.loop-place in
    let long : length l.claim-items ≡ c.count-count.result
    = l.auto.claim-items ∙ length-take-le c.from.result _ (omega (arith, c.from.ensures, c.count-count.ensures)) ∙ c.from.ensures in
    record { due = next-due c.args.self.x _ _ l.place l.reached c.args.self.due (omega (arith, long, c.count-count.ensures)) l.invariant.reached-so }

pub loop-place-preserved : goal.loop-place-preserved
loop-place-preserved c =
    let l = c.loop-place in
    more-filled _ _ l.claim-items l.reached l.place c.step-loaded.result l.invariant (omega arith) c.step-loaded.ensures

pub returns : goal.returns
unfolding count_from
returns c =
    let l = c.loop-place in
    let long : length l.claim-items ≡ c.count-count.result
    = l.auto.claim-items ∙ length-take-le c.from.result _ (omega (arith, c.from.ensures, c.count-count.ensures)) ∙ c.from.ensures in
    let all : l.place ≡ c.count-count.result = omega (arith, long) in
    all-filled _ _ _ l.claim-items _ l.reached c.count-count.result c.count-count.ensures long (rw all at l.invariant)
