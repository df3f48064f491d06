-- `valuation::wanted_count::first_reaching` meets its contract. The loop's invariant: low falls short, and high reaches the wanted T unless it is 500,001.
-- So where they are neighbours the one after low is the smallest count that reaches it. The measure is high - low, which each turn about halves. Assumes nothing.
use Prim.Native.Nat.{◌+◌}
use mathlib.Core.Path.{◌≡◌, sym, ◌∙◌}
use native.Mathlib.Omega.{arith}
use Rattle.valuation.proofs.WantedLaws.{none_needed, search-ends}
use Rattle.valuation.proofs.wanted_count.first_reaching.Goals as goal

pub returns-then-reaches : goal.returns-then-reaches
returns-then-reaches c = none_needed _ _ _ (sym c.reaches.ensures ∙ c.if-reaches.true)

pub loop-low-init : goal.loop-low-init
loop-low-init c = (omega arith, omega arith, sym c.reaches.ensures ∙ c.if-reaches.false, λ h. absurd (omega arith))

pub reaches-requires-in-loop-low : goal.reaches-requires-in-loop-low
reaches-requires-in-loop-low c = (c.credibility_of-z.ensures, omega arith)

pub loop-low-preserved-then-reaches-2 : goal.loop-low-preserved-then-reaches-2
loop-low-preserved-then-reaches-2 c =
    let i = c.loop-low.invariant in
    (omega arith, omega arith, i.2, λ h. sym c.reaches-in-loop-low.ensures ∙ c.if-reaches-2.true)

pub loop-low-preserved : goal.loop-low-preserved
loop-low-preserved c =
    let i = c.loop-low.invariant in
    (omega arith, i.1, sym c.reaches-in-loop-low.ensures ∙ c.if-reaches-2.false, i.3)

pub returns : goal.returns
returns c =
    let i = c.loop-low.invariant in
    let neighbours : c.loop-low.high ≡ c.loop-low.low + 1 = omega arith in
    sym neighbours ∙ search-ends _ _ _ _ _ neighbours i.1 i.2 i.3
