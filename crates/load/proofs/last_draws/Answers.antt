-- `last_draws` meets its contract: both draws are made before the test. Assumes nothing.
use Prim.Native.Nat.{ℕ, ◌+◌, ◌%◌}
use mathlib.Core.Path.{◌≡◌, refl, ap, ◌∙◌}
use mathlib.Core.Bool.{Bool, true, false}
use native.Mathlib.Omega.{arith}
use Rattle.calendar.specs.declared.Date.{Date}
use Rattle.calendar.specs.Calendar.{date_of}
use Rattle.claim_file.specs.BlockAnswers.{no_date}
use Rattle.load.specs.Load.{draw}
use Rattle.load.specs.design.Private.{ending_of}
use Rattle.load.proofs.last_draws.Goals as goal

module _ (closed : Bool) (bcd x fourth fifth : ℕ) (p : fourth ≡ draw x) (q : fifth ≡ draw fourth) (d : Date) (k y : ℕ) where
  last : y ≡ fifth → y ≡ draw (draw x)
  last e = e ∙ q ∙ ap draw p

  closed-end : closed ≡ true → d ≡ date_of (bcd + fourth % 4000) → k ≡ 1 + fifth % 5 → y ≡ fifth
      → record { termination = d; code = k; x = y } ≡ ending_of closed bcd x
  unfolding ending_of
  closed-end t e c r =
      rw t
      (λ i.
      record {
        termination = (e ∙ ap (λ (n : ℕ). date_of (bcd + n % 4000)) p) i;
        code = (c ∙ ap (λ (n : ℕ). 1 + n % 5) (q ∙ ap draw p)) i;
        x = last r i;
      })

  open-end : closed ≡ false → d ≡ no_date → k ≡ 0 → y ≡ fifth → record { termination = d; code = k; x = y } ≡ ending_of closed bcd x
  unfolding ending_of
  open-end t e c r = rw t (λ i. record { termination = e i; code = c i; x = last r i })

pub returns-then-closed : goal.returns-then-closed
returns-then-closed c =
    closed-end _ _ _ _ _ c.draw-fourth.ensures c.draw-fifth.ensures _ _ _ c.if-closed.true c.date_on.ensures (omega arith) (omega arith)

pub returns : goal.returns
returns c =
    open-end _ _ _ _ _ c.draw-fourth.ensures c.draw-fifth.ensures _ _ _ c.if-closed.false refl (omega arith) (omega arith)
