-- `loaded` meets its contract: each draw is the next one of x, and the claim is made of the first three and of what the last two give. Assumes nothing.
use Prim.Native.Nat.{ℕ, ◌+◌, ◌%◌}
use mathlib.Core.Path.{◌≡◌, refl, ap, ◌∙◌}
use lib.Dec.{eqb}
use Rattle.calendar.specs.declared.Date.{Date}
use Rattle.calendar.specs.Calendar.{date_of}
use Rattle.claim_file.specs.BlockAnswers.{no_date}
use Rattle.load.specs.declared.Ending.{Ending}
use Rattle.load.specs.declared.LoadedClaim.{LoadedClaim}
use Rattle.load.specs.Load.{draw, drawn, disability_day, load_ep, load_status, days_to_termination, load_code, load_claim}
use Rattle.load.specs.design.Private.{ending_of}
use Rattle.load.proofs.loaded.Goals as goal

-- the claim of three draws and of what the last two give
abbrev made : ℕ → ℕ → Date → Date → Date → Ending → LoadedClaim
made number third disability bcd maximum end =
    record {
      claim =
          record {
            number = number;
            disability = disability;
            bcd = bcd;
            termination = end.termination;
            maximum = maximum;
            status = third % 2;
            code = end.code;
            cell = 0;
            benefit = 0;
          };
      x = end.x;
    }

abbrev of_draws : ℕ → ℕ → ℕ → ℕ → LoadedClaim
of_draws number first second third =
    let bcd = first % 20000 + (15 + second % 351) in
    made number third (date_of (first % 20000)) (date_of bcd) no_date (ending_of (eqb (third % 2) 1) bcd third)

module _ (x number first second third : ℕ) where
  drawn-five : first ≡ draw x → second ≡ draw first → third ≡ draw second → of_draws number first second third ≡ record { claim = load_claim x number; x = drawn 5 x }
  unfolding load_claim disability_day load_ep load_status days_to_termination load_code drawn ending_of
  drawn-five a b c =
      let q = b ∙ ap draw a in
      let r = c ∙ ap draw q in
      λ i. of_draws number (a i) (q i) (r i)

  is_made : (disability bcd maximum : Date) (end : Ending)
      → disability ≡ date_of (first % 20000)
      → bcd ≡ date_of (first % 20000 + (15 + second % 351))
      → maximum ≡ no_date
      → end ≡ ending_of (eqb (third % 2) 1) (first % 20000 + (15 + second % 351)) third
      → made number third disability bcd maximum end ≡ of_draws number first second third
  is_made disability bcd maximum end d b m e = λ i. made number third (d i) (b i) (m i) (e i)

pub returns : goal.returns
returns c =
    let s = c.args in
    is_made s.x s.number c.draw-first.result c.draw-second.result c.draw-third.result _ _ _ c.last_draws-end.result c.date_on.ensures c.date_on-2.ensures
    refl c.last_draws-end.ensures
    ∙ drawn-five s.x s.number c.draw-first.result c.draw-second.result c.draw-third.result c.draw-first.ensures c.draw-second.ensures c.draw-third.ensures
