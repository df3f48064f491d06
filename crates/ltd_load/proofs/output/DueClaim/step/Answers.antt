-- `step` meets its contract: a claim that is due is not refused. Assumes nothing.
use mathlib.Core.Path.{◌≡◌, refl, sym, ap, ◌∙◌}
use mathlib.Core.Bool.{true}
use Rattle.std.specs.Prelude.{Err, Ok, Result, is_ok}
use Prim.Native.Nat.{ℕ}
use Rattle.basics.specs.declared.refusal.Refusal.{Refusal}
use Rattle.basics.specs.Refused.{numbered}
use Rattle.load.specs.declared.LoadedClaim.{LoadedClaim}
use Rattle.load.specs.Load.{drawn, load_claim, load_step}
use Rattle.load.proofs.Seeds.{answered}
use Rattle.ltd_load.specs.design.Private.{Due}
use Rattle.ltd_load.proofs.output.DueClaim.step.Goals as goal

module _ (x size number : ℕ) (due : Due x size number) where
  step-answered : load_step x size number ≡ Ok (record { claim = load_claim x number; x = drawn 5 x })
  step-answered = answered x size number due.seed_so due.size_so due.number_low due.number_high

  not-refused : (m : Result LoadedClaim Refusal) → numbered m ≡ load_step x size number → is_ok m ≡ true
  not-refused (Ok r) q = refl
  not-refused (Err e) q = absurd (cc (q ∙ step-answered))

  stepped : (r : LoadedClaim) → numbered (Ok r) ≡ load_step x size number → r ≡ record { claim = load_claim x number; x = drawn 5 x }
  stepped r q = cc (q ∙ step-answered)

pub unwrap-requires : goal.unwrap-requires
unwrap-requires c =
    let s = c.args.self in
    not-refused s.x s.size s.number s.due _ c.load_claim.ensures

pub returns : goal.returns
returns c =
    let s = c.args.self in
    stepped s.x s.size s.number s.due _ (ap numbered (sym c.unwrap.ensures) ∙ c.load_claim.ensures)
