-- Where a run was refused, by number: 0 where it was not, and else a number from 1 on.
-- Assumes nothing.
use mathlib.Core.Path.{◌≡◌, refl, ap}
use mathlib.Core.Bool.{true, false}
use native.Mathlib.Omega.{arith}
use Rattle.std.specs.Prelude.{Option, Some, None, is_some, Result, Ok, Err}
use Rattle.basics.specs.declared.refusal.Refusal.{Refusal}
use Rattle.basics.specs.Refused.{number_refused, number_in}
use Rattle.basics.proofs.Refused.{numbered-from-1}
use Rattle.claim_file.specs.declared.Stop.{Stop}
use Rattle.claim_file.specs.Runs.{stop_number}

pub stop-number : (s : Option Stop) → is_some s ≡ true → stop_number s ≡ 0 → ⊥
stop-number None h e = cc
stop-number (Some s) h e = absurd (omega (arith, e, numbered-from-1 s.refusal))

pub no-stop : (s : Option Stop) → is_some s ≡ false → s ≡ None
no-stop None h = refl
no-stop (Some s) h = cc

pub no-stop-number : (s : Option Stop) → is_some s ≡ false → stop_number s ≡ 0
no-stop-number s h = ap stop_number (no-stop s h)

pub ruleset stop_numbers = (stop-number, no-stop-number)

-- an answer that is no refusal
pub passed : {A : Type 0} (r : Result A Refusal) → ((e : Refusal) → r ≡ Err e → ⊥) → number_refused r ≡ 0
passed (Ok x) h = refl
passed (Err e) h = absurd (h e refl)

pub none-in : (r : Option Refusal) → ((e : Refusal) → r ≡ Some e → ⊥) → number_in r ≡ 0
none-in None h = refl
none-in (Some e) h = absurd (h e refl)
