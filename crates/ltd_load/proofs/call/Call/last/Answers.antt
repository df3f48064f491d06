-- `Call::last` meets its contract: a date that it answers is a window's with FIRST. Assumes nothing.
use Prim.Native.Nat.{ℕ}
use mathlib.Core.Path.{◌≡◌, refl, sym, ◌∙◌}
use mathlib.Core.Bool.{true}
use Rattle.std.specs.Prelude.{Err, Ok, Result, is_ok}
use Rattle.basics.specs.Pick.{pick}
use Rattle.basics.specs.declared.refusal.Refusal.{Refusal}
use Rattle.basics.specs.Refused.{numbered}
use Rattle.basics.proofs.Tests.{by}
use Rattle.calendar.specs.declared.Date.{Date}
use Rattle.claim_months.specs.declared.Window.{Window}
use Rattle.claim_months.specs.Windows.{dates_window, between, window_in}
use Rattle.ltd_load.proofs.call.Call.last.Goals as goal

no-window : (w : Window) → ◌≡◌ {A = Result Window ℕ} (Err 1) (Ok w) → ⊥
no-window w z = cc

is-window : (b e : Date) (m : Result Window Refusal) → numbered m ≡ window_in b e → is_ok m ≡ true → dates_window b e ≡ true
unfolding window_in
is-window b e (Ok w) q k =
    by (dates_window b e) (λ t. pick {A = Result Window ℕ} t (Ok (between b e)) (Err 1) ≡ Ok w → t ≡ true) (λ _ _. refl) (λ _ z. absurd (no-window w z)) (sym q)
is-window b e (Err r) q k = absurd (cc)

pub returns-in-Some : goal.returns-in-Some
returns-in-Some g c = is-window _ _ _ c.window.ensures (sym c.is_ok.ensures.value ∙ c.if-is_ok.true)
