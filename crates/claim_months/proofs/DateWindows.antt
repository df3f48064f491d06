-- What the window of two dates says.
-- Assumes nothing.
use Prim.Native.Nat.{ℕ}
use mathlib.Core.Path.{◌≡◌}
use mathlib.Core.Bool.{true, false, ◌&&◌}
use Rattle.basics.specs.Pick.{pick}
use Rattle.basics.specs.Checks.{refuse_window}
use Rattle.basics.proofs.Tests.{tests, by, and_left, and_right}
use Rattle.calendar.specs.declared.Date.{Date}
use Rattle.calendar.specs.Calendar.{is_date, day_number}
use Rattle.claim_months.specs.declared.Window.{Window}
use Rattle.claim_months.specs.Windows.{window_sound, dates_window, between, window_in}
use Rattle.claim_months.proofs.Picked.{picked, unpicked}
use Rattle.std.specs.Prelude.{Err, Ok, Result}

-- a window that is known is the one between two dates in order
pub window-known : (b e : Date) (w : Window) → Ok w ≡ window_in b e → (dates_window b e ≡ true) × (w ≡ between b e)
unfolding window_in
window-known b e w h = let p = picked (dates_window b e) h (λ e. let z : ◌≡◌ {A = ℕ} 0 1 = cc in omega tests) in (p.0, cc)

-- one that is refused is refused 1
pub window-refused : (b e : Date) (n : ℕ) → Err n ≡ window_in b e → (dates_window b e ≡ false) × (n ≡ refuse_window)
unfolding window_in
window-refused b e n h = let p = unpicked (dates_window b e) h (λ e. let z : ◌≡◌ {A = ℕ} 0 1 = cc in omega tests) in (p.0, cc)

-- the days of two dates in order are a sound window
pub dates-sound : (b e : Date) → dates_window b e ≡ true → window_sound (day_number b) (day_number e) ≡ true
unfolding dates_window
dates-sound b e h = and_right (is_date b && is_date e) (window_sound (day_number b) (day_number e)) h

-- a statement of the window of two dates holds if it holds of the one between dates in order, and of a refusal where they aren't
pub windowed : (b e : Date) (P : Result Window ℕ → Type 0) → (dates_window b e ≡ true → P (Ok (between b e))) → (dates_window b e ≡ false → P (Err refuse_window)) → P (window_in b e)
unfolding window_in
windowed b e P f g = by (dates_window b e) (λ t. P (pick t (Ok (between b e)) (Err refuse_window))) f g

-- dates in order are dates
pub both-dates : (b e : Date) → dates_window b e ≡ true → (is_date b ≡ true) × (is_date e ≡ true)
unfolding dates_window
both-dates b e q =
    let d = and_left (is_date b && is_date e) (window_sound (day_number b) (day_number e)) q in
    (and_left (is_date b) (is_date e) d, and_right (is_date b) (is_date e) d)
