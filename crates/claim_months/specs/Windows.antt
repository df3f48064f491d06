-- Document 01, Months of exposure and Study: a window, check 1, and the parts of a window (demand 3).
use Rattle.std.specs.Prelude.{ℕ, ◌+◌, ◌≡◌, Bool, ◌&&◌, List, [], ◌∷◌, ◌⊎◌, leb, Err, Ok, Result}
use Rattle.basics.specs.Pick.{pick}
use Rattle.basics.specs.Checks.{check, refuse_window}
use Rattle.calendar.specs.declared.Date.{Date}
use Rattle.calendar.specs.Calendar.{is_date, day_number, last_day_number}
use Rattle.claim_months.specs.declared.Window.{Window}

-- 1, window: b or e no date, or e < b. Here b and e are day numbers, of which a date has one up to the last
unfoldable pub window_sound : ℕ → ℕ → Bool
window_sound b e = leb b last_day_number && leb e last_day_number && leb b e

unfoldable pub window_check : ℕ → ℕ → ℕ
window_check b e = check (window_sound b e) refuse_window

-- the same of two dates
unfoldable pub dates_window : Date → Date → Bool
dates_window b e = is_date b && is_date e && window_sound (day_number b) (day_number e)

-- the window between two dates, both included
abbrev pub between : Date → Date → Window
between b e = record { first = record { 0 = day_number b }; last = record { 0 = day_number e } }

-- the window of two dates, or the number refused
unfoldable pub window_in : Date → Date → Result Window ℕ
window_in b e = pick (dates_window b e) (Ok (between b e)) (Err refuse_window)

-- The parts w, ws of the days b..e: the first starts on b, each next one on the day after the last one's end, and the last ends on e.
-- A single part is allowed. `ok` is what each of them must be, as a window that opening accepts. A part may carry more than its window: `win` reads it off
abbrev pub Parts : {A : Type 0} → (A → Type 0) → (A → Window) → ℕ → ℕ → A → List A → Type 0
Parts ok win b e w [] = ok w × ((win w).first.0 ≡ b) × ((win w).last.0 ≡ e)
Parts ok win b e w (v ∷ ws) = ok w × ((win w).first.0 ≡ b) × Parts ok win ((win w).last.0 + 1) e v ws

-- the total of a sum over the parts
unfoldable pub total : {A B : Type 0} → (B → B → B) → (A → B) → A → List A → B
total add f w [] = f w
total add f w (v ∷ ws) = add (f w) (total add f v ws)

-- a statement holds of every part
abbrev pub EveryPart : {A : Type 0} → (A → Type 0) → A → List A → Type 0
EveryPart P w [] = P w
EveryPart P w (v ∷ ws) = P w × EveryPart P v ws

-- a statement holds of no part
abbrev pub NoPart : {A : Type 0} → (A → Type 0) → A → List A → Type 0
NoPart P w [] = P w → ⊥
NoPart P w (v ∷ ws) = (P w → ⊥) × NoPart P v ws

-- a statement holds of exactly one part
abbrev pub ExactlyOnePart : {A : Type 0} → (A → Type 0) → A → List A → Type 0
ExactlyOnePart P w [] = P w
ExactlyOnePart P w (v ∷ ws) = (P w × NoPart P v ws) ⊎ ((P w → ⊥) × ExactlyOnePart P v ws)
