-- Request No. 12: additivity for each duration. The thirtieths that a listing has at a duration are the weighted sum over the month records
-- with weight 1 there and 0 elsewhere, so the weighted law over parts says it; the categories that it shows are those of the closing law.
-- Assumes nothing.
use Prim.Native.Nat.{ℕ, ◌+◌, ◌*◌, ◌≤◌, ◌<◌}
use mathlib.Core.Path.{◌≡◌, refl, sym, ap, ap₂, ◌∙◌}
use mathlib.Core.Bool.{Bool, true, false, not-eq-not}
use mathlib.Core.List.{List, [], ◌∷◌, ◌++◌}
use mathlib.Core.Logic.{◌⊎◌, inl, inr}
use lib.Dec.{leb, eqb}
use lib.ListN.{length, drop}
use lib.IntN.{ℤ, pos, negsuc, ◌+ℤ◌, +ℤ_idl, +ℤ_idr, zero-*ℤ}
use native.Mathlib.Nat.{add-zero, zero-add}
use lib.Signed.{◌≤ℤ◌, le_z_yes}
use borrow.Author.Tests.{eqb-true, ne_eqb, le-leb}
use Rattle.basics.specs.Pick.{pick}
use Rattle.basics.specs.Checks.{check, ◌then◌, refuse_window, refuse_short_list}
use Rattle.basics.proofs.Tests.{tests, by}
use Rattle.basics.proofs.Integers.{pick-times}
use Rattle.basics.proofs.Checks.{check-passed, then-passed}
use Rattle.calendar.specs.Calendar.{last_day_number}
use Rattle.claim_months.specs.declared.Claim.{Claim}
use Rattle.claim_months.specs.Claim.{category, claim_check}
use Rattle.claim_months.specs.Exposure.{closed_in, MonthRecord, thirtieths, month_records, weighted, closings}
use Rattle.claim_months.specs.Windows.{window_sound, dates_window, Parts, EveryPart}
use Rattle.claim_months.specs.Listing.{row, rows, listed_records, listing_check, listing_of, list_after}
use Rattle.claim_months.specs.Durations.{is_number, thirtieths_at, categories_shown, ListingCall, call_window, answer_of, months_in, Answered, listed_thirtieths, listed_categories, ShowsCategory, ShowsNone, DurationsAddUp, EachDuration}
use Rattle.claim_months.proofs.Sound.{Sound, sound}
use Rattle.claim_months.proofs.DateWindows.{dates-sound}
use Rattle.claim_months.proofs.Parts.{SoundParts, parts-map, parts-every, every_map, every-both, window-bounds, part-never, total-same, one-part}
use Rattle.claim_months.proofs.Picked.{picked}
use Rattle.claim_months.proofs.Closing.{category-known, closings-value}
use Rattle.claim_months.proofs.Ranges.{Every, Rising, durations-rise, signed_range, ClosingLast, closing-last}
use Rattle.claim_months.proofs.Adds.{parts-weighted, ClosedInPart, closing-part, no-closing-part}
use Rattle.std.specs.Prelude.{Ok, Result}

-- ---- the rows of any records

-- weight 1 at duration d, 0 at any other
abbrev only_at : ℕ → ℕ → ℤ
only_at d x = pick (eqb x d) (pos 1) (pos 0)

rows-thirtieths : (d : ℕ) (rs : List MonthRecord) (rest : List ℤ) → thirtieths_at d (rows rs ++ rest) (length rs) ≡ weighted (only_at d) rs
unfolding thirtieths_at is_number rows row weighted
rows-thirtieths d [] rest = refl
rows-thirtieths d (r ∷ rs) rest = ap₂ ◌+ℤ◌ (pick-times (eqb r.duration d) (thirtieths r)) (rows-thirtieths d rs rest)

-- one category shown, 0 as none
abbrev shown_of : ℕ → List ℤ
shown_of x = pick (eqb x 0) [] (pos x ∷ [])

-- where only the last record may have a category, the list shows the sum of all
rows-categories : (rs : List MonthRecord) (rest : List ℤ) → ClosingLast rs
    → categories_shown (rows rs ++ rest) (length rs) ≡ shown_of (closings (λ d x. x) rs)
unfolding categories_shown is_number rows row closings
rows-categories [] rest h = refl
rows-categories (r ∷ []) rest h =
    let x = r.category in
    by (eqb x 0) (λ t. pick t [] (pos x ∷ []) ++ [] ≡ shown_of (pick t 0 x + 0)) (λ q. refl) (λ q. rw (add-zero x, q))
rows-categories (r ∷ s ∷ rs) rest h = rw (h.0, zero-add (closings (λ d x. x) (s ∷ rs))) (rows-categories (s ∷ rs) rest h.1)

-- of records whose durations rise, none after duration d has it ..
none-at : (d k : ℕ) (rs : List MonthRecord) → d < k → Rising k rs → weighted (only_at d) rs ≡ pos 0
unfolding weighted
none-at d k [] h q = refl
none-at d k (r ∷ rs) h q =
    rw (ne_eqb r.duration d (λ e. omega (tests, q.0)), zero-*ℤ (thirtieths r), none-at d (k + 1) rs (omega tests) q.1)

-- .. so the sum at d is one record's thirtieths, or 0
one_at : (P : ℤ → Type 0) → P (pos 0) → (d k : ℕ) (rs : List MonthRecord) → Rising k rs → Every (λ (r : MonthRecord). P (thirtieths r)) rs
    → P (weighted (only_at d) rs)
unfolding weighted
one_at P z d k [] q h = z
one_at P z d k (r ∷ rs) q h =
    let rest = weighted (only_at d) rs in
    rw (← pick-times (eqb r.duration d) (thirtieths r))
    (by (eqb r.duration d) (λ t. P (pick t (thirtieths r) (pos 0) +ℤ rest))
    (λ e. rw (none-at d (k + 1) rs (omega (tests, q.0)) q.1, +ℤ_idr (thirtieths r)) h.0)
    (λ e. rw (+ℤ_idl rest) (one_at P z d (k + 1) rs q.1 h.1)))

-- ---- one listing

abbrev from : ListingCall → ℕ
from l = (call_window l).first.0

abbrev to : ListingCall → ℕ
to l = (call_window l).last.0

module _ (c : Claim) (l : ListingCall) where
  abbrev records : List MonthRecord
  records = month_records c (from l) (to l)

  -- what the checks passing gives
  pub record Passed : Type 0 where
    pub claim : Sound c
    pub window : window_sound (from l) (to l) ≡ true
    pub answer : answer_of c l ≡ Ok (length records)
    pub list : list_after l.first l.last c l.lent ≡ rows records ++ drop (6 * length records) l.lent

  abbrev checks : ℕ
  checks = listing_check l.first l.last c (length l.lent)

  passed : checks ≡ 0 → Passed
  unfolding listing_check listing_of list_after listed_records
  passed h =
      let room = check (leb (6 * length records) (length l.lent)) refuse_short_list in
      let p1 = then-passed (check (dates_window l.first l.last) refuse_window) (claim_check c then room) h in
      let p2 = then-passed (claim_check c) room p1.1 in
      record {
        claim = sound c p2.0;
        window = dates-sound l.first l.last (check-passed (dates_window l.first l.last) refuse_window (omega tests) p1.0);
        answer = rw h;
        list = rw h;
      }

  answered : Answered c l → checks ≡ 0
  unfolding listing_of
  answered h = eqb-true checks 0 (picked (eqb checks 0) (sym h) (λ e. let z : ◌≡◌ {A = ℕ} 0 1 = cc in omega tests)).0

  room : dates_window l.first l.last ≡ true → claim_check c ≡ 0
      → 6 * length (listed_records l.first l.last c) ≤ length l.lent → Answered c l
  unfolding listing_check months_in ◌then◌
  room w k r =
      let p = passed (rw (w, k, le-leb (6 * length (listed_records l.first l.last c)) (length l.lent))) in
      p.answer ∙ sym (ap (λ (x : Result ℕ ℕ). Ok (months_in x)) p.answer)

  module _ (h : Answered c l) where
    known : Passed
    known = passed (answered h)

    last-day : to l ≤ last_day_number
    last-day = (window-bounds (from l) (to l) known.window).last

    thirtieths-are : (d : ℕ) → listed_thirtieths c d l ≡ weighted (only_at d) records
    unfolding listed_thirtieths months_in
    thirtieths-are d = rw (known.answer, known.list) (rows-thirtieths d records (drop (6 * length records) l.lent))

    range : (d : ℕ) → (negsuc 0 ≤ℤ listed_thirtieths c d l) × (listed_thirtieths c d l ≤ℤ pos 30)
    range d =
        rw (thirtieths-are d)
        (one_at (λ (z : ℤ). (negsuc 0 ≤ℤ z) × (z ≤ℤ pos 30)) (le_z_yes tt, le_z_yes tt) d _ records
        (durations-rise c known.claim (from l) (to l) last-day)
        (signed_range c known.claim (from l) (to l)))

    abbrev closed : Bool
    closed = closed_in c (from l) (to l)

    categories-are : listed_categories c l ≡ pick closed (pos (category c) ∷ []) []
    unfolding listed_categories months_in
    categories-are =
        rw (known.answer, known.list)
        (rows-categories records (drop (6 * length records) l.lent)
        (closing-last c known.claim (from l) (to l) last-day)
        ∙ ap shown_of (closings-value c known.claim (λ d x. x) (from l) (to l))
        ∙ by closed (λ t. shown_of (pick t (category c) 0) ≡ pick t (pos (category c) ∷ []) [])
        (λ q. rw (category-known c known.claim (λ d x. x) (from l) (to l) q)) (λ q. refl))

    -- it shows the category if the claim is closed in its window, else none
    shows : closed ≡ true → ShowsCategory c l
    shows q = rw q at categories-are

    shows-none : closed ≡ false → ShowsNone c l
    shows-none q = rw q at categories-are

    shown-closed : ShowsCategory c l → closed ≡ true
    shown-closed s = (picked closed categories-are (λ e. let z : ◌≡◌ {A = ℕ} 0 1 = cc in omega tests)).0

    either : ShowsCategory c l ⊎ ShowsNone c l
    either = by closed (λ _. ShowsCategory c l ⊎ ShowsNone c l) (λ q. inl (shows q)) (λ q. inr (shows-none q))

-- ---- the listings of a window and of its parts

module _ (c : Claim) (whole part : ListingCall) (parts : List ListingCall) (hw : Answered c whole)
    (hp : Parts (Answered c) call_window (from whole) (to whole) part parts) where
  each : EveryPart (Answered c) part parts
  each = parts-every (Answered c) call_window (from whole) (to whole) part parts hp

  windows : SoundParts call_window (from whole) (to whole) part parts
  windows = parts-map (Answered c) _ call_window (λ l h. (known c l h).window) (from whole) (to whole) part parts hp

  adds_up : DurationsAddUp c whole part parts
  adds_up =
      record {
        thirtieths = λ d.
            total-same ◌+ℤ◌ _ _ part parts (every_map (Answered c) _ (λ l h. thirtieths-are c l h d) part parts each)
            ∙ parts-weighted call_window c (known c whole hw).claim (only_at d) (from whole) (to whole) part parts windows
            ∙ sym (thirtieths-are c whole hw d);
        shown = λ q. (
          shows c whole hw q,
          one-part (ClosedInPart call_window c) (ShowsCategory c) part parts
              (every_map (Answered c) _ (λ l h. (shows c l h, shown-closed c l h)) part parts each)
              (closing-part call_window c (from whole) (to whole) part parts windows q),
          every_map (Answered c) _ (either c) part parts each,
        );
        not_shown = λ q. (
          shows-none c whole hw q,
          every-both (Answered c) (λ l. ClosedInPart call_window c l → ⊥) (ShowsNone c) (λ l h n. shows-none c l h (not-eq-not.0 n)) part parts each
              (part-never (ClosedInPart call_window c) part parts (no-closing-part call_window c (from whole) (to whole) part parts windows q)),
        );
      }

pub each-duration : EachDuration
each-duration = record { adds_up = adds_up; range = range; room = room }
