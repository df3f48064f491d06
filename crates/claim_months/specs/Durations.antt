-- Document 02, request No. 12: additivity for each duration, of what stands in the lent lists after the listing calls.
use Rattle.std.specs.Prelude.{ℕ, zero, suc, ◌*◌, ◌≤◌, ◌≡◌, Bool, true, false, List, [], ◌∷◌, ◌++◌, ◌⊎◌, eqb, length, get_or, drop, ℤ, pos, negsuc, ◌+ℤ◌, ◌≤ℤ◌, Err, Ok, Result}
use Rattle.basics.specs.Pick.{pick}
use Rattle.calendar.specs.declared.Date.{Date}
use Rattle.claim_months.specs.declared.Claim.{Claim}
use Rattle.claim_months.specs.declared.Window.{Window}
use Rattle.claim_months.specs.Claim.{category, claim_check}
use Rattle.claim_months.specs.Exposure.{closed_in}
use Rattle.claim_months.specs.Windows.{dates_window, between, Parts, total, EveryPart, ExactlyOnePart}
use Rattle.claim_months.specs.Listing.{listed_records, listing_of, list_after}

-- a signed number is the number n
unfoldable pub is_number : ℤ → ℕ → Bool
is_number (pos m) n = eqb m n
is_number (negsuc m) n = false

-- The thirtieths at duration d in the first n rows of a list: the sum of the fourth numbers of the rows whose first number is d, 0 if none is
unfoldable pub thirtieths_at : ℕ → List ℤ → ℕ → ℤ
thirtieths_at d xs zero = pos 0
thirtieths_at d xs (suc n) = pick (is_number (get_or xs 0 (pos 0)) d) (get_or xs 3 (pos 0)) (pos 0) +ℤ thirtieths_at d (drop 6 xs) n

-- The categories that the first n rows show: the sixth numbers that aren't 0
unfoldable pub categories_shown : List ℤ → ℕ → List ℤ
categories_shown xs zero = []
categories_shown xs (suc n) =
    pick (is_number (get_or xs 5 (pos 0)) 0) [] (get_or xs 5 (pos 0) ∷ []) ++ categories_shown (drop 6 xs) n

-- One listing of the claim: the two dates of its window, and what stands in the lent list before the call
pub record ListingCall : Type 0 where
  pub first : Date
  pub last : Date
  pub lent : List ℤ

abbrev pub call_window : ListingCall → Window
call_window l = between l.first l.last

-- its answer, and the number of records answered
abbrev pub answer_of : Claim → ListingCall → Result ℕ ℕ
answer_of c l = listing_of l.first l.last c (length l.lent)

unfoldable pub months_in : Result ℕ ℕ → ℕ
months_in (Ok n) = n
months_in (Err x) = 0

-- the call answers a number of records, so it is not refused
abbrev pub Answered : Claim → ListingCall → Type 0
Answered c l = answer_of c l ≡ Ok (months_in (answer_of c l))

-- the thirtieths at duration d, and the categories shown, in its list at exit
unfoldable pub listed_thirtieths : Claim → ℕ → ListingCall → ℤ
listed_thirtieths c d l = thirtieths_at d (list_after l.first l.last c l.lent) (months_in (answer_of c l))

unfoldable pub listed_categories : Claim → ListingCall → List ℤ
listed_categories c l = categories_shown (list_after l.first l.last c l.lent) (months_in (answer_of c l))

-- it shows the claim's category, once and no other; it shows none
abbrev pub ShowsCategory : Claim → ListingCall → Type 0
ShowsCategory c l = listed_categories c l ≡ pos (category c) ∷ []

abbrev pub ShowsNone : Claim → ListingCall → Type 0
ShowsNone c l = listed_categories c l ≡ []

-- What is said of a claim, its listing over the undivided window, and its listings over the parts
pub record DurationsAddUp (c : Claim) (whole part : ListingCall) (parts : List ListingCall) : Type 0 where
  -- 1. At every duration, past 480 too, the thirtieths in the parts' lists total those in the undivided window's
  pub thirtieths : (d : ℕ) → total ◌+ℤ◌ (listed_thirtieths c d) part parts ≡ listed_thirtieths c d whole
  -- 2. A claim closed in the undivided window shows its category there and in exactly one part, once each; every other list shows none
  pub shown : closed_in c (call_window whole).first.0 (call_window whole).last.0 ≡ true
      → ShowsCategory c whole × ExactlyOnePart (ShowsCategory c) part parts
      × EveryPart (λ l. ShowsCategory c l ⊎ ShowsNone c l) part parts
  -- 3. Any other claim shows one in none
  pub not_shown : closed_in c (call_window whole).first.0 (call_window whole).last.0 ≡ false
      → ShowsNone c whole × EveryPart (ShowsNone c) part parts

-- Request No. 12: it holds of every claim and every cut of a window, whatever stood in the lent lists, where each listing answers a number of
-- records; at each duration a listing has −1 to 30 thirtieths; and a listing with room for its records answers. `proofs/Durations.antt` proves it
pub record EachDuration : Type 0 where
  pub adds_up : (c : Claim) (whole part : ListingCall) (parts : List ListingCall) → Answered c whole
      → Parts (Answered c) call_window (call_window whole).first.0 (call_window whole).last.0 part parts
      → DurationsAddUp c whole part parts
  pub range : (c : Claim) (l : ListingCall) → Answered c l → (d : ℕ)
      → (negsuc 0 ≤ℤ listed_thirtieths c d l) × (listed_thirtieths c d l ≤ℤ pos 30)
  pub room : (c : Claim) (l : ListingCall) → dates_window l.first l.last ≡ true → claim_check c ≡ 0
      → 6 * length (listed_records l.first l.last c) ≤ length l.lent → Answered c l
