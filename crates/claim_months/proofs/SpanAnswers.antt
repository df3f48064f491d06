-- What the answer of the call for a span says, for the layer above.
-- Assumes nothing.
use Prim.Native.Nat.{ℕ, ◌≤◌}
use mathlib.Core.Path.{◌≡◌, refl, subst⁻¹}
use mathlib.Core.Bool.{true}
use lib.Dec.{eqb}
use borrow.Author.Tests.{eqb-true, eqb-false}
use Rattle.basics.specs.Pick.{pick}
use Rattle.basics.specs.Checks.{check, ◌then◌}
use Rattle.basics.proofs.Tests.{tests, by}
use Rattle.basics.proofs.Checks.{check-passed, then-passed}
use Rattle.calendar.specs.Calendar.{last_day_number}
use Rattle.claim_months.specs.declared.Claim.{Claim}
use Rattle.claim_months.specs.declared.Span.{Span}
use Rattle.claim_months.specs.Claim.{claim_check}
use Rattle.claim_months.specs.Windows.{window_sound, window_check}
use Rattle.claim_months.specs.Exposure.{month_records}
use Rattle.claim_months.specs.Span.{span_of, exposure_check, span_in, SpanBounds}
use Rattle.claim_months.proofs.Sound.{Sound, sound}
use Rattle.claim_months.proofs.Parts.{window-bounds}
use Rattle.claim_months.proofs.Spans.{span-bounds}
use Rattle.std.specs.Prelude.{Err, Ok}

-- the window is checked before the claim
pub exposure-checks : (c : Claim) (b e : ℕ) → exposure_check c b e ≡ (window_check b e then claim_check c)
unfolding exposure_check
exposure-checks c b e = refl

-- a sound window passes check 1
pub window-passes : (b e : ℕ) → window_sound b e ≡ true → window_check b e ≡ 0
unfolding window_check
window-passes b e h = rw h

-- what the checks 1 to 5 passing gives
pub exposed : (c : Claim) (b e : ℕ) → exposure_check c b e ≡ 0 → Sound c × (e ≤ last_day_number)
unfolding exposure_check window_check
exposed c b e q =
    let p = then-passed (check (window_sound b e) 1) (claim_check c) q in
    (sound c p.1, (window-bounds b e (check-passed (window_sound b e) 1 (omega tests) p.0)).last)

-- a span that is answered is that of the month records of a claim that passed; a number that is answered is that of the check that failed
pub spanned : (c : Claim) (b e : ℕ) (sp : Span) → Ok sp ≡ span_in c b e → (exposure_check c b e ≡ 0) × (sp ≡ span_of (month_records c b e))
unfolding span_in
spanned c b e sp =
    by (eqb (exposure_check c b e) 0)
    (λ y. Ok sp ≡ pick y (Ok (span_of (month_records c b e))) (Err (exposure_check c b e)) → (exposure_check c b e ≡ 0) × (sp ≡ span_of (month_records c b e)))
    (λ q m. (eqb-true (exposure_check c b e) 0 q, cc)) (λ q m. let z : ◌≡◌ {A = ℕ} 0 1 = cc in absurd (omega tests))

pub span-refused : (c : Claim) (b e n : ℕ) → Err n ≡ span_in c b e → (exposure_check c b e ≡ 0 → ⊥) × (n ≡ exposure_check c b e)
unfolding span_in
span-refused c b e n =
    by (eqb (exposure_check c b e) 0)
    (λ y. Err n ≡ pick y (Ok (span_of (month_records c b e))) (Err (exposure_check c b e)) → (exposure_check c b e ≡ 0 → ⊥) × (n ≡ exposure_check c b e))
    (λ q m. let z : ◌≡◌ {A = ℕ} 0 1 = cc in absurd (omega tests)) (λ q m. (eqb-false (exposure_check c b e) 0 q, cc))

-- the ranges of a span that is answered
pub spanned-bounds : (c : Claim) (b e : ℕ) (sp : Span) → Ok sp ≡ span_in c b e → SpanBounds sp
spanned-bounds c b e sp m =
    let x = spanned c b e sp m in
    let y = exposed c b e x.0 in
    subst⁻¹ SpanBounds x.1 (span-bounds c y.0 b e y.1)
