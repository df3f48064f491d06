-- Over the parts of a window, the sums over a sound claim's records total those of the undivided window, and the claim is closed in
-- exactly one part, or in none if it is not closed in the window. `parts-closings` is for readers.
-- Assumes nothing.
use Prim.Native.Nat.{ℕ, ◌+◌, ◌<◌}
use mathlib.Core.Path.{◌≡◌, sym, ◌∙◌}
use mathlib.Core.Bool.{true, false, ◌&&◌, false≢true}
use mathlib.Core.List.{List}
use mathlib.Core.Logic.{◌⊎◌, inl, inr, ⊎_elim}
use lib.Dec.{leb}
use lib.IntN.{ℤ, ◌+ℤ◌}
use Rattle.basics.proofs.Tests.{tests, and-false-cases}
use Rattle.claim_months.specs.declared.Claim.{Claim}
use Rattle.claim_months.specs.declared.Window.{Window}
use Rattle.claim_months.specs.Claim.{is_closed, termination_day}
use Rattle.claim_months.specs.Exposure.{closed_in, month_records, weighted, closings}
use Rattle.claim_months.specs.Windows.{total, NoPart, ExactlyOnePart}
use Rattle.claim_months.proofs.Sound.{Sound}
use Rattle.claim_months.proofs.Additive.{cut-weighted}
use Rattle.claim_months.proofs.Closing.{closed_of, cut-closings, closed-holds, holds-closed}
use Rattle.claim_months.proofs.Parts.{SoundParts, Holds, every-part, parts_total, outside-parts, inside-parts, no_part, one-part}

module _ {A : Type 0} (win : A → Window) (c : Claim) where
  pub parts-weighted : Sound c → (f : ℕ → ℤ) (b e : ℕ) (w : A) (ws : List A) → SoundParts win b e w ws
      → total ◌+ℤ◌ (λ (v : A). weighted f (month_records c (win v).first.0 (win v).last.0)) w ws ≡ weighted f (month_records c b e)
  parts-weighted ok f = parts_total win ◌+ℤ◌ (λ b e. weighted f (month_records c b e)) (cut-weighted c ok f)

  pub parts-closings : Sound c → (f : ℕ → ℕ → ℕ) (b e : ℕ) (w : A) (ws : List A) → SoundParts win b e w ws
      → total ◌+◌ (λ (v : A). closings f (month_records c (win v).first.0 (win v).last.0)) w ws ≡ closings f (month_records c b e)
  parts-closings ok f = parts_total win ◌+◌ (λ b e. closings f (month_records c b e)) (cut-closings c ok f)

  -- the claim is closed in the part
  abbrev pub ClosedInPart : A → Type 0
  ClosedInPart v = closed_in c (win v).first.0 (win v).last.0 ≡ true

  pub closing-part : (b e : ℕ) (w : A) (ws : List A) → SoundParts win b e w ws → closed_in c b e ≡ true → ExactlyOnePart ClosedInPart w ws
  closing-part b e w ws h q =
      let z = closed_of c b e q in
      one-part (λ (v : A). Holds (termination_day c) (win v)) ClosedInPart w ws
      (every-part win _ (λ v _. (holds-closed c (win v) z.0, closed-holds c (win v))) b e w ws h)
      (inside-parts win (termination_day c) b e w ws h z.1 z.2)

  -- not closed at all, or with a termination date before b or after e
  not-closed : (b e : ℕ) → closed_in c b e ≡ false → (is_closed c ≡ false) ⊎ ((termination_day c < b) ⊎ (e < termination_day c))
  unfolding closed_in
  not-closed b e q =
      let t = termination_day c in
      let z = is_closed c in
      ⊎_elim
      (λ l. ⊎_elim (λ k. inl k) (λ k. inr (inl (omega tests))) (and-false-cases z (leb b t) l))
      (λ k. inr (inr (omega tests)))
      (and-false-cases (z && leb b t) (leb t e) q)

  pub no-closing-part : (b e : ℕ) (w : A) (ws : List A) → SoundParts win b e w ws → closed_in c b e ≡ false → NoPart ClosedInPart w ws
  no-closing-part b e w ws h q =
      -- a day outside b..e that every part in which the claim is closed would hold
      let none : (t : ℕ) → (t < b) ⊎ (e < t) → ((v : A) → ClosedInPart v → Holds t (win v)) → NoPart ClosedInPart w ws =
      λ t o f. no_part (λ (v : A). Holds t (win v)) ClosedInPart w ws (every-part win _ (λ v _. f v) b e w ws h) (outside-parts win t b e w ws h o) in
      ⊎_elim
      (λ z. none (e + 1) (inr (omega tests)) (λ v y. absurd (false≢true (sym z ∙ (closed_of c (win v).first.0 (win v).last.0 y).0))))
      (λ o. none (termination_day c) o (λ v. closed-holds c (win v))) (not-closed b e q)
