-- Laws of refusals and their numbers: the number says which refusal it is, so an answer by number says all that the answer says.
-- Assumes nothing.
use Rattle.std.specs.Prelude.{ℕ, ◌<◌, ◌≡◌, eqb, Result, Ok, Err, IsErr, IsErrAnd}
use mathlib.Core.Path.{refl, sym, ap, ◌∙◌}
use Rattle.basics.specs.Pick.{pick}
use Rattle.basics.specs.declared.refusal.Refusal.{Refusal}
use Rattle.basics.specs.declared.refusal.Refusal.TheVariants.{Window, Date, Status, Sequence, ShortElimination, RateTable, Cell, Rate, Full, ShortList, Block, Valuation, Discount, TooManyRecords, OtherWindow, Benefit, OpenClaims, Withdrawal, NoCount, Load}
use Rattle.basics.specs.Refused.{number_of}
use Rattle.basics.proofs.Tests.{tests}

-- the refusal with a number
refusal_at : ℕ → Refusal
refusal_at n =
    pick (eqb n 1) Window
    (pick (eqb n 2) Date
    (pick (eqb n 3) Status
    (pick (eqb n 4) Sequence
    (pick (eqb n 5) ShortElimination
    (pick (eqb n 6) RateTable
    (pick (eqb n 7) Cell
    (pick (eqb n 8) Rate
    (pick (eqb n 9) Full
    (pick (eqb n 10) ShortList
    (pick (eqb n 11) Block
    (pick (eqb n 12) Valuation
    (pick (eqb n 13) Discount
    (pick (eqb n 14) TooManyRecords
    (pick (eqb n 15) OtherWindow
    (pick (eqb n 16) Benefit
    (pick (eqb n 17) OpenClaims
    (pick (eqb n 18) Withdrawal
    (pick (eqb n 19) NoCount Load))))))))))))))))))

read_back : (r : Refusal) → refusal_at (number_of r) ≡ r
unfolding refusal_at
read_back Window = refl
read_back Date = refl
read_back Status = refl
read_back Sequence = refl
read_back ShortElimination = refl
read_back RateTable = refl
read_back Cell = refl
read_back Rate = refl
read_back Full = refl
read_back ShortList = refl
read_back Block = refl
read_back Valuation = refl
read_back Discount = refl
read_back TooManyRecords = refl
read_back OtherWindow = refl
read_back Benefit = refl
read_back OpenClaims = refl
read_back Withdrawal = refl
read_back NoCount = refl
read_back Load = refl

-- two refusals with one number are one refusal (for readers)
pub told-apart : (a b : Refusal) → number_of a ≡ number_of b → a ≡ b
told-apart a b e = sym (read_back a) ∙ ap refusal_at e ∙ read_back b

-- no refusal has the number 0, which says that every check passed
pub numbered-from-1 : (r : Refusal) → 0 < number_of r
numbered-from-1 Window = omega tests
numbered-from-1 Date = omega tests
numbered-from-1 Status = omega tests
numbered-from-1 Sequence = omega tests
numbered-from-1 ShortElimination = omega tests
numbered-from-1 RateTable = omega tests
numbered-from-1 Cell = omega tests
numbered-from-1 Rate = omega tests
numbered-from-1 Full = omega tests
numbered-from-1 ShortList = omega tests
numbered-from-1 Block = omega tests
numbered-from-1 Valuation = omega tests
numbered-from-1 Discount = omega tests
numbered-from-1 TooManyRecords = omega tests
numbered-from-1 OtherWindow = omega tests
numbered-from-1 Benefit = omega tests
numbered-from-1 OpenClaims = omega tests
numbered-from-1 Withdrawal = omega tests
numbered-from-1 NoCount = omega tests
numbered-from-1 Load = omega tests

-- so what has a refusal's number is not 0
pub not-zero : (r : Refusal) (k : ℕ) → number_of r ≡ k → (k ≡ 0 → ⊥)
not-zero r k e z = omega (tests, numbered-from-1 r)

-- what `?` passes on is the refusal that it found
pub passed_on : {A : Type 0} (r : Result A Refusal) (e : Refusal) → IsErr r × IsErrAnd r (λ x. x ≡ e) → r ≡ Err e
passed_on (Ok x) e h = absurd h.1
passed_on (Err x) e h = ap Err h.1
