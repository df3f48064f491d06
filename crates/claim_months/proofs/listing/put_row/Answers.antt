-- `claim_months::listing::put_row` meets its contract: the six numbers are those of the row, each read back from its 32 bits.
-- Assumes nothing.
use Prim.Native.Nat.{ℕ, ◌+◌, ◌-◌, ◌≤◌}
use mathlib.Core.Path.{◌≡◌, refl, sym, ap, ◌∙◌}
use mathlib.Core.List.{List, [], ◌∷◌, ◌++◌}
use native.Mathlib.Omega.{arith}
use lib.IntN.{ℤ, pos}
use lib.ListN.{length, take}
use lib.Seq.{sets}
use borrow.Rule.Slice.PartMut.{put_mid}
use Rattle.std.proofs.lemmas.List.{append_assoc, drop-drop}
use Rattle.std.proofs.lemmas.List.Edits.{sets-eq}
use Rattle.calendar.specs.Calendar.{month_of}
use Rattle.calendar.proofs.Laws.{month-of-high}
use Rattle.claim_months.specs.Listing.{row}
use Rattle.claim_months.proofs.SignedRecords.{read_back, difference-size}
use Rattle.claim_months.proofs.listing.put_row.Goals as goal

-- six numbers that are read back
numbers : {a b d e f g a' b' d' e' f' g' : ℤ} → a ≡ a' → b ≡ b' → d ≡ d' → e ≡ e' → f ≡ f' → g ≡ g'
    → (a ∷ b ∷ d ∷ e ∷ f ∷ g ∷ []) ≡ (a' ∷ b' ∷ d' ∷ e' ∷ f' ∷ g' ∷ [])
numbers p q r s t u = λ i. p i ∷ q i ∷ r i ∷ s i ∷ t i ∷ u i ∷ []

-- a row in the place of six numbers
written : (l mid r : List ℤ) (n : ℕ) → n + 6 ≤ length l → length r ≡ 6 → mid ≡ r → put_mid n (n + 6 - n) l mid ≡ sets l n r
written l mid r n h k e =
    let six : n + 6 - n ≡ 6 = omega arith in
    let fits : n + length r ≤ length l = omega arith in
    rw (e, six, sets-eq r l n fits, k) (sym (append_assoc (take n l) r _) ∙ ap (λ z. (take n l ++ r) ++ z) (drop-drop 6 n l))

pub signed-requires-4 : goal.signed-requires-4
signed-requires-4 c =
    let p = c.requires.placed in
    omega (arith, p.month_is, month-of-high c.args.month.first.day.0 p.high)

pub returns : goal.returns
unfolding row
returns c =
    let m = c.args.month in
    let b = c.requires.row_bounds in
    let p = c.requires.placed in
    written c.args.list.now _ _ c.args.at c.requires.at_in_bounds refl
    (c.copy_from_slice.ensures.after
    ∙ numbers (read_back _ (pos m.duration.0) c.signed.ensures (omega (arith, b.duration_high)))
    (read_back _ (pos m.first.day.0) c.signed-2.ensures (omega (arith, b.first_high)))
    (read_back _ (pos m.last.0) c.signed-3.ensures (omega (arith, b.last_high)))
    (read_back _ _ c.difference.ensures (difference-size m.through.0 m.before.0 b.u_high b.b_high))
    (read_back _ (pos (month_of m.first.day.0)) (c.signed-4.ensures ∙ ap pos p.month_is) (omega (arith, month-of-high m.first.day.0 p.high)))
    (read_back _ (pos m.category) c.from.ensures (omega (arith, b.category_high))))
