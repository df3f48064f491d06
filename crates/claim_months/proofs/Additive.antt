-- The weighted law: for any weight of durations, the sums over consecutive windows total the sum over the undivided one.
-- Assumes nothing.
use Prim.Native.Nat.{ℕ, zero, suc, ◌+◌, ◌-◌, ◌≤◌, ◌<◌}
use mathlib.Core.Path.{◌≡◌, refl, sym, ap, ap₂, ◌∙◌}
use mathlib.Core.Bool.{◌&&◌}
use mathlib.Core.List.{◌∷◌}
use lib.Dec.{leb}
use lib.IntN.{ℤ, pos, sub_ℕ, ◌+ℤ◌, ◌*ℤ◌, *ℤ-zero, +ℤ_idl}
use borrow.Author.Tests.{leb-true}
use Rattle.basics.specs.Pick.{pick}
use Rattle.basics.proofs.Tests.{tests, by, and_left, and_right}
use Rattle.claim_months.specs.declared.Claim.{Claim}
use Rattle.claim_months.specs.Claim.{is_closed, bcd_day, termination_day, first_duration}
use Rattle.claim_months.specs.ClaimMonths.{month_first, month_last}
use Rattle.claim_months.specs.Exposure.{closed_in, exposed_from, exposed_to, meets, month_b, closing_u, month_u, thirtieths, month_record, records_from, month_records, weighted}
use Rattle.basics.proofs.Integers.{interchange, sub-chain, sub_same, times-sum}
use Rattle.claim_months.proofs.Sound.{Sound}
use Rattle.claim_months.proofs.Months.{next-starts, last-next, bcd-starts}
use Rattle.claim_months.proofs.Settled.{settled, upper-settled, lower-settled, unmet-settled}

-- what is settled of claim month k before day x
abbrev settled_before : Claim → ℕ → ℕ → ℕ
settled_before c k x =
    settled (is_closed c) (termination_day c) (closing_u c (month_first c k) (month_last c k)) (month_first c k) (month_last c k) x

-- the thirtieths of claim month k in a window, 0 where it has no record
abbrev share : Claim → ℕ → ℕ → ℕ → ℤ
share c b e k = pick (meets c b e k) (thirtieths (month_record c b e k)) (pos 0)

module _ (c : Claim) (ok : Sound c) where
  share-settled : (b e k : ℕ) → b ≤ e → 1 ≤ k → share c b e k ≡ sub_ℕ (settled_before c k (e + 1)) (settled_before c k b)
  unfolding meets month_record month_u month_b closed_in exposed_to exposed_from
  share-settled b e k be hk =
      let n = next-starts c ok.bcd-date k hk in
      let l = last-next c ok.bcd-date k hk in
      let s = month_first c k in
      let p = month_last c k in
      let f = exposed_from c b in
      let g = exposed_to c e in
      let sp : s ≤ p = omega tests in
      let ps : p ≤ s + 30 = omega tests in
      let bs : bcd_day c ≤ s = bcd-starts c ok.bcd-date k hk in
      let t = termination_day c in
      let a = closing_u c s p in
      by (meets c b e k) (λ y. pick y (thirtieths (month_record c b e k)) (pos 0) ≡ sub_ℕ (settled_before c k (e + 1)) (settled_before c k b))
      (λ y.
      let y2 = and_left (leb f g && leb s g) (leb f p) y in
      let h1 = leb-true f g (and_left (leb f g) (leb s g) y2) in
      let h2 = leb-true s g (and_right (leb f g) (leb s g) y2) in
      let h3 = leb-true f p (and_right (leb f g && leb s g) (leb f p) y) in
      sym
      (ap₂ (λ (u v : ℕ). sub_ℕ u v) (upper-settled t a (bcd_day c) s p b e sp ps be bs (is_closed c) h1 h2)
      (lower-settled t a (bcd_day c) s p b e sp ps be bs (is_closed c) h1 h3)))
      (λ y.
      sym
      (ap (λ (u : ℕ). sub_ℕ u (settled_before c k b)) (unmet-settled t a (bcd_day c) s p b e sp ps be bs (is_closed c) ok.bcd-first y)
      ∙ sub_same (settled_before c k b)))

  -- one claim month more
  weighted-step : (w : ℕ → ℤ) (b e k n : ℕ)
      → weighted w (records_from c b e k (suc n)) ≡ w (first_duration c + (k - 1)) *ℤ share c b e k +ℤ weighted w (records_from c b e (suc k) n)
  unfolding weighted records_from month_record
  weighted-step w b e k n =
      let rest = records_from c b e (suc k) n in
      by (meets c b e k)
      (λ y. weighted w (pick y (month_record c b e k ∷ rest) rest)
      ≡ w (first_duration c + (k - 1)) *ℤ pick y (thirtieths (month_record c b e k)) (pos 0) +ℤ weighted w rest)
      (λ y. refl)
      (λ y.
      sym
      (ap (λ (x : ℤ). x +ℤ weighted w rest) (*ℤ-zero (w (first_duration c + (k - 1))))
      ∙ +ℤ_idl (weighted w rest)))

  -- a window cut between day m and the next, over the n claim months from k on
  cut-from : (w : ℕ → ℤ) (b m e : ℕ) → b ≤ m → m < e → (n k : ℕ) → 1 ≤ k
      → weighted w (records_from c b m k n) +ℤ weighted w (records_from c (m + 1) e k n) ≡ weighted w (records_from c b e k n)
  unfolding weighted records_from
  cut-from w b m e bm me zero k hk = refl
  cut-from w b m e bm me (suc n) k hk =
      let d = w (first_duration c + (k - 1)) in
      let x = share c b m k in
      let y = share c (m + 1) e k in
      ap₂ (λ (u v : ℤ). u +ℤ v) (weighted-step w b m k n) (weighted-step w (m + 1) e k n)
      ∙ interchange (d *ℤ x) (weighted w (records_from c b m (suc k) n)) (d *ℤ y) (weighted w (records_from c (m + 1) e (suc k) n))
      ∙ ap₂ (λ (u v : ℤ). u +ℤ v)
      (sym (times-sum d x y)
      ∙ ap (λ (u : ℤ). d *ℤ u)
      (ap₂ (λ (u v : ℤ). u +ℤ v) (share-settled b m k bm hk) (share-settled (m + 1) e k (omega tests) hk)
      ∙ sub-chain (settled_before c k b) (settled_before c k (m + 1)) (settled_before c k (e + 1))
      ∙ sym (share-settled b e k (omega tests) hk)))
      (cut-from w b m e bm me n (suc k) (omega tests))
      ∙ sym (weighted-step w b e k n)

  -- the window b..e cut between day m and the next
  pub cut-weighted : (w : ℕ → ℤ) (b m e : ℕ) → b ≤ m → m < e
      → weighted w (month_records c b m) +ℤ weighted w (month_records c (m + 1) e) ≡ weighted w (month_records c b e)
  unfolding month_records
  cut-weighted w b m e bm me = cut-from w b m e bm me 1800 1 (omega tests)
