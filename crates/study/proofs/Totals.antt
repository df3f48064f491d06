-- The studies of a list of accepted claims over the parts of a window total that of the undivided window, in every sum.
-- Assumes nothing.
use Prim.Native.Nat.{ℕ, ◌+◌, ◌*◌, ◌≤◌, ◌<◌}
use mathlib.Core.Path.{◌≡◌, sym, ap, ap₂, ◌∙◌}
use mathlib.Core.Bool.{Bool}
use mathlib.Core.List.{List}
use lib.Dec.{eqb}
use lib.IntN.{ℤ, pos, ◌+ℤ◌, ◌*ℤ◌}
use Rattle.basics.specs.Pick.{pick}
use Rattle.basics.proofs.Integers.{times-sum}
use Rattle.claim_months.specs.declared.Claim.{Claim}
use Rattle.claim_months.specs.declared.Window.{Window}
use Rattle.claim_months.specs.Claim.{weight}
use Rattle.claim_months.specs.Exposure.{MonthRecord, month_records}
use Rattle.claim_months.specs.Windows.{total, EveryPart}
use Rattle.claim_months.proofs.Sound.{Sound}
use Rattle.claim_months.proofs.Parts.{SoundParts, every_map, total-same, parts_total}
use Rattle.claim_months.proofs.Additive.{cut-weighted}
use Rattle.claim_months.proofs.Closing.{cut-closings}
use Rattle.study.specs.declared.Study.{Study}
use Rattle.study.specs.Sums.{group_at, column_at, times_at, none, plus}
use Rattle.study.specs.Study.{count_in_group, group_weight, exposure, closing_count, expected, figure, record_sums, share_of, study_of}
use Rattle.study.proofs.Algebra.{Shaped, at, each-is}
use Rattle.study.proofs.Places.{by_column}
use Rattle.study.proofs.SumOver.{All, sums, sum_same, total-sums}
use Rattle.study.proofs.Capacity.{Accepted, accepted-sound, records-at, share-shaped}

abbrev window : ℕ → ℕ → Window
window b e = record { first = record { 0 = b }; last = record { 0 = e } }

-- the figures of a claim over the two parts of a cut total those of the undivided window
module _ (recovery death : ℕ → ℤ) (c : Claim) (ok : Sound c) (b m e : ℕ) (bm : b ≤ m) (me : m < e) where
  cut-figure : (g column : ℕ)
      → figure recovery death g column (month_records c b m) +ℤ figure recovery death g column (month_records c (m + 1) e)
      ≡ figure recovery death g column (month_records c b e)
  unfolding figure exposure closing_count expected
  cut-figure g column =
      let of : Bool → Bool → Bool → List MonthRecord → ℤ =
      λ s t u rs. pick s (pos (closing_count g column rs)) (pick t (exposure g rs) (pick u (expected recovery g rs) (expected death g rs))) in
      by_column column (λ s t u. of s t u (month_records c b m) +ℤ of s t u (month_records c (m + 1) e) ≡ of s t u (month_records c b e))
      (λ _ _. ap pos (cut-closings c ok (λ d y. count_in_group g d * pick (eqb y column) 1 0) b m e bm me))
      (λ _. cut-weighted c ok (group_weight g (λ d. pos 1)) b m e bm me)
      (cut-weighted c ok (group_weight g recovery) b m e bm me) (cut-weighted c ok (group_weight g death) b m e bm me)

  -- and so do the sums over its month records: multiplying distributes over the sum
  cut-records : (n k : ℕ) → k < 80
      → at (record_sums recovery death n (month_records c b e)) k
      ≡ at (record_sums recovery death n (month_records c b m)) k +ℤ at (record_sums recovery death n (month_records c (m + 1) e)) k
  cut-records n k l =
      let t = pos (times_at n k) in
      let f : ℕ → ℕ → ℤ = λ x y. figure recovery death (group_at k) (column_at k) (month_records c x y) in
      let r : (x y : ℕ) → at (record_sums recovery death n (month_records c x y)) k ≡ t *ℤ f x y = λ x y. records-at recovery death n (month_records c x y) k l in
      r b e ∙ ap (λ (z : ℤ). t *ℤ z) (sym (cut-figure (group_at k) (column_at k))) ∙ times-sum t (f b m) (f (m + 1) e) ∙ sym (ap₂ ◌+ℤ◌ (r b m) (r (m + 1) e))

-- a claim's shares over the two parts of a cut total its share of the undivided window
cut-share : (rates : List ℕ) (c : Claim) → Accepted rates c → (b m e : ℕ) → b ≤ m → m < e
    → plus (share_of (window b m) rates c) (share_of (window (m + 1) e) rates c) ≡ share_of (window b e) rates c
unfolding share_of
cut-share rates c a b m e bm me =
    sym (each-is ◌+ℤ◌ _ _ _ (share-shaped (window b e) rates c)
    (λ k l. cut-records _ _ c (accepted-sound rates c a) b m e bm me (weight c) k l))

module _ {R : Type 0} (win : R → Window) (rates : List ℕ) (cs : List Claim) (a : All (Accepted rates) cs) (b e : ℕ) (r : R) (rs : List R) (p : SoundParts win b e r rs) where
  pub studies-total : total plus (λ q. (study_of (win q) rates cs).sums) r rs ≡ (study_of (window b e) rates cs).sums
  unfolding study_of
  studies-total =
      total-sums plus none Shaped sums (λ c q. share_of (win q) rates c) cs r rs
      ∙ sum_same plus none Shaped sums (Accepted rates) _ _ (λ c ok. parts_total win plus (λ x y. share_of (window x y) rates c) (cut-share rates c ok) b e r rs p) cs a

-- totals of sums that are the same on every part
pub same-totals : {R : Type 0} (f g : R → List ℤ) (s t : List ℤ) (r : R) (rs : List R) → EveryPart (λ q. f q ≡ g q) r rs → s ≡ t → total plus f r rs ≡ s
    → total plus g r rs ≡ t
same-totals f g s t r rs h e w = sym (total-same plus f g r rs h) ∙ w ∙ e

-- any studies of a window and of its parts that are those of one list of accepted claims
pub built-total : {R : Type 0} (win : R → Window) (study : R → Study) (rates : List ℕ) (cs : List Claim) → All (Accepted rates) cs → (whole part : R) (parts : List R)
    → SoundParts win (win whole).first.0 (win whole).last.0 part parts → study whole ≡ study_of (win whole) rates cs
    → EveryPart (λ r. study r ≡ study_of (win r) rates cs) part parts
    → total plus (λ r. (study r).sums) part parts ≡ (study whole).sums
built-total win study rates cs a whole part parts p e es =
    same-totals (λ r. (study_of (win r) rates cs).sums) (λ r. (study r).sums) _ _ part parts (every_map _ _ (λ r q. ap (λ (s : Study). s.sums) (sym q)) part parts es)
    (ap (λ (s : Study). s.sums) (sym e)) (studies-total win rates cs a (win whole).first.0 (win whole).last.0 part parts p)
