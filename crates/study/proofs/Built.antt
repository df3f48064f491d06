-- A run's study is the study of the claims that it has taken, at every step; so a claim's answer is its own, whatever came before it.
-- Assumes nothing.
use Prim.Native.Nat.{ℕ, ◌+◌, ◌≤◌, ◌<◌}
use mathlib.Core.Path.{◌≡◌, refl, sym, ap, ◌∙◌, subst⁻¹}
use mathlib.Core.Bool.{Bool, true}
use mathlib.Core.List.{List, [], ◌∷◌}
use lib.ListN.{length}
use lib.Dec.{ltb, eqb}
use lib.IntN.{ℤ}
use native.Mathlib.Numerals.{add-one}
use borrow.Author.Tests.{eqb-true, ltb-true, lt-ltb}
use Rattle.basics.specs.Pick.{pick}
use Rattle.basics.specs.Checks.{◌then◌, check}
use Rattle.basics.proofs.Tests.{tests, by, pick_is}
use Rattle.basics.proofs.Checks.{then_next, then-assoc, then-passed}
use Rattle.claim_months.specs.declared.Claim.{Claim}
use Rattle.claim_months.specs.declared.Window.{Window}
use Rattle.claim_months.specs.Claim.{claim_check}
use Rattle.claim_months.specs.Windows.{window_sound, window_check}
use Rattle.claim_months.proofs.SpanAnswers.{window-passes}
use Rattle.rates.specs.Rates.{rate_check}
use Rattle.study.specs.declared.Study.{Study}
use Rattle.study.specs.Answers.{Answer}
use Rattle.study.specs.Sums.{none, plus}
use Rattle.study.specs.Study.{share_of, sum_over, study_of, fresh, has_room, room_check, add_check, with_claim, added, own_refusal, accepted}
use Rattle.study.specs.Demand3.{occurrences, IsOrder, nth_claim, after, given_to}
use Rattle.study.proofs.Algebra.{Shaped, plus_comm}
use Rattle.study.proofs.SumOver.{All, SameSums, sums, taken_after, same_length, run-same, order-length}
use Rattle.study.proofs.Capacity.{Accepted, room, share-shaped}

-- adding an accepted claim to the study of some gives the study of one more
with-built : (w : Window) (rates : List ℕ) (cs : List Claim) (c : Claim) → with_claim (study_of w rates cs) c rates ≡ study_of w rates (c ∷ cs)
unfolding with_claim study_of sum_over
with-built w rates cs c = λ i.
    record {
      window = w;
      taken = add-one (length cs) i;
      sums = plus_comm (sum_over plus none (share_of w rates) cs) (share_of w rates c) i;
    }

pub fresh-built : (w : Window) (rates : List ℕ) → fresh w ≡ study_of w rates []
unfolding fresh study_of sum_over
fresh-built w rates = refl

-- lists of claims with the same sums have the same study
pub study-same : (w : Window) (rates : List ℕ) (xs ys : List Claim) → SameSums xs ys → study_of w rates xs ≡ study_of w rates ys
unfolding study_of
study-same w rates xs ys same = λ i.
    record {
      window = w;
      taken = same_length xs ys same i;
      sums = same (List ℤ) plus none Shaped sums (share_of w rates) (share-shaped w rates) i;
    }

-- the number answered to a claim by the study of some accepted claims: the claim's own, or 9 if they are 500,000 or more
unfoldable pub number_after : List ℕ → List Claim → Claim → ℕ
number_after rates cs c = own_refusal rates c then check (ltb (length cs) 500000) 9

room-is : (w : Window) (rates : List ℕ) (cs : List Claim) → All (Accepted rates) cs → has_room (study_of w rates cs) ≡ ltb (length cs) 500000
unfolding has_room study_of
room-is w rates cs a =
    by (ltb (length cs) 500000) (λ y. ltb (length cs) 500000 ≡ y → has_room (study_of w rates cs) ≡ y) (λ q u. room w rates cs a (ltb-true (length cs) 500000 u))
    (λ q u. rw u) refl

number-after : (w : Window) (rates : List ℕ) → window_sound w.first.0 w.last.0 ≡ true → (cs : List Claim) (c : Claim) → All (Accepted rates) cs
    → add_check (study_of w rates cs) c rates ≡ number_after rates cs c
unfolding add_check number_after own_refusal study_of room_check
number-after w rates sound cs c a =
    then_next (window_check w.first.0 w.last.0) _ (window-passes w.first.0 w.last.0 sound)
    ∙ sym (then-assoc (claim_check c) (rate_check rates c.cell) _)
    ∙ ap (λ (t : Bool). (claim_check c then rate_check rates c.cell) then check t 9) (room-is w rates cs a)

pub added-after : (w : Window) (rates : List ℕ) → window_sound w.first.0 w.last.0 ≡ true → (cs : List Claim) (c : Claim) → All (Accepted rates) cs
    → added (study_of w rates cs) c rates
    ≡ record { refused = number_after rates cs c; study = study_of w rates (pick (eqb (number_after rates cs c) 0) (c ∷ cs) cs) }
unfolding added
added-after w rates sound cs c a =
    let n = number-after w rates sound cs c a in
    let s : pick (eqb (add_check (study_of w rates cs) c rates) 0) (with_claim (study_of w rates cs) c rates) (study_of w rates cs)
    ≡ study_of w rates (pick (eqb (number_after rates cs c) 0) (c ∷ cs) cs) =
    ap (λ (x : ℕ). pick (eqb x 0) (with_claim (study_of w rates cs) c rates) (study_of w rates cs)) n
    ∙ by (eqb (number_after rates cs c) 0)
    (λ y. pick y (with_claim (study_of w rates cs) c rates) (study_of w rates cs) ≡ study_of w rates (pick y (c ∷ cs) cs))
    (λ q. with-built w rates cs c) (λ q. refl) in
    λ i. record { refused = n i; study = s i }

-- 0 is answered to accepted claims only
pub zero-accepted : (rates : List ℕ) (cs : List Claim) (c : Claim) → number_after rates cs c ≡ 0 → Accepted rates c
unfolding number_after
zero-accepted rates cs c h = (then-passed (own_refusal rates c) _ h).0

-- with fewer than 500,000 claims taken the number answered is the claim's own
own-number : (rates : List ℕ) (cs : List Claim) (c : Claim) → length cs < 500000 → number_after rates cs c ≡ own_refusal rates c
unfolding number_after ◌then◌
own-number rates cs c h =
    let n = own_refusal rates c in
    rw (lt-ltb (length cs) 500000 h) (pick_is (eqb n 0) (λ q. sym (eqb-true n 0 q)) (λ q. refl))

module _ (w : Window) (rates : List ℕ) (sound : window_sound w.first.0 w.last.0 ≡ true) where
  -- the claims taken after one addition
  abbrev pub with_one_more : List Claim → Claim → List Claim
  with_one_more cs c = pick (eqb (own_refusal rates c) 0) (c ∷ cs) cs

  pub added-built : (cs : List Claim) (c : Claim) → All (Accepted rates) cs → length cs < 500000
      → added (study_of w rates cs) c rates ≡ record { refused = own_refusal rates c; study = study_of w rates (with_one_more cs c) }
  added-built cs c a h =
      added-after w rates sound cs c a
      ∙ ap (λ (n : ℕ). record { refused = n; study = study_of w rates (pick (eqb n 0) (c ∷ cs) cs) }) (own-number rates cs c h)

  more-accepted : (cs : List Claim) (c : Claim) → All (Accepted rates) cs → All (Accepted rates) (with_one_more cs c)
  more-accepted cs c a =
      by (eqb (own_refusal rates c) 0) (λ y. All (Accepted rates) (pick y (c ∷ cs) cs)) (λ q. (eqb-true (own_refusal rates c) 0 q, a)) (λ q. a)

  more-length : (cs : List Claim) (c : Claim) → length (with_one_more cs c) ≤ length cs + 1
  more-length cs c =
      by (eqb (own_refusal rates c) 0) (λ y. length (pick y (c ∷ cs) cs) ≤ length cs + 1) (λ q. omega tests) (λ q. omega tests)

  -- after an order, the study is that of the claims taken
  pub after-built : (claims : List Claim) (xs : List ℕ) (cs : List Claim) → All (Accepted rates) cs → length cs + length xs ≤ 500000
      → after rates claims (study_of w rates cs) xs ≡ study_of w rates (taken_after rates claims xs cs)
  unfolding after taken_after
  after-built claims [] cs a h = refl
  after-built claims (x ∷ xs) cs a h =
      let c = nth_claim claims x in
      let l = more-length cs c in
      ap (λ (s : Answer). after rates claims s.study xs) (added-built cs c a (omega tests))
      ∙ after-built claims xs (with_one_more cs c) (more-accepted cs c a) (omega tests)

  -- what a place that the order has is given: a study of fewer than 500,000 accepted claims
  abbrev pub Given : Study → Type 0
  Given s = (cs : List Claim) × (s ≡ study_of w rates cs) × All (Accepted rates) cs × (length cs < 500000)

  pub given-built : (claims : List Claim) (i : ℕ) (xs : List ℕ) (cs : List Claim) → All (Accepted rates) cs → length cs + length xs ≤ 500000 → 1 ≤ occurrences i xs
      → Given (given_to rates claims i (study_of w rates cs) xs)
  unfolding given_to occurrences
  given-built claims i [] cs a h t = absurd (omega tests)
  given-built claims i (x ∷ xs) cs a h t =
      let c = nth_claim claims x in
      let l = more-length cs c in
      by (eqb x i)
      (λ y. 1 ≤ pick y 1 0 + occurrences i xs → Given (pick y (study_of w rates cs) (given_to rates claims i (added (study_of w rates cs) c rates).study xs)))
      (λ q u. (cs, refl, a, omega tests))
      (λ q u.
      subst⁻¹ (λ (s : Answer). Given (given_to rates claims i s.study xs)) (added-built cs c a (omega tests))
      (given-built claims i xs (with_one_more cs c) (more-accepted cs c a) (omega tests) (omega tests)))
      t

  -- the last study is that of the accepted claims, whatever the order
  pub last_built : (claims : List Claim) (xs : List ℕ) → IsOrder (length claims) xs → length claims ≤ 500000
      → after rates claims (fresh w) xs ≡ study_of w rates (accepted rates claims)
  last_built claims xs o h =
      let l = order-length (length claims) xs o in
      ap (λ (s : Study). after rates claims s xs) (fresh-built w rates) ∙ after-built claims xs [] tt (omega tests)
      ∙ study-same w rates (taken_after rates claims xs []) (accepted rates claims) (run-same rates claims xs o)
