-- Demand 3, the proof. Each run's last study is that of the accepted claims (`Built`); a claim's shares add up over the parts (the weighted and
-- the closing law of the claim months); so the studies' sums do.
-- Assumes nothing.
use Prim.Native.Nat.{ℕ, ◌+◌, ◌-◌, ◌*◌, ◌≤◌, ◌<◌}
use mathlib.Core.Path.{◌≡◌, refl, sym, ap, ◌∙◌, subst⁻¹, subst₂}
use mathlib.Core.Bool.{Bool, true, false, ◌&&◌, false≢true}
use mathlib.Core.List.{List, [], ◌∷◌}
use mathlib.Core.Logic.{◌⊎◌, inl, inr}
use lib.ListN.{length}
use lib.Dec.{eqb}
use lib.IntN.{ℤ, pos, nat_abs, ◌+ℤ◌, ◌-ℤ◌, ◌*ℤ◌, +ℤ_invr, *ℤ_comm, *ℤ-one, *ℤ-zero, one}
use borrow.Author.Tests.{eqb-true, eq-eqb, lt-ltb, le-leb, le-ltb}
use Rattle.basics.specs.Pick.{pick}
use Rattle.basics.proofs.Tests.{tests, by, and_left, and_right}
use Rattle.basics.proofs.Integers.{plus-minus}
use Rattle.calendar.specs.declared.Date.{Date}
use Rattle.claim_months.specs.declared.Claim.{Claim}
use Rattle.claim_months.specs.declared.Window.{Window}
use Rattle.claim_months.specs.Claim.{termination_day, category, weight}
use Rattle.claim_months.specs.Exposure.{month_records, closed_in}
use Rattle.claim_months.specs.Windows.{window_sound, dates_window, between, Parts, total, EveryPart, NoPart, ExactlyOnePart}
use Rattle.claim_months.proofs.DateWindows.{dates-sound, windowed}
use Rattle.claim_months.proofs.Parts.{Holds, SoundParts, parts-map, parts-every, every_map, every-both, never-part, parts_within, inside-parts, one-part}
use Rattle.claim_months.proofs.Closing.{closing_duration, closings-value, closed_of, code-range, closed-holds, holds-closed}
use Rattle.rates.specs.Rates.{recovery_rate, death_rate, group_of}
use Rattle.rates.proofs.Laws.{group-low, group-high}
use Rattle.study.specs.declared.Study.{Study}
use Rattle.study.specs.Answers.{Answer}
use Rattle.study.specs.Sums.{group_at, column_at, is_count, ClosingPlace, times_at, none, plus}
use Rattle.study.specs.Study.{count_in_group, closing_count, figure, share_of, sum_over, study_of, fresh, opened_with, opened, added, own_refusal, accepted}
use Rattle.study.specs.Demand3.{StudyRun, run_window, occurrences, Opens, nth_claim, after, given_to, last_study, given_at, answer_at, CountedClosed, LeavesClosings, WeighsClosings, closes_in, Demand3}
use Rattle.study.proofs.Algebra.{at, each_at}
use Rattle.study.proofs.Places.{one_place}
use Rattle.study.proofs.SumOver.{All, order-length}
use Rattle.study.proofs.Capacity.{Accepted, accepted-sound, records-at}
use Rattle.study.proofs.Totals.{built-total}
use Rattle.study.proofs.Built.{fresh-built, added-built, Given, given-built, last_built, with_one_more}
use Rattle.std.specs.Prelude.{Result}

-- opening accepts the window between two dates in order, and its study is fresh
pub opens-window : (b e : Date) → (opened b e).refused ≡ 0 → (dates_window b e ≡ true) × ((opened b e).study ≡ fresh (between b e))
unfolding opened opened_with
opens-window b e = windowed b e (λ (m : Result Window ℕ). (opened_with m).refused ≡ 0 → (dates_window b e ≡ true) × ((opened_with m).study ≡ fresh (between b e)))
    (λ d z. (d, refl)) (λ d z. absurd (omega tests))

opens-sound : (n : ℕ) (r : StudyRun) → Opens n r → window_sound (run_window r).first.0 (run_window r).last.0 ≡ true
opens-sound n r o = dates-sound r.first r.last (opens-window r.first r.last o.0).0

opens-fresh : (n : ℕ) (r : StudyRun) → Opens n r → (opened r.first r.last).study ≡ fresh (run_window r)
opens-fresh n r o = (opens-window r.first r.last o.0).1

-- the closings of an accepted claim's share: one at its place if it is closed in the window, else none; in the weighted set its weight times these
module _ (w : Window) (rates : List ℕ) (c : Claim) (ok : Accepted rates c) where
  abbrev closes : Bool
  closes = closed_in c w.first.0 w.last.0

  count-in : ℕ → ℕ
  count-in k = closing_count (group_at k) (column_at k) (month_records c w.first.0 w.last.0)

  share-at : (n k : ℕ) → n < 80 → group_at n ≡ group_at k → column_at n ≡ column_at k → is_count (column_at k) ≡ true
      → at (share_of w rates c) n ≡ pos (times_at (weight c) n) *ℤ pos (count-in k)
  unfolding share_of figure count-in
  share-at n k l g x u =
      rw (g, x, u) at
      (records-at (λ d. pos (recovery_rate rates c.cell d)) (λ d. pos (death_rate rates c.cell d)) (weight c)
      (month_records c w.first.0 w.last.0) n l)

  first-at : (k : ℕ) → ClosingPlace k → at (share_of w rates c) k ≡ pos (count-in k)
  unfolding times_at one
  first-at k (l, u) =
      share-at k k (omega tests) refl refl u ∙ rw (lt-ltb k 40 l) (*ℤ_comm (pos 1) (pos (count-in k)) ∙ *ℤ-one (pos (count-in k)))

  weighted-at : (k : ℕ) → ClosingPlace k → at (share_of w rates c) (k + 40) ≡ pos (weight c) *ℤ at (share_of w rates c) k
  unfolding times_at
  weighted-at k (l, u) =
      share-at (k + 40) k (omega tests) (omega tests) (omega tests) u
      ∙ rw (le-ltb (k + 40) 40 (omega tests)) (ap (λ (z : ℤ). pos (weight c) *ℤ z) (sym (first-at k (l, u))))

  -- its closing count at a place
  count-is : (k : ℕ) → count-in k ≡ pick closes (count_in_group (group_at k) (closing_duration c) * pick (eqb (category c) (column_at k)) 1 0) 0
  unfolding count-in closing_count
  count-is k =
      closings-value c (accepted-sound rates c ok) (λ d y. count_in_group (group_at k) d * pick (eqb y (column_at k)) 1 0) w.first.0 w.last.0

  place : ℕ
  place = 8 * (group_of (closing_duration c) - 1) + category c

  place_in : closes ≡ true → ClosingPlace place
  unfolding place is_count
  place_in q =
      let r = code-range c (accepted-sound rates c ok) (closed_of c w.first.0 w.last.0 q).0 in
      let g = group_of (closing_duration c) in
      let x : column_at (8 * (g - 1) + category c) ≡ category c = omega (tests, r.0, r.1) in (
        omega (tests, r.0, r.1, group-low (closing_duration c), group-high (closing_duration c)),
        rw (x, le-leb 1 (category c) r.0, le-leb (category c) 5 r.1),
      )

  closed_at : closes ≡ true → (k : ℕ) → ClosingPlace k → at (share_of w rates c) k ≡ pick (eqb k place) (pos 1) (pos 0)
  unfolding place count_in_group
  closed_at q k h =
      let r = code-range c (accepted-sound rates c ok) (closed_of c w.first.0 w.last.0 q).0 in
      first-at k h
      ∙ ap pos (rw q at (count-is k) ∙ one_place (group_of (closing_duration c)) (category c) k (group-low (closing_duration c)) (omega (tests, r.1)) h.0)
      ∙ by (eqb k place) (λ t. pos (pick t 1 0) ≡ pick t (pos 1) (pos 0)) (λ _. refl) (λ _. refl)

  open_at : closes ≡ false → (k : ℕ) → ClosingPlace k → at (share_of w rates c) k ≡ pos 0
  open_at q k h = first-at k h ∙ ap pos (rw q at (count-is k))

-- by how much the sum at a place is higher in another study; one closing count is by one, and no other; none is; each weighted one is by n times its
-- count
abbrev rise : Study → Study → ℕ → ℤ
rise s t k = at t.sums k -ℤ at s.sums k

abbrev Higher : Study → Study → Type 0
Higher s t = (k₀ : ℕ) × ClosingPlace k₀ × ((k : ℕ) → ClosingPlace k → rise s t k ≡ pick (eqb k k₀) (pos 1) (pos 0))

abbrev Same : Study → Study → Type 0
Same s t = (k : ℕ) → ClosingPlace k → rise s t k ≡ pos 0

abbrev Weighs : ℕ → Study → Study → Type 0
Weighs n s t = (k : ℕ) → ClosingPlace k → rise s t (k + 40) ≡ pos n *ℤ rise s t k

-- one more claim adds its share
module _ (w : Window) (rates : List ℕ) (c : Claim) (cs : List Claim) where
  share-rises : (k : ℕ) → k < 80 → rise (study_of w rates cs) (study_of w rates (c ∷ cs)) k ≡ at (share_of w rates c) k
  unfolding study_of sum_over
  share-rises k l =
      let s = sum_over plus none (share_of w rates) cs in
      ap (λ (z : ℤ). z -ℤ at s k) (each_at ◌+ℤ◌ (share_of w rates c) s k l) ∙ plus-minus (at (share_of w rates c) k) (at s k)

  module _ (ok : Accepted rates c) where
    -- of an accepted claim closed in the window, it makes one count higher by one ..
    counted-more : closes w rates c ok ≡ true → Higher (study_of w rates cs) (study_of w rates (c ∷ cs))
    counted-more q =
        (place w rates c ok, place_in w rates c ok q, λ k h. share-rises k (omega (tests, h.0)) ∙ closed_at w rates c ok q k h)

    -- .. and of any other none
    counted_none : closes w rates c ok ≡ false → Same (study_of w rates cs) (study_of w rates (c ∷ cs))
    counted_none q k h = share-rises k (omega (tests, h.0)) ∙ open_at w rates c ok q k h

    weighs-more : Weighs (weight c) (study_of w rates cs) (study_of w rates (c ∷ cs))
    weighs-more k h =
        share-rises (k + 40) (omega (tests, h.0)) ∙ weighted-at w rates c ok k h
        ∙ ap (λ (z : ℤ). pos (weight c) *ℤ z) (sym (share-rises k (omega (tests, h.0))))

-- a study is not higher than itself
none-rises : (s : Study) (k : ℕ) → rise s s k ≡ pos 0
none-rises s k = +ℤ_invr (at s.sums k)

none-weighs : (n : ℕ) (s : Study) → Weighs n s s
none-weighs n s k h = none-rises s (k + 40) ∙ sym (ap (λ (z : ℤ). pos n *ℤ z) (none-rises s k) ∙ *ℤ-zero (pos n))

not-higher : (s t : Study) → Same s t → Higher s t → ⊥
not-higher s t same (k, h, u) =
    let e : pos 0 ≡ pos 1 = sym (same k h) ∙ u k h ∙ rw (eq-eqb k k refl) refl in
    let n : ◌≡◌ {A = ℕ} 0 1 = ap nat_abs e in
    omega tests

-- one run
module _ (rates : List ℕ) (claims : List Claim) (h : length claims ≤ 500000) where
  last-study : (r : StudyRun) → Opens (length claims) r → last_study rates claims r ≡ study_of (run_window r) rates (accepted rates claims)
  unfolding last_study
  last-study r o =
      ap (λ (s : Study). after rates claims s r.order) (opens-fresh (length claims) r o)
      ∙ last_built (run_window r) rates (opens-sound (length claims) r o) claims r.order o.1 h

  module _ (i : ℕ) (l : i < length claims) (r : StudyRun) (o : Opens (length claims) r) where
    given : Given (run_window r) rates (opens-sound (length claims) r o) (given_at rates claims i r)
    unfolding given_at
    given =
        let n = order-length (length claims) r.order o.1 in
        let t : occurrences i r.order ≡ 1 = o.1 i ∙ rw (lt-ltb i (length claims) l) in
        subst⁻¹ (λ (s : Study). Given (run_window r) rates (opens-sound (length claims) r o) (given_to rates claims i s r.order))
        (opens-fresh (length claims) r o ∙ fresh-built (run_window r) rates)
        (given-built (run_window r) rates (opens-sound (length claims) r o) claims i r.order [] tt (omega tests) (omega tests))

    added-given : added (given_at rates claims i r) (nth_claim claims i) rates
        ≡ record { refused = own_refusal rates (nth_claim claims i); study = study_of (run_window r) rates (with_one_more (run_window r) rates (opens-sound (length claims) r o) given.0 (nth_claim claims i)) }
    added-given =
        ap (λ (s : Study). added s (nth_claim claims i) rates) given.1
        ∙ added-built (run_window r) rates (opens-sound (length claims) r o) given.0 (nth_claim claims i) given.2 given.3

    answer-own : answer_at rates claims i r ≡ own_refusal rates (nth_claim claims i)
    unfolding answer_at
    answer-own = ap (λ (a : Answer). a.refused) added-given

    after-given : (added (given_at rates claims i r) (nth_claim claims i) rates).study
        ≡ study_of (run_window r) rates (pick (eqb (own_refusal rates (nth_claim claims i)) 0) (nth_claim claims i ∷ given.0) given.0)
    after-given = ap (λ (a : Answer). a.study) added-given

    counted-run : closes_in rates (nth_claim claims i) r ≡ true → CountedClosed rates claims i r
    unfolding closes_in
    counted-run q =
        let c = nth_claim claims i in
        let n = eqb (own_refusal rates c) 0 in
        let x = closed_in c (run_window r).first.0 (run_window r).last.0 in
        let z = and_left n x q in
        let m = counted-more (run_window r) rates c given.0 (eqb-true (own_refusal rates c) 0 z) (and_right n x q) in
        subst₂ Higher (sym given.1) (sym (rw z at after-given)) m

    leaves_run : closes_in rates (nth_claim claims i) r ≡ false → LeavesClosings rates claims i r
    unfolding closes_in
    leaves_run q =
        let c = nth_claim claims i in
        let same =
        by (eqb (own_refusal rates c) 0)
        (λ y. (y && closed_in c (run_window r).first.0 (run_window r).last.0) ≡ false
        → Same (study_of (run_window r) rates given.0) (study_of (run_window r) rates (pick y (c ∷ given.0) given.0)))
        (λ z w. counted_none (run_window r) rates c given.0 (eqb-true (own_refusal rates c) 0 z) w) (λ z w k h. none-rises (study_of (run_window r) rates given.0) k) q in
        subst₂ Same (sym given.1) (sym after-given) same

    weighs-run : WeighsClosings rates claims i r
    weighs-run =
        let c = nth_claim claims i in
        let weighs =
        by (eqb (own_refusal rates c) 0)
        (λ y. Weighs (weight c) (study_of (run_window r) rates given.0) (study_of (run_window r) rates (pick y (c ∷ given.0) given.0)))
        (λ z. weighs-more (run_window r) rates c given.0 (eqb-true (own_refusal rates c) 0 z)) (λ z. none-weighs (weight c) (study_of (run_window r) rates given.0)) in
        subst₂ (Weighs (weight c)) (sym given.1) (sym after-given) weighs

    not-counted-run : closes_in rates (nth_claim claims i) r ≡ false → CountedClosed rates claims i r → ⊥
    not-counted-run q k =
        not-higher (given_at rates claims i r) (added (given_at rates claims i r) (nth_claim claims i) rates).study (leaves_run q) k

    -- a run counts the claim as closed, or leaves all counts as they were
    counted-or-left : CountedClosed rates claims i r ⊎ LeavesClosings rates claims i r
    counted-or-left =
        by (closes_in rates (nth_claim claims i) r) (λ y. closes_in rates (nth_claim claims i) r ≡ y → CountedClosed rates claims i r ⊎ LeavesClosings rates claims i r)
        (λ q u. inl (counted-run u)) (λ q u. inr (leaves_run u)) refl

    -- a run that counts the claim as closed has its closing
    counts-closes : CountedClosed rates claims i r → closes_in rates (nth_claim claims i) r ≡ true
    counts-closes k =
        by (closes_in rates (nth_claim claims i) r) (λ y. closes_in rates (nth_claim claims i) r ≡ y → y ≡ true) (λ q u. refl)
        (λ q u. absurd (not-counted-run u k)) refl

-- the accepted claims of a list are accepted
all-accepted : (rates : List ℕ) (cs : List Claim) → All (Accepted rates) (accepted rates cs)
unfolding accepted
all-accepted rates [] = tt
all-accepted rates (c ∷ cs) =
    by (eqb (own_refusal rates c) 0) (λ y. All (Accepted rates) (pick y (c ∷ accepted rates cs) (accepted rates cs)))
    (λ q. (eqb-true (own_refusal rates c) 0 q, all-accepted rates cs)) (λ q. all-accepted rates cs)

-- a claim that is closed in a window within another is closed there
closed-within : (c : Claim) (v w : Window) → (w.first.0 ≤ v.first.0) × (v.last.0 ≤ w.last.0)
    → closed_in c v.first.0 v.last.0 ≡ true → closed_in c w.first.0 w.last.0 ≡ true
closed-within c v w h q =
    let t = closed_of c v.first.0 v.last.0 q in
    holds-closed c w t.0 (omega (tests, h.0, t.1), omega (tests, h.1, t.2))

-- the runs of a list over a window and its parts
module _ (rates : List ℕ) (claims : List Claim) (whole part : StudyRun) (parts : List StudyRun) (h : length claims ≤ 500000)
    (ow : Opens (length claims) whole) (cons : Parts (Opens (length claims)) run_window (run_window whole).first.0 (run_window whole).last.0 part parts) where
  ps : SoundParts run_window (run_window whole).first.0 (run_window whole).last.0 part parts
  ps = parts-map _ _ run_window (opens-sound (length claims)) (run_window whole).first.0 (run_window whole).last.0 part parts cons

  opens : EveryPart (Opens (length claims)) part parts
  opens = parts-every _ run_window (run_window whole).first.0 (run_window whole).last.0 part parts cons

  studies : EveryPart (λ r. last_study rates claims r ≡ study_of (run_window r) rates (accepted rates claims)) part parts
  studies = every_map _ _ (last-study rates claims h) part parts opens

  -- the last studies are those of the accepted claims, which total
  totals : total plus (λ r. (last_study rates claims r).sums) part parts ≡ (last_study rates claims whole).sums
  totals =
      built-total run_window (last_study rates claims) rates (accepted rates claims) (all-accepted rates claims) whole part parts ps
      (last-study rates claims h whole ow) studies

  -- place i in every part
  module _ (i : ℕ) (l : i < length claims) where
    same : EveryPart (λ r. answer_at rates claims i r ≡ answer_at rates claims i whole) part parts
    same = every_map _ _ (λ r o. answer-own rates claims h i l r o ∙ sym (answer-own rates claims h i l whole ow)) part parts opens

    -- the undivided window has the closing of each part
    closes-whole : (r : StudyRun) → ((run_window whole).first.0 ≤ (run_window r).first.0) × ((run_window r).last.0 ≤ (run_window whole).last.0)
        → closes_in rates (nth_claim claims i) r ≡ true → closes_in rates (nth_claim claims i) whole ≡ true
    unfolding closes_in
    closes-whole r w u =
        let c = nth_claim claims i in
        let n = eqb (own_refusal rates c) 0 in
        let x = closed_in c (run_window r).first.0 (run_window r).last.0 in
        rw (and_left n x u, closed-within c (run_window r) (run_window whole) w (and_right n x u))

    once : closes_in rates (nth_claim claims i) whole ≡ true
        → CountedClosed rates claims i whole × ExactlyOnePart (CountedClosed rates claims i) part parts
        × EveryPart (λ r. CountedClosed rates claims i r ⊎ LeavesClosings rates claims i r) part parts
    unfolding closes_in
    once q =
        let c = nth_claim claims i in
        let n = eqb (own_refusal rates c) 0 in
        let x = closed_in c (run_window whole).first.0 (run_window whole).last.0 in
        let z = and_left n x q in
        let t = closed_of c (run_window whole).first.0 (run_window whole).last.0 (and_right n x q) in (
          counted-run rates claims h i l whole ow q,
          one-part (λ r. Holds (termination_day c) (run_window r)) (CountedClosed rates claims i) part parts
              (every_map _ _
              (λ r o. (
                λ w. counted-run rates claims h i l r o (rw z (holds-closed c (run_window r) t.0 w)),
                λ k. closed-holds c (run_window r) (and_right n (closed_in c (run_window r).first.0 (run_window r).last.0) (counts-closes rates claims h i l r o k)),
              ))
              part parts opens)
              (inside-parts run_window (termination_day c) (run_window whole).first.0 (run_window whole).last.0 part parts ps t.1 t.2),
          every_map _ _ (λ r o. counted-or-left rates claims h i l r o) part parts opens,
        )

    -- in every part, where the undivided window has no closing
    none-closes : closes_in rates (nth_claim claims i) whole ≡ false
        → EveryPart (λ r. closes_in rates (nth_claim claims i) r ≡ false) part parts
    none-closes q =
        every_map _ _
        (λ r w.
        by (closes_in rates (nth_claim claims i) r) (λ y. closes_in rates (nth_claim claims i) r ≡ y → y ≡ false)
        (λ u v. absurd (false≢true (sym q ∙ closes-whole r w v))) (λ u v. refl) refl)
        part parts (parts_within run_window (run_window whole).first.0 (run_window whole).last.0 part parts ps)

    never : closes_in rates (nth_claim claims i) whole ≡ false
        → LeavesClosings rates claims i whole × EveryPart (LeavesClosings rates claims i) part parts
        × (CountedClosed rates claims i whole → ⊥) × NoPart (CountedClosed rates claims i) part parts
    never q =
        let none = none-closes q in (
          leaves_run rates claims h i l whole ow q,
          every-both (Opens (length claims)) (λ r. closes_in rates (nth_claim claims i) r ≡ false) (LeavesClosings rates claims i)
              (λ r o w. leaves_run rates claims h i l r o w) part parts opens none,
          not-counted-run rates claims h i l whole ow q,
          never-part (CountedClosed rates claims i) part parts
              (every-both (Opens (length claims)) (λ r. closes_in rates (nth_claim claims i) r ≡ false) (λ r. CountedClosed rates claims i r → ⊥)
              (λ r o w. not-counted-run rates claims h i l r o w) part parts opens none),
        )

    weighs : WeighsClosings rates claims i whole × EveryPart (WeighsClosings rates claims i) part parts
    weighs = (weighs-run rates claims h i l whole ow, every_map _ _ (weighs-run rates claims h i l) part parts opens)

pub demand-3 : Demand3
demand-3 rates claims whole part parts h ow cons =
    record {
      sums = totals rates claims whole part parts h ow cons;
      answer = λ i l. answer-own rates claims h i l whole ow;
      same_answer = same rates claims whole part parts h ow cons;
      counted = once rates claims whole part parts h ow cons;
      not_counted = never rates claims whole part parts h ow cons;
      weighted_closings = weighs rates claims whole part parts h ow cons;
      whole_study = last-study rates claims h whole ow;
      part_studies = studies rates claims whole part parts h ow cons;
    }
