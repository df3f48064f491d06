-- Request No. 10, the proof. A study after allowed moves is that of the claims remaining: an addition puts a claim in front of them, and a withdrawn one
-- can be moved to their front, where its share was added last.
-- Assumes nothing.
use Prim.Native.Nat.{ℕ, suc, ◌+◌, ◌-◌, ◌≤◌, ◌<◌}
use mathlib.Core.Path.{◌≡◌, refl, sym, ap, ◌∙◌}
use mathlib.Core.Bool.{Bool, true, ◌&&◌, cond, false≢true}
use mathlib.Core.List.{List, [], ◌∷◌}
use lib.ListN.{length}
use lib.Dec.{ltb, eqb}
use lib.IntN.{ℤ, pos, negsuc, ◌+ℤ◌}
use lib.Signed.{non_neg, le_z}
use borrow.Author.Tests.{eqb-true, ltb-true, le-leb, lt-ltb}
use Rattle.basics.specs.Pick.{pick}
use Rattle.basics.specs.Checks.{check, ◌then◌, refuse_full, refuse_withdrawal}
use Rattle.basics.proofs.Tests.{tests, by, and_left, and_right}
use Rattle.basics.proofs.Checks.{then_next}
use Rattle.basics.proofs.Tables.{every-is}
use Rattle.claim_months.specs.declared.Claim.{Claim}
use Rattle.claim_months.specs.declared.Window.{Window}
use Rattle.claim_months.specs.Claim.{claim_check}
use Rattle.claim_months.specs.Windows.{window_sound, window_check}
use Rattle.claim_months.proofs.DateWindows.{dates-sound}
use Rattle.claim_months.proofs.SpanAnswers.{window-passes}
use Rattle.claim_months.proofs.Parts.{parts-map, parts-every, every_map}
use Rattle.rates.specs.Rates.{rate_check}
use Rattle.study.specs.declared.Study.{Study}
use Rattle.study.specs.Answers.{Answer}
use Rattle.study.specs.Sums.{column_at, is_count, none, plus, minus}
use Rattle.study.specs.Study.{share_of, sum_over, study_of, opened, added, own_refusal}
use Rattle.study.specs.Withdrawing.{withdraw_room, covers, can_withdraw, withdraw_check, without_claim, withdrawn}
use Rattle.study.specs.Moves.{Move, times_in, without, remaining_after, remaining, allowed_after, Allowed, moved, moved_all, move_answers, due_answers, Dates, dates_of, Accepted, moved_at, answers_in}
use Rattle.study.specs.TakenBack.{TakenBack}
use Rattle.study.proofs.Algebra.{Shaped, at, each_at, plus_comm, minus_plus}
use Rattle.study.proofs.SumOver.{All, sums, good-sum, same_length}
use Rattle.study.proofs.Capacity.{Accepted as AcceptedClaim, accepted-checks, accepted-rates, share-shaped, shares-sized, built-within}
use Rattle.study.proofs.Built.{fresh-built, study-same, number_after, added-after}
use Rattle.study.proofs.Totals.{built-total}
use Rattle.study.proofs.Members.{to_front, all_in, all_without, length_without}
use Rattle.study.proofs.Demand3.{opens-window}

-- what is not below 0 may be added
add-more : (x y : ℤ) → non_neg y ≡ true → le_z x (x +ℤ y) ≡ true
add-more (pos m) (pos n) h = le-leb m (m + n) (omega tests)
add-more (negsuc m) (pos n) h =
    by (ltb n (suc m)) (λ t. le_z (negsuc m) (cond t (negsuc (suc m - suc n)) (pos (n - suc m))) ≡ true) (λ q. le-leb (suc m - suc n) m (omega tests)) (λ q. refl)
add-more x (negsuc n) h = absurd (false≢true h)

-- sums cover what they were added to, where no count of them is below 0
covers-plus : (a b : List ℤ) → ((k : ℕ) → k < 80 → is_count (column_at k) ≡ true → non_neg (at b k) ≡ true) → covers (plus a b) a ≡ true
unfolding covers
covers-plus a b h =
    every-is 80 _
    (λ k l.
    by (is_count (column_at k)) (λ t. is_count (column_at k) ≡ t → pick t (le_z (at a k) (at (plus a b) k)) true ≡ true)
    (λ q u. rw (each_at ◌+ℤ◌ a b k l) (add-more (at a k) (at b k) (h k l u))) (λ q u. refl) refl)

-- and taken off, it is gone
taken-off : (a b : List ℤ) → Shaped b → minus (plus a b) a ≡ b
taken-off a b s = ap (λ (x : List ℤ). minus x a) (plus_comm a b) ∙ minus_plus b a s

module _ (w : Window) (rates : List ℕ) where
  -- the study of a claim and some others, without the claim
  without-front : (c : Claim) (cs : List Claim) → without_claim (study_of w rates (c ∷ cs)) c rates ≡ study_of w rates cs
  unfolding without_claim study_of sum_over
  without-front c cs =
      let n : suc (length cs) - 1 ≡ length cs = omega tests in
      let s = taken-off (share_of w rates c) (sum_over plus none (share_of w rates) cs) (good-sum plus none Shaped sums rates (share_of w rates) (share-shaped w rates) cs) in
      λ i. record { window = w; taken = n i; sums = s i }

  -- it has room, and its sums cover the claim's
  front-room : (cs : List Claim) → All (AcceptedClaim rates) cs → length cs ≤ 500000 → withdraw_room (study_of w rates cs) ≡ true
  unfolding withdraw_room study_of
  front-room cs a h = rw (le-leb (length cs) 500000 h, built-within w rates cs a h)

  front-covers : (c : Claim) (cs : List Claim) → All (AcceptedClaim rates) cs → can_withdraw (study_of w rates (c ∷ cs)) c rates ≡ true
  unfolding can_withdraw study_of sum_over
  front-covers c cs a =
      let t : ltb 0 (suc (length cs)) ≡ true = lt-ltb 0 (suc (length cs)) (omega tests) in
      rw (t, covers-plus (share_of w rates c) (sum_over plus none (share_of w rates) cs) (shares-sized w rates cs a).count)

-- the claims of a study as moves leave them: accepted ones, up to 500,000
pub record Kept (rates : List ℕ) (cs : List Claim) : Type 0 where
  pub accepted : All (AcceptedClaim rates) cs
  pub few : length cs ≤ 500000

-- 0 is answered to a claim whose own number is 0 while there is room
zero-after : (a : ℕ) (t : Bool) → eqb (a then check t refuse_full) 0 ≡ (eqb a 0 && t)
unfolding ◌then◌
zero-after a t =
    by (eqb a 0) (λ y. eqb a 0 ≡ y → eqb (pick y (check t refuse_full) a) 0 ≡ (y && t))
    (λ q u. by t (λ z. eqb (check z refuse_full) 0 ≡ z) (λ r. refl) (λ r. refl)) (λ q u. u) refl

-- the claims remaining after one move more
abbrev next : List ℕ → List Claim → Move → List Claim
next rates cs m = remaining_after rates cs (m ∷ [])

next-kept : (rates : List ℕ) (cs : List Claim) (m : Move) → Kept rates cs → Kept rates (next rates cs m)
unfolding remaining_after
next-kept rates cs m k =
    let c = m.claim in
    let l = length_without c cs in
    by m.withdraws (λ y. Kept rates (pick y (without c cs) (pick (eqb (own_refusal rates c) 0 && ltb (length cs) 500000) (c ∷ cs) cs)))
    (λ q. record { accepted = all_without (AcceptedClaim rates) c cs k.accepted; few = omega (tests, k.few) })
    (λ q.
    by (eqb (own_refusal rates c) 0 && ltb (length cs) 500000) (λ y. Kept rates (pick y (c ∷ cs) cs))
    (λ u.
    let own = eqb-true (own_refusal rates c) 0 (and_left (eqb (own_refusal rates c) 0) (ltb (length cs) 500000) u) in
    let h = ltb-true (length cs) 500000 (and_right (eqb (own_refusal rates c) 0) (ltb (length cs) 500000) u) in
    record { accepted = (own, k.accepted); few = omega tests })
    (λ u. k))

-- Of any study, so that a check in another place is refused at once.
all-pass : (s : Study) (c : Claim) (rates : List ℕ) → window_check s.window.first.0 s.window.last.0 ≡ 0 → claim_check c ≡ 0 → rate_check rates c.cell ≡ 0
    → withdraw_room s ≡ true → can_withdraw s c rates ≡ true → withdraw_check s c rates ≡ 0
unfolding withdraw_check
all-pass s c rates window claim cell room covered =
    then_next (window_check s.window.first.0 s.window.last.0) _ window ∙ then_next (claim_check c) _ claim ∙ then_next (rate_check rates c.cell) _ cell
    ∙ then_next (check (withdraw_room s) refuse_full) _ (ap (λ (t : Bool). check t refuse_full) room)
    ∙ ap (λ (t : Bool). check t refuse_withdrawal) covered

module _ (w : Window) (rates : List ℕ) (sound : window_sound w.first.0 w.last.0 ≡ true) where
  withdraw-passes : (c : Claim) (cs : List Claim) → Kept rates (c ∷ cs) → withdraw_check (study_of w rates (c ∷ cs)) c rates ≡ 0
  unfolding study_of
  withdraw-passes c cs k =
      let ok = k.accepted.0 in
      all-pass (study_of w rates (c ∷ cs)) c rates (window-passes w.first.0 w.last.0 sound) (accepted-checks rates c ok) (accepted-rates rates c ok)
      (front-room w rates (c ∷ cs) k.accepted k.few) (front-covers w rates c cs k.accepted.1)

  withdrawn-front : (c : Claim) (cs : List Claim) → Kept rates (c ∷ cs)
      → withdrawn (study_of w rates (c ∷ cs)) c rates ≡ record { refused = 0; study = study_of w rates cs }
  unfolding withdrawn
  withdrawn-front c cs k =
      let s = study_of w rates (c ∷ cs) in
      let n = withdraw-passes c cs k in
      let t = ap (λ (x : ℕ). pick (eqb x 0) (without_claim s c rates) s) n ∙ without-front w rates c cs in
      λ i. record { refused = n i; study = t i }

  -- a claim that is among those of a study is withdrawn
  withdrawn-built : (c : Claim) (cs : List Claim) → Kept rates cs → 0 < times_in c cs
      → withdrawn (study_of w rates cs) c rates ≡ record { refused = 0; study = study_of w rates (without c cs) }
  withdrawn-built c cs k h =
      let same = to_front c cs h in
      let l = same_length cs (c ∷ without c cs) same in
      ap (λ (s : Study). withdrawn s c rates) (study-same w rates cs (c ∷ without c cs) same)
      ∙ withdrawn-front c (without c cs)
      (record { accepted = (all_in (AcceptedClaim rates) c cs k.accepted h, all_without (AcceptedClaim rates) c cs k.accepted); few = omega (tests, k.few) })

  -- one move, and a list of them
  moved-built : (cs : List Claim) (m : Move) → Kept rates cs → pick m.withdraws (ltb 0 (times_in m.claim cs)) true ≡ true
      → moved rates (study_of w rates cs) m
      ≡ record { refused = pick m.withdraws 0 (number_after rates cs m.claim); study = study_of w rates (next rates cs m) }
  unfolding moved remaining_after number_after
  moved-built cs m k =
      let c = m.claim in
      let s = study_of w rates cs in
      let t = eqb (own_refusal rates c) 0 && ltb (length cs) 500000 in
      by m.withdraws
      (λ y. pick y (ltb 0 (times_in c cs)) true ≡ true → pick y (withdrawn s c rates) (added s c rates)
      ≡ record { refused = pick y 0 (number_after rates cs c); study = study_of w rates (pick y (without c cs) (pick t (c ∷ cs) cs)) })
      (λ q u. withdrawn-built c cs k (ltb-true 0 (times_in c cs) u))
      (λ q u.
      added-after w rates sound cs c k.accepted
      ∙ ap (λ (t : Bool). record { refused = number_after rates cs c; study = study_of w rates (pick t (c ∷ cs) cs) })
      (zero-after (own_refusal rates c) (ltb (length cs) 500000)))

  pub all_moved : (ms : List Move) (cs : List Claim) → Kept rates cs → allowed_after rates cs ms ≡ true
      → (moved_all rates (study_of w rates cs) ms ≡ study_of w rates (remaining_after rates cs ms))
      × (move_answers rates (study_of w rates cs) ms ≡ due_answers rates cs ms)
  unfolding moved_all move_answers due_answers remaining_after allowed_after number_after
  all_moved [] cs k h = (refl, refl)
  all_moved (m ∷ ms) cs k h =
      let here = pick m.withdraws (ltb 0 (times_in m.claim cs)) true in
      let rest = allowed_after rates (next rates cs m) ms in
      let e = moved-built cs m k (and_left here rest h) in
      let (study, answers) = all_moved ms (next rates cs m) (next-kept rates cs m k) (and_right here rest h) in (
        ap (λ (a : Answer). moved_all rates a.study ms) e ∙ study,
        ap (λ (a : Answer). a.refused ∷ move_answers rates a.study ms) e
            ∙ ap (λ (ns : List ℕ). pick m.withdraws 0 (number_after rates cs m.claim) ∷ ns) answers,
      )

-- the claims remaining are accepted ones, up to 500,000
all-kept : (rates : List ℕ) (ms : List Move) (cs : List Claim) → Kept rates cs → Kept rates (remaining_after rates cs ms)
unfolding remaining_after
all-kept rates [] cs k = k
all-kept rates (m ∷ ms) cs k = all-kept rates ms (next rates cs m) (next-kept rates cs m k)

none_kept : (rates : List ℕ) → Kept rates []
none_kept rates = record { accepted = tt; few = omega tests }

pub remaining-kept : (rates : List ℕ) (ms : List Move) → Kept rates (remaining rates ms)
remaining-kept rates ms = all-kept rates ms [] (none_kept rates)

-- the window of two dates that opening accepts
pub accepted-window : (d : Dates) → Accepted d → window_sound (dates_of d).first.0 (dates_of d).last.0 ≡ true
accepted-window d ok = dates-sound d.first d.last (opens-window d.first d.last ok).0

pub opened-built : (rates : List ℕ) (d : Dates) → Accepted d → (opened d.first d.last).study ≡ study_of (dates_of d) rates []
opened-built rates d ok = (opens-window d.first d.last ok).1 ∙ fresh-built (dates_of d) rates

module _ (rates : List ℕ) (ms : List Move) (h : Allowed rates ms) (d : Dates) (ok : Accepted d) where
  course : (moved_all rates (study_of (dates_of d) rates []) ms ≡ study_of (dates_of d) rates (remaining rates ms))
      × (move_answers rates (study_of (dates_of d) rates []) ms ≡ due_answers rates [] ms)
  course = all_moved (dates_of d) rates (accepted-window d ok) ms [] (none_kept rates) h

  pub moved-study : moved_at rates ms d ≡ study_of (dates_of d) rates (remaining rates ms)
  moved-study = ap (λ (s : Study). moved_all rates s ms) (opened-built rates d ok) ∙ course.0

  moved-answers : answers_in rates ms d ≡ due_answers rates [] ms
  moved-answers = ap (λ (s : Study). move_answers rates s ms) (opened-built rates d ok) ∙ course.1

pub taken_back : TakenBack
taken_back =
    record {
      answers = λ rates ms d ok h. moved-answers rates ms h d ok;
      study = λ rates ms d ok h. moved-study rates ms h d ok;
      same_answers = λ rates ms whole part parts ok h ps.
          every_map _ _ (λ d o. moved-answers rates ms h d o ∙ sym (moved-answers rates ms h whole ok)) part parts
          (parts-every Accepted dates_of (dates_of whole).first.0 (dates_of whole).last.0 part parts ps);
      parts_total = λ rates ms whole part parts ok h ps.
          built-total dates_of (moved_at rates ms) rates (remaining rates ms) (remaining-kept rates ms).accepted whole part parts
          (parts-map _ _ dates_of accepted-window (dates_of whole).first.0 (dates_of whole).last.0 part parts ps) (moved-study rates ms h whole ok)
          (every_map _ _ (moved-study rates ms h) part parts (parts-every Accepted dates_of (dates_of whole).first.0 (dates_of whole).last.0 part parts ps));
    }
