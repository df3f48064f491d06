-- Demand 3 of the C calls, the proof: the list of a run stands for the run's study at every call, so what demand 3 says of studies it says of lists.
-- Assumes nothing.
use Prim.Native.Nat.{ℕ, ◌+◌, ◌≤◌, ◌<◌}
use mathlib.Core.Path.{◌≡◌, refl, sym, ap, ap₂, ◌∙◌, subst}
use mathlib.Core.List.{List, [], ◌∷◌, map}
use mathlib.Core.Logic.{◌⊎◌, inl, inr, ⊎_elim}
use lib.ListN.{length, drop}
use lib.Dec.{ltb, eqb}
use lib.IntN.{ℤ, pos, ◌+ℤ◌, ◌-ℤ◌, ◌*ℤ◌}
use borrow.Author.Tests.{eq-eqb, le-ltb}
use Rattle.basics.specs.Pick.{pick}
use Rattle.basics.specs.Limits.{most_claims, no_form}
use Rattle.basics.proofs.Tests.{tests, by}
use Rattle.claim_months.specs.declared.Claim.{Claim}
use Rattle.claim_months.specs.Claim.{weight}
use Rattle.claim_months.specs.Windows.{Parts, total, EveryPart}
use Rattle.claim_months.proofs.Parts.{parts-every, every_map}
use Rattle.rates.specs.declared.Kind.{Kind}
use Rattle.rates.specs.declared.Kind.TheVariants.{Plain, Prepared}
use Rattle.study.specs.declared.Study.{Study}
use Rattle.study.specs.Sums.{ClosingPlace, plus}
use Rattle.study.specs.Study.{study_of, opened, added, accepted}
use Rattle.study.specs.Demand3.{StudyRun, run_window, occurrences, Opens, nth_claim, after, given_to, last_study, given_at, answer_at, change, CountedClosed, LeavesClosings, WeighsClosings, AddsUp}
use Rattle.study.proofs.Algebra.{at, each_at}
use Rattle.study.proofs.Demand3.{demand-3}
use Rattle.study.proofs.SameAdding.{same-adding}
use Rattle.study.proofs.PreparedWithdrawing.{same-withdrawing}
use Rattle.claim_file.specs.BlockAnswers.{record_in}
use Rattle.c_abi.specs.declared.Change.{Change}
use Rattle.c_abi.specs.declared.Change.TheVariants.{Add, Withdraw}
use Rattle.c_abi.specs.Abi.{date_in}
use Rattle.c_abi.specs.StudyCalls.{changed_by, taken_from, open_answer, open_after, claim_answer, claim_after}
use Rattle.c_abi.specs.CallChains.{sum_in, Stands, Does}
use Rattle.c_abi.specs.CallsAddUp.{table_of, add_answer, add_after, CallRun, study_run, call_window, CallOpens, record_at, RecordsOf, list_after, list_given_to, last_list, list_given_at, call_answer_at, list_change, CallCounts, CallLeaves, CallWeighs, CallsAddUp, CallsDemand3}
use Rattle.c_abi.proofs.CallChains.{calls-stand}
use Rattle.c_abi.proofs.PartsAlong.{parts-along, every-along, none-along, one_along}
use Rattle.std.specs.Prelude.{Option, Some}

-- with the table of either kind a claim is taken as with the rates
same-taking : (change : Change) (kind : Kind) (rates : List ℕ) (s : Study) (c : Claim)
    → changed_by change kind s c (table_of kind rates) ≡ changed_by change Plain s c rates
unfolding changed_by table_of
same-taking change Plain rates s c = refl
same-taking Add Prepared rates s c = same-adding.prepared s c rates
same-taking Withdraw Prepared rates s c = same-withdrawing.prepared s c rates

-- the record of a claim is taken as the claim
pub record-taken : (change : Change) (kind : Kind) (rates : List ℕ) (xs : List ℤ) (s : Study) (bytes : List ℕ) (c : Claim) → Stands xs s
    → record_in bytes 0 ≡ Some c
    → Does xs (claim_answer (changed_by change kind) xs bytes (table_of kind rates)) (claim_after (changed_by change kind) xs bytes (table_of kind rates))
    (changed_by change Plain s c rates)
unfolding taken_from
record-taken change kind rates xs s bytes c h e =
    let take = changed_by change kind in
    let table = table_of kind rates in
    subst (Does xs (claim_answer take xs bytes table) (claim_after take xs bytes table))
    (ap (λ (m : Option Claim). taken_from take s m table) e ∙ same-taking change kind rates s c) (calls-stand.changing change kind xs s bytes table h)

-- where ltd_open answers 0 the list was long enough, and opening answers 0
pub opens-call : (first last : ℕ) (xs : List ℤ) → open_answer first last xs ≡ 0 → (83 ≤ length xs) × ((opened (date_in first) (date_in last)).refused ≡ 0)
opens-call first last xs =
    let n = (opened (date_in first) (date_in last)).refused in
    by (ltb (length xs) 83) (λ t. pick t no_form n ≡ 0 → (83 ≤ length xs) × (n ≡ 0)) (λ q e. absurd (omega tests)) (λ q e. (omega tests, e))

-- lists that stand for studies whose sums total
module _ {A B : Type 0} (f : A → B) (list : A → List ℤ) (study : B → Study) where
  abbrev StandsFor : A → Type 0
  StandsFor a = Stands (list a) (study (f a))

  total-at : (k : ℕ) → k < 80 → (w : A) (ws : List A) → EveryPart StandsFor w ws
      → total ◌+ℤ◌ (λ (a : A). sum_in (list a) k) w ws ≡ at (total plus (λ (b : B). (study b).sums) (f w) (map f ws)) k
  unfolding total
  total-at k h w [] s = s.sum k h
  total-at k h w (v ∷ ws) s = ap₂ ◌+ℤ◌ (s.0.sum k h) (total-at k h v ws s.1) ∙ sym (each_at ◌+ℤ◌ _ _ k h)

  pub lists_total : (whole part : A) (parts : List A) → StandsFor whole → EveryPart StandsFor part parts
      → total plus (λ (b : B). (study b).sums) (f part) (map f parts) ≡ (study (f whole)).sums
      → (k : ℕ) → k < 80 → total ◌+ℤ◌ (λ (a : A). sum_in (list a) k) part parts ≡ sum_in (list whole) k
  lists_total whole part parts w s e k h = total-at k h part parts s ∙ ap (λ (l : List ℤ). at l k) e ∙ sym (w.sum k h)

-- every place of an order is one of the list's
unfoldable AllBelow : ℕ → List ℕ → Type 0
AllBelow n [] = Unit {0}
AllBelow n (p ∷ ps) = (p < n) × AllBelow n ps

all-below : (n : ℕ) (order : List ℕ) → ((i : ℕ) → n ≤ i → occurrences i order ≡ 0) → AllBelow n order
unfolding AllBelow occurrences
all-below n [] h = tt
all-below n (p ∷ ps) h = (
  by (ltb p n) (λ _. p < n) (λ q. omega tests) (λ q. let z = rw (eq-eqb p p refl) at (h p (omega tests)) in absurd (omega tests)),
  all-below n ps (λ i l. let z = h i l in omega tests),
)

module _ (kind : Kind) (rates : List ℕ) (records : List (List ℕ)) (claims : List Claim) (recs : RecordsOf records claims) where
  -- one call, and the calls of an order
  added-place : (xs : List ℤ) (s : Study) → Stands xs s → (i : ℕ) → i < length claims
      → Does xs (add_answer kind rates xs (record_at records i)) (add_after kind rates xs (record_at records i)) (added s (nth_claim claims i) rates)
  unfolding changed_by
  added-place xs s h i l = record-taken Add kind rates xs s (record_at records i) (nth_claim claims i) h (recs i l)

  after-stands : (order : List ℕ) → AllBelow (length claims) order → (xs : List ℤ) (s : Study) → Stands xs s
      → Stands (list_after kind rates records xs order) (after rates claims s order) × (drop 83 (list_after kind rates records xs order) ≡ drop 83 xs)
  unfolding AllBelow list_after after
  after-stands [] b xs s h = (h, refl)
  after-stands (p ∷ ps) b xs s h =
      let d = added-place xs s h p b.0 in
      let (l, e) = after-stands ps b.1 (add_after kind rates xs (record_at records p)) (added s (nth_claim claims p) rates).study d.left in
      (l, e ∙ d.behind)

  given-stands : (i : ℕ) (order : List ℕ) → AllBelow (length claims) order → (xs : List ℤ) (s : Study) → Stands xs s
      → Stands (list_given_to kind rates records i xs order) (given_to rates claims i s order)
  unfolding AllBelow list_given_to given_to
  given-stands i [] b xs s h = h
  given-stands i (p ∷ ps) b xs s h =
      let ys = add_after kind rates xs (record_at records p) in
      let t = (added s (nth_claim claims p) rates).study in
      by (eqb p i) (λ y. Stands (pick y xs (list_given_to kind rates records i ys ps)) (pick y s (given_to rates claims i t ps))) (λ q. h)
      (λ q. given-stands i ps b.1 ys t (added-place xs s h p b.0).left)

  -- one run
  module _ (r : CallRun) (o : CallOpens (length claims) r) where
    run-opens : Opens (length claims) (study_run r)
    run-opens = ((opens-call r.first r.last r.lent o.0).1, o.1)

    below : AllBelow (length claims) r.order
    below = all-below (length claims) r.order (λ i l. rw (le-ltb i (length claims) l) at (o.1 i))

    start : Does r.lent (open_answer r.first r.last r.lent) (open_after r.first r.last r.lent) (opened (date_in r.first) (date_in r.last))
    start = calls-stand.opening r.first r.last r.lent (opens-call r.first r.last r.lent o.0).0

    last-stands : Stands (last_list kind rates records r) (last_study rates claims (study_run r)) × (drop 83 (last_list kind rates records r) ≡ drop 83 r.lent)
    unfolding last_list last_study
    last-stands =
        let (l, e) = after-stands r.order below (open_after r.first r.last r.lent) (opened (date_in r.first) (date_in r.last)).study start.left in
        (l, e ∙ start.behind)

    module _ (i : ℕ) (l : i < length claims) where
      given-at : Stands (list_given_at kind rates records i r) (given_at rates claims i (study_run r))
      unfolding list_given_at given_at
      given-at = given-stands i r.order below (open_after r.first r.last r.lent) (opened (date_in r.first) (date_in r.last)).study start.left

      call_at : Does (list_given_at kind rates records i r) (add_answer kind rates (list_given_at kind rates records i r) (record_at records i))
          (add_after kind rates (list_given_at kind rates records i r) (record_at records i))
          (added (given_at rates claims i (study_run r)) (nth_claim claims i) rates)
      call_at = added-place (list_given_at kind rates records i r) (given_at rates claims i (study_run r)) given-at i l

      answer-is : call_answer_at kind rates records i r ≡ answer_at rates claims i (study_run r)
      unfolding call_answer_at answer_at
      answer-is = call_at.answer

      change-is : (k : ℕ) → k < 80 → list_change kind rates records i r k ≡ change rates claims i (study_run r) k
      change-is k h = ap₂ ◌-ℤ◌ (call_at.left.sum k h) (given-at.sum k h)

      closing-is : (k : ℕ) → ClosingPlace k → list_change kind rates records i r k ≡ change rates claims i (study_run r) k
      closing-is k h = change-is k (omega (tests, h.0))

      counts : CountedClosed rates claims i (study_run r) → CallCounts kind rates records i r
      counts (k₀, p, u) = (k₀, p, λ k h. closing-is k h ∙ u k h)

      counted : CallCounts kind rates records i r → CountedClosed rates claims i (study_run r)
      counted (k₀, p, u) = (k₀, p, λ k h. sym (closing-is k h) ∙ u k h)

      leaves : LeavesClosings rates claims i (study_run r) → CallLeaves kind rates records i r
      leaves u k h = closing-is k h ∙ u k h

      weighs : WeighsClosings rates claims i (study_run r) → CallWeighs kind rates records (nth_claim claims i) i r
      weighs u k h =
          change-is (k + 40) (omega (tests, h.0)) ∙ u k h ∙ ap (λ (z : ℤ). pos (weight (nth_claim claims i)) *ℤ z) (sym (closing-is k h))

  -- the runs over a window and its parts
  module _ (whole part : CallRun) (parts : List CallRun) (few : length claims ≤ most_claims) (ow : CallOpens (length claims) whole)
      (cut : Parts (CallOpens (length claims)) call_window (call_window whole).first.0 (call_window whole).last.0 part parts) where
    abbrev b : ℕ
    b = (call_window whole).first.0

    abbrev e : ℕ
    e = (call_window whole).last.0

    opens : EveryPart (CallOpens (length claims)) part parts
    opens = parts-every (CallOpens (length claims)) call_window b e part parts cut

    of-studies : AddsUp rates claims (study_run whole) (study_run part) (map study_run parts)
    of-studies =
        demand-3 rates claims (study_run whole) (study_run part) (map study_run parts) few (run-opens whole ow)
        (parts-along study_run (CallOpens (length claims)) (Opens (length claims)) run_window run-opens b e part parts cut)

    stand : EveryPart (λ r. Stands (last_list kind rates records r) (last_study rates claims (study_run r))) part parts
    stand = every_map _ _ (λ r o. (last-stands r o).0) part parts opens

    every : (P : StudyRun → Type 0) (Q : CallRun → Type 0) → ((r : CallRun) → CallOpens (length claims) r → P (study_run r) → Q r)
        → EveryPart P (study_run part) (map study_run parts) → EveryPart Q part parts
    every P Q f h = every-along study_run (CallOpens (length claims)) P Q f part parts opens h

    abbrev Claims-at : StudyRun → Study
    Claims-at r = study_of (run_window r) rates (accepted rates claims)

    pub calls-add-up : CallsAddUp kind rates records claims whole part parts
    calls-add-up =
        let a = of-studies in
        record {
          sums =
              lists_total study_run (last_list kind rates records) (last_study rates claims) whole part parts (last-stands whole ow).0 stand a.sums;
          answer = λ i l. answer-is whole ow i l ∙ a.answer i l;
          same_answer = λ i l.
              every (λ r. answer_at rates claims i r ≡ answer_at rates claims i (study_run whole)) _ (λ r o p. answer-is r o i l ∙ p ∙ sym (answer-is whole ow i l)) (a.same_answer i l);
          counted = λ i l q.
              let (c, one, each) = a.counted i l q in (
                counts whole ow i l c,
                one_along study_run (CallOpens (length claims)) (CountedClosed rates claims i) _ (λ r o. counts r o i l) (λ r o. counted r o i l) part parts opens one,
                every (λ r. CountedClosed rates claims i r ⊎ LeavesClosings rates claims i r) _
                    (λ r o p. ⊎_elim (λ y. inl (counts r o i l y)) (λ y. inr (leaves r o i l y)) p) each,
              );
          not_counted = λ i l q.
              let (c, each, never, none) = a.not_counted i l q in (
                leaves whole ow i l c,
                every (LeavesClosings rates claims i) _ (λ r o p. leaves r o i l p) each,
                λ y. never (counted whole ow i l y),
                none-along study_run (CallOpens (length claims)) (CountedClosed rates claims i) _ (λ r o. counted r o i l) part parts opens none,
              );
          weighted_closings = λ i l.
              let (c, each) = a.weighted_closings i l in
              (weighs whole ow i l c, every (WeighsClosings rates claims i) _ (λ r o p. weighs r o i l p) each);
          whole_study = subst (Stands (last_list kind rates records whole)) a.whole_study (last-stands whole ow).0;
          part_studies =
              every (λ r. last_study rates claims r ≡ Claims-at r) _ (λ r o p. subst (Stands (last_list kind rates records r)) p (last-stands r o).0) a.part_studies;
          behind = (last-stands whole ow).1;
          parts_behind = every_map _ _ (λ r o. (last-stands r o).1) part parts opens;
        }

pub calls-demand-3 : CallsDemand3
calls-demand-3 =
    record {
      adds_up = λ kind rates records claims whole part parts few recs ow cut. calls-add-up kind rates records claims recs whole part parts few ow cut;
      no_record = λ kind rates xs bytes e. calls-stand.no_record Add kind xs bytes (table_of kind rates) e;
    }
