-- Demand 3 for runs with corrections, the proof. The course of such a run doesn't depend on the window of block 0: which blocks are sound, which
-- records are kept and which of them are taken is the same in every window.
-- Assumes nothing.
use Prim.Native.Nat.{ℕ, suc, ◌+◌, ◌/◌, ◌%◌, ◌≤◌}
use mathlib.Core.Path.{◌≡◌, refl, sym, ap, subst⁻¹, ◌∙◌}
use mathlib.Core.Bool.{Bool, true, ◌&&◌}
use mathlib.Core.List.{List, [], ◌∷◌, ◌++◌, append-nil}
use native.Mathlib.Omega.{arith}
use lib.ListN.{length}
use lib.Seq.{take_at}
use lib.Dec.{leb, eqb}
use borrow.Author.Tests.{eqb-true, eq-eqb}
use Rattle.basics.specs.Pick.{pick}
use Rattle.basics.specs.Checks.{refuse_block, refuse_too_many_records}
use Rattle.basics.proofs.Tests.{tests, by}
use Rattle.claim_months.specs.declared.Claim.{Claim}
use Rattle.claim_months.specs.declared.Window.{Window}
use Rattle.claim_months.specs.Windows.{window_sound}
use Rattle.claim_months.proofs.DateWindows.{both-dates}
use Rattle.claim_months.proofs.Parts.{parts-map, parts-every, every_map}
use Rattle.study.specs.declared.Study.{Study}
use Rattle.study.specs.Answers.{Answer}
use Rattle.study.specs.Study.{sum_over, study_of, fresh, first_day_alone, opened}
use Rattle.study.proofs.SumOver.{All}
use Rattle.study.proofs.Capacity.{Accepted}
use Rattle.study.proofs.Built.{number_after, added-after, zero-accepted, fresh-built, study-same}
use Rattle.study.proofs.Members.{front as to_front}
use Rattle.study.proofs.Totals.{same-totals, built-total}
use Rattle.claim_file.specs.declared.WindowDates.{WindowDates}
use Rattle.claim_file.specs.Runs.{CorrectedRun}
use Rattle.claim_file.specs.Bytes.{date_from}
use Rattle.claim_file.specs.Block.{block_sound, window_bytes}
use Rattle.claim_file.specs.Run.{adding}
use Rattle.claim_file.specs.Files.{Accepts, window_days}
use Rattle.claim_file.specs.Corrections.{PlacedClaim, records_of_blocks, claims_of, sound_blocks, last_ones, records_added, corrected_run_with}
use Rattle.claim_file.specs.CorrectedDemand3.{kept_claims, HasKeptStudy, corrected_of, SameCorrectedEnd, CorrectedDemand3}
use Rattle.claim_file.proofs.BlockTrips.{window-sound, window-first, window-last}
use Rattle.claim_file.proofs.Files.{date-fits, opens, sound-days}
use Rattle.claim_file.proofs.Runs.{sound}
use Rattle.claim_file.proofs.BlockZero.{first-date, sound-behind, records-behind, all-behind}
use Rattle.claim_file.proofs.RunRecords.{window_answer}

-- a run without its window: the claims taken in place of their study
record Course : Type 0 where
  claims : List Claim
  refused : ℕ
  block : ℕ
  place : ℕ

abbrev course : List Claim → ℕ → ℕ → ℕ → Course
course cs number block place = record { claims = cs; refused = number; block = block; place = place }

module _ (rates : List ℕ) where
  -- adding records behind some claims
  adds : List Claim → List PlacedClaim → Course
  adds cs [] = course cs 0 0 0
  adds cs (r ∷ rs) =
      let m = number_after rates cs r.claim in
      pick (eqb m 0) (adds (r.claim ∷ cs) rs) (course cs m r.block r.place)

  adds-accepted : (rs : List PlacedClaim) (cs : List Claim) → All (Accepted rates) cs → All (Accepted rates) (adds cs rs).claims
  unfolding adds
  adds-accepted [] cs a = a
  adds-accepted (r ∷ rs) cs a =
      let m = number_after rates cs r.claim in
      by (eqb m 0) (λ t. All (Accepted rates) (pick t (adds (r.claim ∷ cs) rs) (course cs m r.block r.place)).claims)
      (λ e. adds-accepted rs (r.claim ∷ cs) (zero-accepted rates cs r.claim (eqb-true m 0 e), a)) (λ e. a)

  abbrev with_study : Window → Course → CorrectedRun
  with_study w p = record { study = study_of w rates p.claims; refused = p.refused; block = p.block; place = p.place }

  adds-so : (w : Window) → window_sound w.first.0 w.last.0 ≡ true → (rs : List PlacedClaim) (cs : List Claim) → All (Accepted rates) cs
      → records_added (adding rates) (study_of w rates cs) rs ≡ with_study w (adds cs rs)
  unfolding records_added adds
  adds-so w ok [] cs a = refl
  adds-so w ok (r ∷ rs) cs a =
      let c = r.claim in
      let m = number_after rates cs c in
      let step : Study → ℕ → Bool → CorrectedRun =
      λ s n t. pick t (records_added (adding rates) s rs) (record { study = s; refused = n; block = r.block; place = r.place }) in
      ap (λ (x : Answer). step x.study x.refused (eqb x.refused 0)) (added-after w rates ok cs c a)
      ∙ by (eqb m 0) (λ t. step (study_of w rates (pick t (c ∷ cs) cs)) m t ≡ with_study w (pick t (adds (c ∷ cs) rs) (course cs m r.block r.place)))
      (λ e. adds-so w ok rs (c ∷ cs) (zero-accepted rates cs c (eqb-true m 0 e), a)) (λ e. refl)

  -- records that are all taken have the study of their claims and those before
  adds-study : (w : Window) (rs : List PlacedClaim) (cs : List Claim) → (adds cs rs).refused ≡ 0
      → study_of w rates (adds cs rs).claims ≡ study_of w rates (claims_of rs ++ cs)
  unfolding adds claims_of
  adds-study w [] cs h = refl
  adds-study w (r ∷ rs) cs h =
      let c = r.claim in
      let m = number_after rates cs c in
      let stop = course cs m r.block r.place in
      by (eqb m 0)
      (λ t. (pick t (adds (c ∷ cs) rs) stop).refused ≡ 0
      → study_of w rates (pick t (adds (c ∷ cs) rs) stop).claims ≡ study_of w rates (c ∷ (claims_of rs ++ cs)))
      (λ e z. adds-study w rs (c ∷ cs) z ∙ study-same w rates (claims_of rs ++ (c ∷ cs)) (c ∷ (claims_of rs ++ cs)) (to_front (claims_of rs) c cs))
      (λ e z. absurd (omega tests)) h

module _ (rates rest : List ℕ) where
  abbrev count : ℕ
  count = length rest / 512

  abbrev sound_count : ℕ
  sound_count = sound_blocks 1 rest count

  abbrev records : List PlacedClaim
  records = records_of_blocks rest 1 count

  abbrev all_behind : Bool
  all_behind = eqb sound_count count && eqb (length rest % 512) 0

  -- the course of the run behind block 0: refused with too many records or at a block that isn't sound, or that of adding the records kept
  abbrev too_many : Course
  too_many = course [] refuse_too_many_records 0 0

  abbrev unsound : Course
  unsound = course [] refuse_block (suc sound_count) 0

  course_behind : Course
  course_behind = pick all_behind (pick (leb (length records) 60000) (adds rates [] (last_ones records)) too_many) unsound

  course-accepted : All (Accepted rates) course_behind.claims
  unfolding course_behind
  course-accepted =
      let p = adds rates [] (last_ones records) in
      let few = leb (length records) 60000 in
      by all_behind (λ t. All (Accepted rates) (pick t (pick few p too_many) unsound).claims)
      (λ e. by few (λ t. All (Accepted rates) (pick t p too_many).claims) (λ u. adds-accepted rates (last_ones records) [] tt) (λ u. tt)) (λ e. tt)

  -- a run of a window with that course. A refused block leaves a study that isn't opened, with the sums of no claims
  record Follows (w : WindowDates) (p : Course) (r : CorrectedRun) : Type 0 where
    number-so : r.refused ≡ p.refused
    block-so : r.block ≡ p.block
    place-so : r.place ≡ p.place
    taken-so : r.study.taken ≡ length p.claims
    sums-so : r.study.sums ≡ (study_of (window_days w) rates p.claims).sums
    study-so : p.refused ≡ 0 → r.study ≡ study_of (window_days w) rates p.claims

  follows-with : (w : WindowDates) (p : Course) → Follows w p (with_study rates (window_days w) p)
  unfolding study_of
  follows-with w p = record { number-so = refl; block-so = refl; place-so = refl; taken-so = refl; sums-so = refl; study-so = λ z. refl }

  abbrev not_opened : CorrectedRun
  not_opened = record { study = fresh first_day_alone; refused = refuse_block; block = suc sound_count; place = 0 }

  follows-unsound : (w : WindowDates) → Follows w unsound not_opened
  unfolding study_of fresh sum_over
  follows-unsound w =
      record { number-so = refl; block-so = refl; place-so = refl; taken-so = refl; sums-so = refl; study-so = λ z. absurd (omega tests) }

  -- records that are all taken have the study of the claims kept
  course-study : (w : Window) → course_behind.refused ≡ 0 → study_of w rates course_behind.claims ≡ study_of w rates (claims_of (last_ones records))
  unfolding course_behind
  course-study w =
      let p = adds rates [] (last_ones records) in
      let few = leb (length records) 60000 in
      let Kept : Course → Type 0 = λ q. q.refused ≡ 0 → study_of w rates q.claims ≡ study_of w rates (claims_of (last_ones records)) in
      by all_behind (λ t. Kept (pick t (pick few p too_many) unsound))
      (λ e.
      by few (λ t. Kept (pick t p too_many))
      (λ u z. adds-study rates w (last_ones records) [] z ∙ ap (study_of w rates) (append-nil (claims_of (last_ones records)))) (λ u z. absurd (omega tests)))
      (λ e z. absurd (omega tests))

  module _ (w : WindowDates) (ok : Accepts w) where
    abbrev front : List ℕ
    front = window_bytes w.first w.last

    front-sound : block_sound 0 front ≡ true
    unfolding block_sound
    front-sound = window-sound w.first w.last

    -- the window of the file is that of block 0
    file-window : window_answer (front ++ rest) ≡ opened w.first w.last
    file-window =
        let d = both-dates w.first w.last (opens rates w ok).0 in
        let t = take_at front rest 512 (sound 0 front front-sound).length-so in
        let at : (i : ℕ) → i + 3 ≤ 511 → date_from (front ++ rest) i ≡ date_from front i =
        λ i l. sym (first-date (front ++ rest) i (omega arith)) ∙ ap (λ (x : List ℕ). date_from x i) t in
        let b = at 16 (omega arith) ∙ window-first w.first w.last (date-fits w.first d.0) in
        let e = at 20 (omega arith) ∙ window-last w.first w.last (date-fits w.last d.1) in
        λ i. opened (b i) (e i)

    window-study : (window_answer (front ++ rest)).study ≡ study_of (window_days w) rates []
    window-study = ap (λ (a : Answer). a.study) file-window ∙ (opens rates w ok).1 ∙ fresh-built (window_days w) rates

    -- the run by its tests
    run_is : corrected_of rates rest w
        ≡ pick all_behind
        (pick (leb (length records) 60000) (records_added (adding rates) (study_of (window_days w) rates []) (last_ones records))
        (record { study = study_of (window_days w) rates []; refused = refuse_too_many_records; block = 0; place = 0 }))
        not_opened
    unfolding corrected_of corrected_run_with
    run_is =
        let z : (window_answer (front ++ rest)).refused ≡ 0 = ap (λ (a : Answer). a.refused) file-window ∙ ok in
        rw (
          all-behind front rest front-sound,
          eq-eqb (window_answer (front ++ rest)).refused 0 z,
          records-behind front rest front-sound,
          sound-behind front rest front-sound,
          window-study,
        )

    run-follows : Follows w course_behind (corrected_of rates rest w)
    unfolding course_behind
    run-follows =
        let p = adds rates [] (last_ones records) in
        let run = records_added (adding rates) (study_of (window_days w) rates []) (last_ones records) in
        let many-run = with_study rates (window_days w) too_many in
        let few = leb (length records) 60000 in
        subst⁻¹ (λ (r : CorrectedRun). Follows w course_behind r) run_is
        (by all_behind (λ t. Follows w (pick t (pick few p too_many) unsound) (pick t (pick few run many-run) not_opened))
        (λ e.
        by few (λ t. Follows w (pick t p too_many) (pick t run many-run))
        (λ u. subst⁻¹ (λ (r : CorrectedRun). Follows w p r) (adds-so rates (window_days w) (sound-days rates w ok) (last_ones records) [] tt) (follows-with w p))
        (λ u. follows-with w too_many))
        (λ e. follows-unsound w))

    -- a run that is not refused has the study of the claims kept
    kept-study : HasKeptStudy rates rest w
    unfolding kept_claims
    kept-study z =
        let f = run-follows in
        let p = sym f.number-so ∙ z in
        f.study-so p ∙ course-study (window_days w) p

same_end : (rates rest : List ℕ) (v w : WindowDates) → Accepts v → Accepts w → SameCorrectedEnd (corrected_of rates rest v) (corrected_of rates rest w)
same_end rates rest v w k ok =
    let f = run-follows rates rest v k in
    let g = run-follows rates rest w ok in
    record {
      number = f.number-so ∙ sym g.number-so;
      block = f.block-so ∙ sym g.block-so;
      place = f.place-so ∙ sym g.place-so;
      taken = f.taken-so ∙ sym g.taken-so;
    }

pub corrected-demand-3 : CorrectedDemand3
corrected-demand-3 rates rest whole part parts ok ps =
    let b = (window_days whole).first.0 in
    let e = (window_days whole).last.0 in
    let o = parts-every Accepts window_days b e part parts ps in
    let cs = (course_behind rates rest).claims in
    let g = run-follows rates rest whole ok in
    let t =
    built-total window_days (λ w. study_of (window_days w) rates cs) rates cs (course-accepted rates rest) whole part parts
    (parts-map _ _ window_days (λ w k. sound-days rates w k) b e part parts ps) refl (every_map _ _ (λ w k. refl) part parts o) in
    record {
      same_end = every_map _ _ (λ w k. same_end rates rest w whole k ok) part parts o;
      sums = same-totals _ _ _ _ part parts (every_map _ _ (λ w k. sym (run-follows rates rest w k).sums-so) part parts o) (sym g.sums-so) t;
      whole_study = kept-study rates rest whole ok;
      part_studies = every_map _ _ (λ w k. kept-study rates rest w k) part parts o;
    }
