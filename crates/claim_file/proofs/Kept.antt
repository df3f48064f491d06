-- What every opened study has and adding keeps, the study of every run has, refused or not. Assumes nothing.
use Prim.Native.Nat.{ℕ, zero, suc, ◌/◌, ◌%◌}
use mathlib.Core.Path.{◌≡◌, refl, subst}
use mathlib.Core.Bool.{true, ◌&&◌, false≢true}
use mathlib.Core.List.{List, [], ◌∷◌}
use lib.ListN.{length, take, drop}
use lib.Dec.{ltb, leb, eqb}
use Rattle.basics.specs.Limits.{most_records}
use Rattle.basics.specs.Pick.{pick}
use Rattle.basics.specs.Checks.{refuse_block, refuse_too_many_records}
use Rattle.basics.proofs.Tests.{by}
use Rattle.calendar.specs.declared.Date.{Date}
use Rattle.calendar.specs.Calendar.{is_date}
use Rattle.claim_months.specs.declared.Claim.{Claim}
use Rattle.claim_months.specs.Windows.{dates_window}
use Rattle.claim_months.proofs.DateWindows.{windowed}
use Rattle.study.specs.declared.Study.{Study}
use Rattle.study.specs.Study.{fresh, first_day_alone, opened_with, opened}
use Rattle.claim_file.specs.Runs.{FileRun, CorrectedRun}
use Rattle.claim_file.specs.Bytes.{date_from}
use Rattle.claim_file.specs.Block.{block_claim, claim_count, block_sound}
use Rattle.claim_file.specs.Run.{Adding, started, going_on, stops, claims_from, begun, block_fed, blocks_fed, part_fed, fed, ended, file_run_with}
use Rattle.claim_file.specs.Corrections.{PlacedClaim, file_records, sound_blocks, sound_all, last_ones, records_added, corrected_run_with}
use Rattle.std.specs.Prelude.{Result}

-- a refused opening gives the study that a run starts with
no-date : Date
no-date = record { year = 0; month = 0; day = 0 }

no-window : dates_window no-date no-date ≡ true → ⊥
unfolding dates_window is_date no-date
no-window q = false≢true q

refused-study : (opened no-date no-date).study ≡ fresh first_day_alone
unfolding opened opened_with no-date
refused-study =
    windowed no-date no-date (λ (m : Result _ ℕ). (opened_with m).study ≡ fresh first_day_alone) (λ q. absurd (no-window q)) (λ _. refl)

module _ (P : Study → Type 0) (add : Adding) (opens : (b e : Date) → P (opened b e).study) (keeps : (s : Study) (c : Claim) → P s → P (add s c).study) where
  started-kept : P (fresh first_day_alone)
  started-kept = subst P refused-study (opens no-date no-date)

  claims-kept : (r : FileRun) (s : Study) (bytes : List ℕ) (k n : ℕ) → P s → P (claims_from r s add bytes k n).study
  unfolding claims_from going_on stops
  claims-kept r s bytes k zero p = p
  claims-kept r s bytes k (suc n) p =
      let a = add s (block_claim bytes k) in
      let q = keeps s (block_claim bytes k) p in
      by (eqb a.refused 0) (λ t. P (pick t (claims_from r a.study add bytes (suc k) n) (stops r a.study a.refused (suc k))).study)
      (λ _. claims-kept r a.study bytes (suc k) n q) (λ _. q)

  begun-kept : (s : Study) (due : ℕ) (bytes : List ℕ) → P s → P (begun s due bytes).study
  unfolding begun
  begun-kept s due bytes p =
      let o = opened (date_from bytes 16) (date_from bytes 20) in
      by (block_sound due bytes)
      (λ t. P (pick t (pick (eqb due 0) o (record { refused = 0; study = s })) (record { refused = refuse_block; study = s })).study)
      (λ _. by (eqb due 0) (λ t. P (pick t o (record { refused = 0; study = s })).study) (λ _. opens _ _) (λ _. p)) (λ _. p)

  block-kept : (r : FileRun) (bytes : List ℕ) → P r.study → P (block_fed r add bytes).study
  unfolding block_fed stops
  block-kept r bytes p =
      let a = begun r.study r.due bytes in
      let q = begun-kept r.study r.due bytes p in
      by (eqb a.refused 0) (λ t. P (pick t (claims_from r a.study add bytes 0 (claim_count bytes)) (stops r a.study a.refused 0)).study)
      (λ _. claims-kept r a.study bytes 0 (claim_count bytes) q) (λ _. q)

  blocks-kept : (r : FileRun) (bytes : List ℕ) (n : ℕ) → P r.study → P (blocks_fed r add bytes n).study
  unfolding blocks_fed
  blocks-kept r bytes zero p = p
  blocks-kept r bytes (suc n) p =
      by (eqb r.refused 0) (λ t. P (pick t (blocks_fed (block_fed r add (take 512 bytes)) add (drop 512 bytes) n) r).study)
      (λ _. blocks-kept (block_fed r add (take 512 bytes)) (drop 512 bytes) n (block-kept r (take 512 bytes) p)) (λ _. p)

  part-kept : (r : FileRun) (left : ℕ) → P r.study → P (part_fed r left).study
  unfolding part_fed stops
  part-kept r left p = by (eqb r.refused 0 && ltb 0 left) (λ t. P (pick t (stops r r.study refuse_block 0) r).study) (λ _. p) (λ _. p)

  pub fed-kept : (r : FileRun) (bytes : List ℕ) → P r.study → P (fed r add bytes).study
  unfolding fed
  fed-kept r bytes p = part-kept _ (length bytes % 512) (blocks-kept r bytes (length bytes / 512) p)

  ended-kept : (r : FileRun) → P r.study → P (ended r).study
  unfolding ended stops
  ended-kept r p = by (eqb r.refused 0 && eqb r.due 0) (λ t. P (pick t (stops r r.study refuse_block 0) r).study) (λ _. p) (λ _. p)

  pub run-kept : (bytes : List ℕ) → P (file_run_with add bytes).study
  unfolding file_run_with started
  run-kept bytes = ended-kept (fed started add bytes) (fed-kept started bytes started-kept)

  records-kept : (s : Study) (rs : List PlacedClaim) → P s → P (records_added add s rs).study
  unfolding records_added
  records-kept s [] p = p
  records-kept s (r ∷ rs) p =
      let a = add s r.claim in
      let q = keeps s r.claim p in
      by (eqb a.refused 0)
      (λ t. P (pick t (records_added add a.study rs) (record { study = a.study; refused = a.refused; block = r.block; place = r.place })).study)
      (λ _. records-kept a.study rs q) (λ _. q)

  pub corrected-kept : (bytes : List ℕ) → P (corrected_run_with add bytes).study
  unfolding corrected_run_with
  corrected-kept bytes =
      let o = opened (date_from bytes 16) (date_from bytes 20) in
      let q = opens (date_from bytes 16) (date_from bytes 20) in
      let run : CorrectedRun = records_added add o.study (last_ones (file_records bytes)) in
      let many : CorrectedRun = record { study = o.study; refused = refuse_too_many_records; block = 0; place = 0 } in
      let window : CorrectedRun = record { study = o.study; refused = o.refused; block = 0; place = 0 } in
      let fault : CorrectedRun = record { study = fresh first_day_alone; refused = refuse_block; block = sound_blocks 0 bytes (length bytes / 512); place = 0 } in
      let few = leb (length (file_records bytes)) most_records in
      by (sound_all bytes) (λ t. P (pick t (pick (eqb o.refused 0) (pick few run many) window) fault).study)
      (λ _.
      by (eqb o.refused 0) (λ t. P (pick t (pick few run many) window).study)
      (λ _. by few (λ t. P (pick t run many).study) (λ _. records-kept o.study (last_ones (file_records bytes)) q) (λ _. q)) (λ _. q))
      (λ _. started-kept)
