-- Document 02, No. 1: a run with corrections is the plain run of the struck file, save that a refusal's place is the one in the original file.
-- Assumes nothing.
use Prim.Native.Nat.{ℕ, ◌+◌, ◌/◌, ◌%◌, ◌≤◌}
use mathlib.Core.Path.{◌≡◌, sym, ap, subst, subst₂, ◌∙◌}
use mathlib.Core.Bool.{true}
use mathlib.Core.List.{List}
use mathlib.Core.Logic.{inl, inr}
use native.Mathlib.Omega.{arith}
use lib.ListN.{length, take, drop}
use lib.Seq.{take_at}
use lib.Dec.{eqb}
use borrow.Author.Tests.{eqb-true, eq-eqb, ne_eqb, le-leb}
use Rattle.basics.proofs.Tests.{tests, by}
use Rattle.study.specs.Answers.{Answer}
use Rattle.study.specs.Study.{opened}
use Rattle.claim_file.specs.Runs.{CorrectedRun}
use Rattle.claim_file.specs.Bytes.{date_from}
use Rattle.claim_file.specs.Run.{Adding, file_run_with}
use Rattle.claim_file.specs.RoundTrip.{AreBytes}
use Rattle.claim_file.specs.Corrections.{PlacedClaim, records_of_blocks, file_records, claims_of, blocks_of, sound_blocks, sound_all, last_ones, records_added, corrected_run_with, struck_blocks, struck_file}
use Rattle.claim_file.specs.StruckRuns.{SameStop, StruckRuns}
use Rattle.claim_file.proofs.Runs.{sound}
use Rattle.claim_file.proofs.BlockZero.{first-date, records-behind, all-behind, SoundFile, sound-file, file-records}
use Rattle.claim_file.proofs.RunRecords.{outcome, as_run, window_answer, window_refused, run-added, run-refused, stops_same}
use Rattle.claim_file.proofs.StruckBlocks.{Laid, Rewritten, drop-small, records-laid, last-laid, rewritten}

-- The struck file
module _ (bytes : List ℕ) (small : AreBytes bytes) (f : SoundFile bytes) where
  abbrev count : ℕ
  count = length (drop 512 bytes) / 512

  abbrev kept : List PlacedClaim
  kept = last_ones (file_records bytes)

  kept-laid : Laid 1 count kept
  kept-laid =
      subst (λ (rs : List PlacedClaim). Laid 1 count (last_ones rs)) (sym (file-records bytes f))
      (last-laid count 1 _ (records-laid count 1 (drop 512 bytes) (drop-small bytes small) f.blocks-so))

  kept_back : Rewritten 1 count kept
  kept_back = rewritten count 1 kept (omega arith) kept-laid

  blocks-struck : length (struck_blocks kept 1 count) / 512 ≡ count
  blocks-struck = let l = kept_back.size in omega arith

  struck-sound : sound_all (struck_file bytes) ≡ true
  unfolding struck_file
  struck-sound =
      let l = kept_back.size in
      let struck = struck_blocks kept 1 count in
      let w : length struck % 512 ≡ 0 = omega arith in
      all-behind (take 512 bytes) struck f.window_so
      ∙ rw (blocks-struck, eq-eqb (sound_blocks 1 struck count) count kept_back.all_so, eq-eqb (length struck % 512) 0 w)

  struck-records : file_records (struck_file bytes) ≡ records_of_blocks (struck_blocks kept 1 count) 1 count
  unfolding struck_file
  struck-records =
      records-behind (take 512 bytes) (struck_blocks kept 1 count) f.window_so ∙ ap (records_of_blocks (struck_blocks kept 1 count) 1) blocks-struck

same-block-0 : (bytes : List ℕ) → SoundFile bytes → take 512 (struck_file bytes) ≡ take 512 bytes
unfolding struck_file
same-block-0 bytes f = take_at (take 512 bytes) _ 512 (sound 0 (take 512 bytes) f.window_so).length-so

-- Both runs
same_answer : (bytes other : List ℕ) → take 512 other ≡ take 512 bytes → window_answer other ≡ window_answer bytes
same_answer bytes other e =
    let d : (i : ℕ) → i + 3 ≤ 511 → date_from other i ≡ date_from bytes i =
    λ i l. sym (first-date other i (omega arith)) ∙ ap (λ (first : List ℕ). date_from first i) e ∙ first-date bytes i (omega arith) in
    λ i. opened (d 16 (omega arith) i) (d 20 (omega arith) i)

module _ (add : Adding) (bytes : List ℕ) (s : sound_all bytes ≡ true) where
  pub corrected-added : (window_answer bytes).refused ≡ 0 → length (file_records bytes) ≤ 60000
      → corrected_run_with add bytes ≡ records_added add (window_answer bytes).study (last_ones (file_records bytes))
  unfolding corrected_run_with
  corrected-added h few = rw (s, eq-eqb (window_answer bytes).refused 0 h, le-leb (length (file_records bytes)) 60000 few)

  pub corrected-refused : ((window_answer bytes).refused ≡ 0 → ⊥)
      → corrected_run_with add bytes ≡ window_refused (window_answer bytes)
  unfolding corrected_run_with
  corrected-refused h = rw (s, ne_eqb (window_answer bytes).refused 0 h)

  same-run : (other : List ℕ) → length (file_records bytes) ≤ 60000 → SoundFile other → take 512 other ≡ take 512 bytes
      → claims_of (file_records other) ≡ claims_of (last_ones (file_records bytes)) → (window_answer bytes).refused ≡ 0
      → SameStop (file_run_with add other) (file_records other) (corrected_run_with add bytes) (last_ones (file_records bytes))
  same-run other few f e c h =
      let a = same_answer bytes other e in
      let o : outcome (file_run_with add other) ≡ records_added add (window_answer bytes).study (file_records other) =
      run-added add other f (ap (λ (x : Answer). x.refused) a ∙ h) ∙ ap (λ (x : Answer). records_added add x.study (file_records other)) a in
      let t = stops_same add (file_records other) (last_ones (file_records bytes)) (window_answer bytes).study c in
      let u =
      subst₂ (λ (x y : CorrectedRun). SameStop (as_run x) (file_records other) y (last_ones (file_records bytes))) (sym o) (sym (corrected-added h few)) t in
      record { study = u.study; number = u.number; stop = u.stop }

  window-stop : (other : List ℕ) → SoundFile other → take 512 other ≡ take 512 bytes → ((window_answer bytes).refused ≡ 0 → ⊥)
      → SameStop (file_run_with add other) (file_records other) (corrected_run_with add bytes) (last_ones (file_records bytes))
  window-stop other f e h =
      let a = same_answer bytes other e in
      let p = run-refused add other f (λ z. h (sym (ap (λ (x : Answer). x.refused) a) ∙ z)) ∙ ap window_refused a in
      let q = corrected-refused h in
      let w = p ∙ sym q in
      record {
        study = ap (λ (x : CorrectedRun). x.study) w;
        number = ap (λ (x : CorrectedRun). x.refused) w;
        stop = inr (inl (
          λ z. h (sym (ap (λ (x : CorrectedRun). x.refused) p) ∙ z),
          ap (λ (x : CorrectedRun). x.block) p,
          ap (λ (x : CorrectedRun). x.place) p,
          ap (λ (x : CorrectedRun). x.block) q,
          ap (λ (x : CorrectedRun). x.place) q,
        ));
      }

  same_stop : (other : List ℕ) → length (file_records bytes) ≤ 60000 → SoundFile other → take 512 other ≡ take 512 bytes
      → claims_of (file_records other) ≡ claims_of (last_ones (file_records bytes))
      → SameStop (file_run_with add other) (file_records other) (corrected_run_with add bytes) (last_ones (file_records bytes))
  same_stop other few f e c =
      by (eqb (window_answer bytes).refused 0)
      (λ _. SameStop (file_run_with add other) (file_records other) (corrected_run_with add bytes) (last_ones (file_records bytes)))
      (λ q. same-run other few f e c (eqb-true (window_answer bytes).refused 0 q)) (λ q. window-stop other f e (λ z. absurd (omega tests)))

struck-claims : (bytes : List ℕ) → AreBytes bytes → SoundFile bytes → claims_of (file_records (struck_file bytes)) ≡ claims_of (last_ones (file_records bytes))
struck-claims bytes small f = ap claims_of (struck-records bytes small f) ∙ (kept_back bytes small f).claims_so

pub struck-runs : StruckRuns
struck-runs =
    record {
      sound = λ bytes small s. struck-sound bytes small (sound-file bytes s);
      block_0 = λ bytes s. same-block-0 bytes (sound-file bytes s);
      claims = λ bytes small s. struck-claims bytes small (sound-file bytes s);
      blocks = λ bytes small s. let f = sound-file bytes s in ap blocks_of (struck-records bytes small f) ∙ (kept_back bytes small f).blocks-so;
      same = λ add bytes other s few t e c. same_stop add bytes s other few (sound-file other t) e c;
      struck = λ add bytes small s few.
          let f = sound-file bytes s in
          same_stop add bytes s (struck_file bytes) few (sound-file (struck_file bytes) (struck-sound bytes small f)) (same-block-0 bytes f)
          (struck-claims bytes small f);
    }
