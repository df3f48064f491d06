-- The run of a file with all blocks sound adds the file's records one after the other, and of two sequences of records with the same claims both
-- additions stop at the same record.
-- Assumes nothing.
use Prim.Native.Nat.{ℕ, zero, suc, ◌/◌, ◌%◌}
use mathlib.Core.Path.{◌≡◌, refl, sym, ap, subst, ◌∙◌}
use mathlib.Core.Bool.{Bool, true, false, and-false}
use mathlib.Core.List.{List, [], ◌∷◌, ◌++◌}
use mathlib.Core.Logic.{inl, inr, ⊎_elim}
use native.Mathlib.Omega.{arith}
use native.Mathlib.Numerals.{add-one}
use lib.ListN.{length, take, drop, get_or, length-take}
use lib.Dec.{eqb}
use borrow.Author.Tests.{eq-eqb, ne_eqb, eqb-false}
use Rattle.basics.specs.Pick.{pick}
use Rattle.basics.proofs.Tests.{tests, by}
use Rattle.claim_months.specs.declared.Claim.{Claim}
use Rattle.study.specs.declared.Study.{Study}
use Rattle.study.specs.Answers.{Answer}
use Rattle.study.specs.Study.{opened}
use Rattle.claim_file.specs.Runs.{FileRun}
use Rattle.claim_file.specs.Runs.{CorrectedRun}
use Rattle.claim_file.specs.Bytes.{date_from}
use Rattle.claim_file.specs.Block.{block_claim, claim_count, block_sound}
use Rattle.claim_file.specs.BlockAnswers.{no_claim}
use Rattle.claim_file.specs.Run.{Adding, started, begun, going_on, stops, claims_from, block_fed, blocks_fed, part_fed, fed, ended, file_run_with}
use Rattle.claim_file.specs.Corrections.{PlacedClaim, records_of_block, records_of_blocks, file_records, claims_of, blocks_of, places_of, sound_blocks, records_added}
use Rattle.claim_file.specs.StruckRuns.{SameStop}
use Rattle.claim_file.proofs.Runs.{sound, blocks-refused, fed-block, stops-refused}
use Rattle.claim_file.proofs.BlockZero.{first-date, sound-first, SoundFile, file-records}

-- a run's study and where it was refused
abbrev pub outcome : FileRun → CorrectedRun
outcome r = record { study = r.study; refused = r.refused; block = r.block; place = r.place }

-- what opening a file's window answers
abbrev pub window_answer : List ℕ → Answer
window_answer bytes = opened (date_from bytes 16) (date_from bytes 20)

-- where that refuses it, a run ends at block 0
abbrev pub window_refused : Answer → CorrectedRun
window_refused a = record { study = a.study; refused = a.refused; block = 0; place = 0 }

-- a run that goes on with a study at the block due
abbrev onward : Study → ℕ → FileRun
onward s due = record { study = s; due = due; refused = 0; block = 0; place = 0 }

-- a refused run, and one past block 0, is ended as it is
ended-refused : (r : FileRun) → (r.refused ≡ 0 → ⊥) → ended r ≡ r
unfolding ended
ended-refused r h = rw (ne_eqb r.refused 0 h)

ended-onward : (s : Study) (d : ℕ) → ended (onward s (suc d)) ≡ onward s (suc d)
unfolding ended
ended-onward s d = rw (ne_eqb (suc d) 0 (λ (q : suc d ≡ 0). omega arith))

module _ (add : Adding) where
  -- a refusal of one block's claims stands, whatever blocks come behind it
  stopped : (d : ℕ) (s : Study) (a : Answer) (place : ℕ) (rest : List ℕ) (m : ℕ) → eqb a.refused 0 ≡ false
      → outcome (ended (blocks_fed (stops (onward s d) a.study a.refused place) add rest m))
      ≡ record { study = a.study; refused = a.refused; block = d; place = place }
  unfolding stops
  stopped d s a place rest m e =
      let h = stops-refused (onward s d) a.study a.refused place (eqb-false a.refused 0 e) in
      ap (λ (r : FileRun). outcome (ended r)) (blocks-refused (stops (onward s d) a.study a.refused place) add rest h m)
      ∙ ap outcome (ended-refused (stops (onward s d) a.study a.refused place) h)

  -- the blocks behind one of number d, fed to any study
  abbrev AddsBehind : ℕ → List ℕ → ℕ → Type 0
  AddsBehind d rest m =
      (s : Study) → outcome (ended (blocks_fed (onward s (suc d)) add rest m)) ≡ records_added add s (records_of_blocks rest (suc d) m)

  claims-added : (d : ℕ) (bytes rest : List ℕ) (m : ℕ) → AddsBehind d rest m → (s₀ : Study) (n k : ℕ) (s : Study)
      → outcome (ended (blocks_fed (claims_from (onward s₀ d) s add bytes k n) add rest m))
      ≡ records_added add s (records_of_block bytes d k n ++ records_of_blocks rest (suc d) m)
  unfolding claims_from going_on records_of_block records_added
  claims-added d bytes rest m behind s₀ zero k s =
      ap (λ (e : ℕ). outcome (ended (blocks_fed (onward s e) add rest m))) (add-one d) ∙ behind s
  claims-added d bytes rest m behind s₀ (suc n) k s =
      let a = add s (block_claim bytes k) in
      let r = onward s₀ d in
      by (eqb a.refused 0)
      (λ t.
      outcome (ended (blocks_fed (pick t (claims_from r a.study add bytes (suc k) n) (stops r a.study a.refused (suc k))) add rest m))
      ≡ pick t (records_added add a.study (records_of_block bytes d (suc k) n ++ records_of_blocks rest (suc d) m))
      (record { study = a.study; refused = a.refused; block = d; place = suc k }))
      (λ e. claims-added d bytes rest m behind s₀ n (suc k) a.study) (λ e. stopped d s₀ a (suc k) rest m e)

  block-begun : (d : ℕ) (s : Study) (bytes : List ℕ) → block_sound (suc d) bytes ≡ true
      → block_fed (onward s (suc d)) add bytes ≡ claims_from (onward s (suc d)) s add bytes 0 (claim_count bytes)
  unfolding block_fed begun
  block-begun d s bytes h = rw (h, ne_eqb (suc d) 0 (λ (q : suc d ≡ 0). omega arith))

  blocks-added : (n d : ℕ) (bytes : List ℕ) → sound_blocks (suc d) bytes n ≡ n → AddsBehind d bytes n
  unfolding blocks_fed records_of_blocks records_added
  blocks-added zero d bytes h = λ s. ap outcome (ended-onward s d)
  blocks-added (suc n) d bytes h = λ s.
      let b = sound-first (suc d) bytes n h in
      let first = take 512 bytes in
      let rest = drop 512 bytes in
      ap (λ (r : FileRun). outcome (ended (blocks_fed r add rest n))) (block-begun d s first b.0)
      ∙ claims-added (suc d) first rest n (blocks-added n (suc d) rest b.1) s (claim_count first) 0 s

  -- the whole file: block 0, as opening its window comes out, and the blocks behind it
  abbrev opening : Answer → Bool → FileRun
  opening a t = pick t (onward a.study 1) (stops started a.study a.refused 0)

  first_block : (bytes : List ℕ) → SoundFile bytes
      → block_fed started add (take 512 bytes) ≡ opening (window_answer bytes) (eqb (window_answer bytes).refused 0)
  unfolding block_fed begun started claims_from going_on
  first_block bytes f =
      rw (
        f.window_so,
        (sound 0 (take 512 bytes) f.window_so).none_so refl,
        first-date bytes 16 (omega arith),
        first-date bytes 20 (omega arith),
      )

  no_part : (r : FileRun) (left : ℕ) → left ≡ 0 → part_fed r left ≡ r
  unfolding part_fed
  no_part r left e = rw (e, and-false (eqb r.refused 0))

  by-block : (bytes : List ℕ) (r : FileRun) → SoundFile bytes → block_fed started add (take 512 bytes) ≡ r
      → file_run_with add bytes ≡ ended (blocks_fed r add (drop 512 bytes) (length (drop 512 bytes) / 512))
  unfolding file_run_with fed started
  by-block bytes r f e =
      let l = length-take 512 bytes in
      let n = (sound 0 (take 512 bytes) f.window_so).length-so in
      ap ended
      (fed-block started add bytes refl (omega arith)
      ∙ ap (λ (x : FileRun). fed x add (drop 512 bytes)) e
      ∙ no_part (blocks_fed r add (drop 512 bytes) (length (drop 512 bytes) / 512)) (length (drop 512 bytes) % 512) f.whole-so)

  pub run-added : (bytes : List ℕ) → SoundFile bytes → (window_answer bytes).refused ≡ 0
      → outcome (file_run_with add bytes) ≡ records_added add (window_answer bytes).study (file_records bytes)
  run-added bytes f h =
      let e = first_block bytes f ∙ ap (opening (window_answer bytes)) (eq-eqb (window_answer bytes).refused 0 h) in
      ap outcome (by-block bytes (onward (window_answer bytes).study 1) f e)
      ∙ blocks-added (length (drop 512 bytes) / 512) 0 (drop 512 bytes) f.blocks-so (window_answer bytes).study
      ∙ ap (records_added add (window_answer bytes).study) (sym (file-records bytes f))

  pub run-refused : (bytes : List ℕ) → SoundFile bytes → ((window_answer bytes).refused ≡ 0 → ⊥)
      → outcome (file_run_with add bytes) ≡ window_refused (window_answer bytes)
  unfolding started
  run-refused bytes f h =
      let t = ne_eqb (window_answer bytes).refused 0 h in
      let e = first_block bytes f ∙ ap (opening (window_answer bytes)) t in
      ap outcome (by-block bytes (stops started (window_answer bytes).study (window_answer bytes).refused 0) f e)
      ∙ stopped 0 started.study (window_answer bytes) 0 (drop 512 bytes) (length (drop 512 bytes) / 512) t

-- a file run with an outcome
abbrev pub as_run : CorrectedRun → FileRun
as_run c = record { study = c.study; due = 0; refused = c.refused; block = c.block; place = c.place }

-- the answer to a record, as its test comes out, and the records behind it
abbrev on_or_stop : Adding → PlacedClaim → List PlacedClaim → Answer → Bool → CorrectedRun
on_or_stop add r rs a t =
    pick t (records_added add a.study rs) (record { study = a.study; refused = a.refused; block = r.block; place = r.place })

-- one answer to two records of one claim
module _ (add : Adding) (a : Answer) (x y : PlacedClaim) (xs ys : List PlacedClaim) (same : x.claim ≡ y.claim) where
  one_more : (c d : CorrectedRun) → SameStop (as_run c) xs d ys → SameStop (as_run c) (x ∷ xs) d (y ∷ ys)
  unfolding claims_of blocks_of places_of
  one_more c d h =
      record {
        study = h.study;
        number = h.number;
        stop = ⊎_elim (λ z. inl z)
            (λ z.
            inr (⊎_elim (λ u. inl u)
            (λ u. inr (u.0, suc u.1, omega (arith, u.2), omega (arith, u.3), u.4, u.5, u.6, u.7, u.8)) z))
            h.stop;
      }

  step_same : SameStop (as_run (records_added add a.study xs)) xs (records_added add a.study ys) ys
      → (t : Bool) → eqb a.refused 0 ≡ t → SameStop (as_run (on_or_stop add x xs a t)) (x ∷ xs) (on_or_stop add y ys a t) (y ∷ ys)
  unfolding claims_of blocks_of places_of
  step_same h true q = one_more (records_added add a.study xs) (records_added add a.study ys) h
  step_same h false q =
      record {
        study = refl;
        number = refl;
        stop = inr (inr (λ z. absurd (omega tests), 0, omega arith, omega arith, refl, refl, refl, refl, same));
      }

pub stops_same : (add : Adding) (xs ys : List PlacedClaim) (s : Study) → claims_of xs ≡ claims_of ys
    → SameStop (as_run (records_added add s xs)) xs (records_added add s ys) ys
unfolding records_added claims_of
stops_same add [] [] s e = record { study = refl; number = refl; stop = inl (refl, refl, refl, refl, refl) }
stops_same add [] (y ∷ ys) s e = absurd (omega (arith, ap length e))
stops_same add (x ∷ xs) [] s e = absurd (omega (arith, ap length e))
stops_same add (x ∷ xs) (y ∷ ys) s e =
    let p : x.claim ≡ y.claim = ap (λ (cs : List Claim). get_or cs 0 no_claim) e in
    let q : claims_of xs ≡ claims_of ys = ap (λ (cs : List Claim). drop 1 cs) e in
    let a = add s x.claim in
    subst (λ (b : Answer). SameStop (as_run (on_or_stop add x xs a (eqb a.refused 0))) (x ∷ xs) (on_or_stop add y ys b (eqb b.refused 0)) (y ∷ ys))
    (ap (add s) p)
    (step_same add a x y xs ys p (stops_same add xs ys a.study q) (eqb a.refused 0) refl)
