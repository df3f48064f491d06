-- Files of an older layout read and run as they did, whatever the layout, if where the bytes past its fields were zero today's are, and today's
-- claim is its claim. Both older layouts are so: the bytes that No. 4 and No. 7 took were zero.
-- Assumes nothing.
use Prim.Native.Nat.{ℕ, zero, suc, ◌+◌, ◌*◌, ◌/◌, ◌%◌, ◌≤◌, ◌<◌}
use mathlib.Core.Path.{◌≡◌, refl, sym, ap, ◌∙◌}
use mathlib.Core.Bool.{Bool, true, false, not, ◌&&◌, and-eq-true_iff}
use mathlib.Core.List.{List}
use mathlib.Core.Logic.{⊎_elim}
use native.Mathlib.Omega.{arith}
use native.Mathlib.Nat.{le_of_suc-le-suc, not-suc-le-zero, eq-or-lt_of_le}
use lib.ListN.{length, get_or, set, take, drop}
use lib.Dec.{eqb}
use borrow.Author.Tests.{eqb-true, eqb-false, le-leb}
use Rattle.basics.specs.Pick.{pick}
use Rattle.basics.specs.Checks.{◌then◌, refuse_block}
use Rattle.basics.proofs.Tests.{tests, by, and_left, and_right}
use Rattle.claim_months.specs.declared.Claim.{Claim}
use Rattle.claim_months.specs.Claim.{benefit_sound, weight, claim_check}
use Rattle.rates.specs.Rates.{cells, length_sound, rate_check}
use Rattle.study.specs.declared.Study.{Study}
use Rattle.study.specs.Answers.{Answer}
use Rattle.claim_file.specs.Runs.{FileRun}
use Rattle.claim_file.specs.Bytes.{byte_at, two_at, zero_from}
use Rattle.claim_file.specs.Record.{claim_from, record_padded}
use Rattle.claim_file.specs.Block.{claim_count, block_claim, claims_padded, window_block, claim_block, block_sound}
use Rattle.claim_file.specs.Run.{Adding, started, begun, going_on, stops, claims_from, block_fed, blocks_fed, part_fed, fed, ended, file_run_with}
use Rattle.claim_file.specs.OlderFiles.{Layout, with_cell, layout_before_four, layout_before_seven, older_claim, older_padded, older_claim_block, older_sound, older_claims_from, older_begun, older_block_fed, older_blocks_fed, older_run, older_blocks, older_rate_check, older_claim_check, RunsAsBefore, OlderFiles}
use Rattle.claim_file.specs.RoundTrip.{AreBytes}
use Rattle.claim_file.proofs.RecordParts.{same-claim}
use Rattle.claim_file.proofs.BlockTrips.{changed-refused}
use Rattle.claim_file.proofs.BlockTests.{claims-are, window-block}

-- a record that was padded is padded and reads to the same claim
record ReadsAsBefore (l : Layout) : Type 0 where
  padded-too : (bytes : List ℕ) (i : ℕ) → l.padded_at bytes i ≡ true → record_padded bytes i ≡ true
  read_alike : (bytes : List ℕ) (i : ℕ) → l.padded_at bytes i ≡ true → claim_from bytes i ≡ l.claim_at bytes i

module _ (l : Layout) (o : ReadsAsBefore l) where
  -- the record at place k was padded
  abbrev Padded : List ℕ → ℕ → Type 0
  Padded bytes k = l.padded_at bytes (16 + 32 * k) ≡ true

  same_read : (bytes : List ℕ) (k : ℕ) → Padded bytes k → block_claim bytes k ≡ older_claim l bytes k
  unfolding block_claim older_claim
  same_read bytes k z = o.read_alike bytes (16 + 32 * k) z

  padded-at : (bytes : List ℕ) (n : ℕ) → older_padded l bytes n ≡ true → (k : ℕ) → k < n → Padded bytes k
  unfolding older_padded
  padded-at bytes zero h k m = absurd (not-suc-le-zero m)
  padded-at bytes (suc n) h k m =
      ⊎_elim
      (λ (q : k ≡ n). ap (λ (j : ℕ). l.padded_at bytes (16 + 32 * j)) q ∙ and_right (older_padded l bytes n) (l.padded_at bytes (16 + 32 * n)) h)
      (λ (p : k < n). padded-at bytes n (and_left (older_padded l bytes n) (l.padded_at bytes (16 + 32 * n)) h) k p)
      (eq-or-lt_of_le (le_of_suc-le-suc m))

  still-padded : (bytes : List ℕ) (n : ℕ) → ((k : ℕ) → k < n → Padded bytes k) → claims_padded bytes n ≡ true
  unfolding claims_padded
  still-padded bytes zero z = refl
  still-padded bytes (suc n) z =
      λ i. still-padded bytes n (λ k m. z k (omega arith)) i && o.padded-too bytes (16 + 32 * n) (z n (omega arith)) i

  -- a block that was sound
  module _ (due : ℕ) (bytes : List ℕ) where
    claims-padded : older_claim_block l due bytes ≡ true → (k : ℕ) → k < claim_count bytes → Padded bytes k
    unfolding older_claim_block
    claims-padded h = let t = simp and-eq-true_iff at h in padded-at bytes (claim_count bytes) t.0.1

    claims-sound : older_claim_block l due bytes ≡ true → claim_block due bytes ≡ true
    unfolding older_claim_block
    claims-sound h =
        let t = simp and-eq-true_iff at h in
        claims-are due bytes t.0.0.0 t.0.0.1 (still-padded bytes (claim_count bytes) (claims-padded h)) t.1

    all-padded : older_sound l due bytes ≡ true → (k : ℕ) → k < claim_count bytes → Padded bytes k
    unfolding older_sound
    all-padded =
        by (eqb due 0) (λ t. pick t (window_block bytes) (older_claim_block l due bytes) ≡ true → (k : ℕ) → k < claim_count bytes → Padded bytes k)
        (λ e h k m. absurd (omega (arith, (window-block bytes h).count_so)))
        (λ e. claims-padded)

    still-sound : older_sound l due bytes ≡ true → block_sound due bytes ≡ true
    unfolding older_sound block_sound
    still-sound =
        by (eqb due 0) (λ t. pick t (window_block bytes) (older_claim_block l due bytes) ≡ true → pick t (window_block bytes) (claim_block due bytes) ≡ true)
        (λ e h. h) (λ e. claims-sound)

  -- with one byte changed it is sound in neither layout
  changed-unsound : (due : ℕ) (bytes : List ℕ) (i v : ℕ) → AreBytes bytes → older_sound l due bytes ≡ true → i < 512 → v < 256 → (v ≡ get_or bytes i 0 → ⊥)
      → (older_sound l due (set bytes i v) ≡ false) × (block_sound due (set bytes i v) ≡ false)
  unfolding byte_at
  changed-unsound due bytes i v small h place new other =
      let now = changed-refused due bytes i v (still-sound due bytes h) place (small i) new other in
      (by (older_sound l due (set bytes i v)) (λ t. t ≡ false) (λ e. sym (still-sound due (set bytes i v) e) ∙ now) (λ e. refl), now)

  -- one block
  module _ (r : FileRun) (add : Adding) (bytes : List ℕ) where
    same-claims : (n k : ℕ) (s : Study) → ((j : ℕ) → j < k + n → Padded bytes j)
        → older_claims_from l r s add bytes k n ≡ claims_from r s add bytes k n
    unfolding older_claims_from claims_from
    same-claims zero k s z = refl
    same-claims (suc n) k s z =
        let a = add s (older_claim l bytes k) in
        let rest = same-claims n (suc k) a.study (λ j m. z j (omega arith)) in
        (λ i. pick (eqb a.refused 0) (rest i) (stops r a.study a.refused (suc k)))
        ∙ ap
        (λ (b : Answer). pick (eqb b.refused 0) (claims_from r b.study add bytes (suc k) n) (stops r b.study b.refused (suc k)))
        (ap (add s) (sym (same_read bytes k (z k (omega arith)))))

    same-begun : older_sound l r.due bytes ≡ true → older_begun l r.study r.due bytes ≡ begun r.study r.due bytes
    unfolding older_begun begun
    same-begun h = rw (h, still-sound r.due bytes h)

    same_block : older_sound l r.due bytes ≡ true → older_block_fed l r add bytes ≡ block_fed r add bytes
    unfolding older_block_fed block_fed
    same_block h =
        let a = older_begun l r.study r.due bytes in
        let c = same-claims (claim_count bytes) 0 a.study (λ j m. all-padded r.due bytes h j (omega arith)) in
        (λ i. pick (eqb a.refused 0) (c i) (stops r a.study a.refused 0))
        ∙ ap
        (λ (b : Answer). pick (eqb b.refused 0) (claims_from r b.study add bytes 0 (claim_count bytes)) (stops r b.study b.refused 0))
        (same-begun h)

    -- a damaged one
    damaged_block : older_sound l r.due bytes ≡ false → block_sound r.due bytes ≡ false → older_block_fed l r add bytes ≡ block_fed r add bytes
    unfolding older_block_fed older_begun block_fed begun
    damaged_block e f = rw (e, f) refl

-- a run that goes on after a block has the next one due
module _ (r : FileRun) (add : Adding) (bytes : List ℕ) where
  abbrev Next : FileRun → Type 0
  Next x = x.refused ≡ 0 → x.due ≡ r.due + 1

  stopped-next : (a : Answer) (place : ℕ) → eqb a.refused 0 ≡ false → Next (stops r a.study a.refused place)
  unfolding stops
  stopped-next a place e h = absurd (eqb-false a.refused 0 e h)

  claims-next : (n k : ℕ) (s : Study) → Next (claims_from r s add bytes k n)
  unfolding claims_from going_on
  claims-next zero k s = λ h. refl
  claims-next (suc n) k s =
      let a = add s (block_claim bytes k) in
      by (eqb a.refused 0) (λ t. Next (pick t (claims_from r a.study add bytes (suc k) n) (stops r a.study a.refused (suc k))))
      (λ e. claims-next n (suc k) a.study) (stopped-next a (suc k))

  block-next : Next (block_fed r add bytes)
  unfolding block_fed
  block-next =
      let a = begun r.study r.due bytes in
      by (eqb a.refused 0) (λ t. Next (pick t (claims_from r a.study add bytes 0 (claim_count bytes)) (stops r a.study a.refused 0)))
      (λ e. claims-next (claim_count bytes) 0 a.study) (stopped-next a 0)

  damaged-stops : block_sound r.due bytes ≡ false → (block_fed r add bytes).refused ≡ refuse_block
  unfolding block_fed begun stops
  damaged-stops f = rw f refl

damaged : (t : Bool) → not t ≡ true → t ≡ false
damaged true h = sym h
damaged false h = refl

-- all blocks
module _ (l : Layout) (o : ReadsAsBefore l) (add : Adding) where
  -- the first block of such a file runs as it did, and the rest is due as such a file where the run goes on
  same_step : (n : ℕ) (r : FileRun) (bytes : List ℕ) → older_blocks l r.due bytes (suc n) ≡ true
      → (older_block_fed l r add (take 512 bytes) ≡ block_fed r add (take 512 bytes))
      × ((block_fed r add (take 512 bytes)).refused ≡ 0 → older_blocks l (block_fed r add (take 512 bytes)).due (drop 512 bytes) n ≡ true)
  unfolding older_blocks
  same_step n r bytes h =
      let first = take 512 bytes in
      let rest = drop 512 bytes in
      let b = block_fed r add first in
      by (older_sound l r.due first) (λ _. (older_block_fed l r add first ≡ b) × (b.refused ≡ 0 → older_blocks l b.due rest n ≡ true))
      (λ e. (
        same_block l o r add first e,
        λ u. let d : b.due ≡ suc r.due = omega (arith, block-next r add first u) in ap (λ (m : ℕ). older_blocks l m rest n) d ∙ rw e at h,
      ))
      (λ e.
      let f : block_sound r.due first ≡ false = damaged (block_sound r.due first) (rw e at h) in
      (damaged_block l o r add first e f, λ u. absurd (omega (arith, damaged-stops r add first f))))

  same_blocks : (n : ℕ) (r : FileRun) (bytes : List ℕ) → (r.refused ≡ 0 → older_blocks l r.due bytes n ≡ true)
      → older_blocks_fed l r add bytes n ≡ blocks_fed r add bytes n
  unfolding older_blocks_fed blocks_fed
  same_blocks zero r bytes h = refl
  same_blocks (suc n) r bytes h =
      by (eqb r.refused 0)
      (λ t. pick t (older_blocks_fed l (older_block_fed l r add (take 512 bytes)) add (drop 512 bytes) n) r
      ≡ pick t (blocks_fed (block_fed r add (take 512 bytes)) add (drop 512 bytes) n) r)
      (λ e.
      let step = same_step n r bytes (h (eqb-true r.refused 0 e)) in
      ap (λ (x : FileRun). older_blocks_fed l x add (drop 512 bytes) n) step.0
      ∙ same_blocks n (block_fed r add (take 512 bytes)) (drop 512 bytes) step.1)
      (λ e. refl)

  same-run : (bytes : List ℕ) → older_blocks l 0 bytes (length bytes / 512) ≡ true → older_run l add bytes ≡ file_run_with add bytes
  unfolding older_run file_run_with fed started
  same-run bytes h =
      ap (λ (x : FileRun). ended (part_fed x (length bytes % 512))) (same_blocks (length bytes / 512) started bytes (λ u. h))

runs-as-before : (l : Layout) → ReadsAsBefore l → RunsAsBefore l
runs-as-before l o =
    record {
      sound = still-sound l o;
      claims = λ due bytes p h k m. same_read l o bytes k (all-padded l o due bytes h k m);
      damaged = λ due bytes i v small h place new other. changed-unsound l o due bytes i v small h (omega arith) new other;
      runs = same-run l o;
    }

-- of zeros from byte i + k on, the first and the rest
module _ (bytes : List ℕ) (i k n : ℕ) (z : zero_from bytes (i + k) (suc n) ≡ true) where
  first-zero : byte_at bytes (i + k) ≡ 0
  unfolding zero_from
  first-zero = eqb-true _ _ (and_left (eqb (byte_at bytes (i + k)) 0) (zero_from bytes (suc (i + k)) n) z)

  more-zeros : zero_from bytes (i + (k + 1)) n ≡ true
  unfolding zero_from
  more-zeros =
      let e : i + (k + 1) ≡ suc (i + k) = omega arith in
      ap (λ (j : ℕ). zero_from bytes j n) e ∙ and_right (eqb (byte_at bytes (i + k)) 0) (zero_from bytes (suc (i + k)) n) z

-- before No. 7 byte 24 was zero, and it is the benefit
reads-before-seven : ReadsAsBefore layout_before_seven
unfolding layout_before_seven with_cell record_padded claim_from
reads-before-seven =
    record {
      padded-too = λ bytes i z. more-zeros bytes i 24 7 z;
      read_alike = λ bytes i z. same-claim _ _ refl refl refl refl refl refl refl refl (first-zero bytes i 24 7 z);
    }

-- before No. 4 byte 23 was too, and it is the cell's high byte
low_byte : (bytes : List ℕ) (i : ℕ) → byte_at bytes (i + 23) ≡ 0 → two_at bytes (i + 22) ≡ byte_at bytes (i + 22)
unfolding two_at
low_byte bytes i h = let e : i + 22 + 1 ≡ i + 23 = omega arith in let b = ap (byte_at bytes) e ∙ h in omega arith

reads-before-four : ReadsAsBefore layout_before_four
unfolding layout_before_four with_cell record_padded claim_from
reads-before-four =
    record {
      padded-too = λ bytes i z. more-zeros bytes i 24 7 (more-zeros bytes i 23 8 z);
      read_alike =
          λ bytes i z.
          same-claim _ _ refl refl refl refl refl refl refl (low_byte bytes i (first-zero bytes i 23 8 z))
          (first-zero bytes i 24 7 (more-zeros bytes i 23 8 z));
    }

same-table-check : (rates : List ℕ) (cell : ℕ) → length rates / 958 ≤ 64 → older_rate_check rates cell ≡ rate_check rates cell
unfolding older_rate_check rate_check length_sound cells
same-table-check rates cell h = rw (le-leb (length rates / 958) 64 h, le-leb (length rates / 958) 1024 (omega arith))

-- check 16 passes a benefit up to 200, and 0 weighs 1
same-claim-check : (c : Claim) → c.benefit ≤ 200 → older_claim_check c ≡ claim_check c
unfolding older_claim_check claim_check benefit_sound ◌then◌
same-claim-check c h = rw (le-leb c.benefit 200 h) refl

weighs-one : (c : Claim) → c.benefit ≡ 0 → weight c ≡ 1
unfolding weight
weighs-one c h = rw h refl

pub older-files : OlderFiles
older-files =
    record {
      before_four = runs-as-before layout_before_four reads-before-four;
      before_seven = runs-as-before layout_before_seven reads-before-seven;
      tables = λ rates cell h. same-table-check rates cell (omega tests);
      checks = λ c h. same-claim-check c (omega arith);
      weights = λ c h. weighs-one c (omega arith);
    }
