-- A run with corrections step by step, as the code's loops go: the sound blocks counted one at a time, the records added one at a time but for the
-- struck ones, and what a run answers behind each check.
-- Assumes nothing.
use Prim.Native.Nat.{ℕ, zero, suc, ◌+◌, ◌-◌, ◌*◌, ◌/◌, ◌%◌, ◌≤◌, ◌<◌}
use mathlib.Core.Path.{◌≡◌, refl, sym, ap, subst, ◌∙◌}
use mathlib.Core.Bool.{Bool, true, false, ◌||◌, and-eq-true_iff}
use mathlib.Core.List.{List, [], ◌∷◌, ◌++◌}
use native.Mathlib.Omega.{arith}
use lib.ListN.{length, take, drop, length-drop}
use lib.Seq.{drop-drop}
use lib.Dec.{eqb}
use borrow.Author.Tests.{eq-eqb, ne_eqb, lt-ltb, lt-leb, eqb-true, eqb-false, ltb-true}
use Rattle.basics.specs.Pick.{pick}
use Rattle.basics.specs.Checks.{refuse_too_many_records}
use Rattle.basics.proofs.Tests.{by}
use Rattle.study.specs.declared.Study.{Study}
use Rattle.study.specs.Answers.{Answer}
use Rattle.claim_file.specs.Runs.{CorrectedRun}
use Rattle.claim_file.specs.Bytes.{byte_at}
use Rattle.claim_file.specs.Block.{block_claim, block_sound}
use Rattle.claim_file.specs.Run.{Adding}
use Rattle.claim_file.specs.Corrections.{PlacedClaim, records_of_block, records_of_blocks, file_records, sound_blocks, sound_all, has_number, last_ones, records_added, corrected_run_with}
use Rattle.claim_file.specs.design.Marks.{numbers_of, among, struck, marked, MarksStruck, unsound_at}
use Rattle.claim_file.proofs.Runs.{sound, sound-due}
use Rattle.claim_file.proofs.BlockZero.{sound-first, sound-file, file-records}
use Rattle.claim_file.proofs.RunRecords.{window_answer}
use Rattle.claim_file.proofs.Slots.{block_of, block-byte, records_from, from_block, numbers-length}

-- The sound blocks of a file of n blocks, from a block on
abbrev pub sound_from : List ℕ → ℕ → ℕ → ℕ
sound_from bytes n due = sound_blocks due (drop (512 * due) bytes) (n - due)

pub sound-from-0 : (bytes : List ℕ) (n : ℕ) → sound_blocks 0 bytes n ≡ sound_from bytes n 0
sound-from-0 bytes n = let e : n ≡ n - 0 = omega arith in ap (sound_blocks 0 bytes) e

module _ (bytes : List ℕ) (n due : ℕ) where
  next-block : due < n → sound_from bytes n due ≡ pick (block_sound due (block_of bytes due)) (suc (sound_from bytes n (due + 1))) 0
  unfolding sound_blocks
  next-block h =
      let e : n - due ≡ suc (n - (due + 1)) = omega arith in
      let f : suc due ≡ due + 1 = omega arith in
      let g : 512 * due + 512 ≡ 512 * (due + 1) = omega arith in
      let rest = drop-drop 512 (512 * due) bytes ∙ ap (λ (m : ℕ). drop m bytes) g in
      ap (sound_blocks due (drop (512 * due) bytes)) e
      ∙ (λ i. pick (block_sound due (block_of bytes due)) (suc (sound_blocks (f i) (rest i) (n - (due + 1)))) 0)

  pub sound-on : due < n → block_sound due (block_of bytes due) ≡ true → sound_from bytes n due ≡ suc (sound_from bytes n (due + 1))
  sound-on h s = next-block h ∙ rw s refl

  pub sound-off : due < n → block_sound due (block_of bytes due) ≡ false → sound_from bytes n due ≡ 0
  sound-off h s = next-block h ∙ rw s refl

  pub sound-out : n ≤ due → sound_from bytes n due ≡ 0
  unfolding sound_blocks
  sound-out h = let e : n - due ≡ 0 = omega arith in ap (sound_blocks due (drop (512 * due) bytes)) e

-- a block as the code cuts it out of a file
pub block-cut : (bytes : List ℕ) (b : ℕ) → take (512 * b + 512 - 512 * b) (drop (512 * b) bytes) ≡ block_of bytes b
block-cut bytes b = let e : 512 * b + 512 - 512 * b ≡ 512 = omega arith in ap (λ (n : ℕ). take n (drop (512 * b) bytes)) e

-- a sound block of a list of bytes has a number of two bytes
pub block-due : (bytes : List ℕ) (b : ℕ) → block_sound b (block_of bytes b) ≡ true → byte_at bytes (512 * b) < 256 → byte_at bytes (512 * b + 1) < 256 → b < 65536
block-due bytes b s x y =
    sound-due b (block_of bytes b) (sound b (block_of bytes b) s)
    (omega (arith, block-byte bytes b 0 (512 * b) (omega arith) (omega arith)))
    (omega (arith, block-byte bytes b 1 (512 * b + 1) (omega arith) refl))

pub ruleset sound_steps = (sound-from-0, sound-on, sound-off, sound-out, block-cut, block-due)

-- each block of a file of sound blocks is sound
sound-at : (due : ℕ) (bytes : List ℕ) (n : ℕ) → sound_blocks due bytes n ≡ n → (k : ℕ) → k < n → block_sound (due + k) (block_of bytes k) ≡ true
sound-at due bytes zero e k h = absurd (omega arith)
sound-at due bytes (suc n) e zero h =
    let d : due ≡ due + 0 = omega arith in subst (λ (m : ℕ). block_sound m (take 512 bytes) ≡ true) d (sound-first due bytes n e).0
sound-at due bytes (suc n) e (suc k) h =
    let d : suc due + k ≡ due + suc k = omega arith in
    let g : 512 + 512 * k ≡ 512 * suc k = omega arith in
    let rest = drop-drop (512 * k) 512 bytes ∙ ap (λ (m : ℕ). drop m bytes) g in
    sym (λ i. block_sound (d i) (take 512 (rest i))) ∙ sound-at (suc due) (drop 512 bytes) n (sound-first due bytes n e).1 k (omega arith)

pub record AllSound (bytes : List ℕ) : Type 0 where
  pub count_so : sound_blocks 0 bytes (length bytes / 512) ≡ length bytes / 512
  pub whole-so : length bytes % 512 ≡ 0
  pub some-so : 0 < length bytes

pub all_sound : (bytes : List ℕ) → sound_all bytes ≡ true → AllSound bytes
unfolding sound_all
all_sound bytes h =
    let t = simp and-eq-true_iff at h in
    record { count_so = eqb-true _ _ t.0.0; whole-so = eqb-true _ _ t.0.1; some-so = ltb-true _ _ t.1 }

pub sound-blocks-so : (bytes : List ℕ) → AllSound bytes → sound_all bytes ≡ true
unfolding sound_all
sound-blocks-so bytes f = rw (eq-eqb _ _ f.count_so, eq-eqb _ _ f.whole-so, lt-ltb _ _ f.some-so) refl

pub block-sound : (bytes : List ℕ) → sound_all bytes ≡ true → (b : ℕ) → b < length bytes / 512 → block_sound b (block_of bytes b) ≡ true
block-sound bytes s b h =
    let e : 0 + b ≡ b = omega arith in
    subst (λ (m : ℕ). block_sound m (block_of bytes b) ≡ true) e (sound-at 0 bytes (length bytes / 512) (all_sound bytes s).count_so b h)

-- Which records are struck: of those left, the first is where its number stands again behind it
later_number : List PlacedClaim → Bool
later_number [] = false
later_number (r ∷ rs) = has_number r.claim.number rs

among-numbers : (x : ℕ) (rs : List PlacedClaim) → among x (numbers_of rs) ≡ has_number x rs
unfolding among numbers_of has_number
among-numbers x [] = refl
among-numbers x (r ∷ rs) = ap (λ (t : Bool). eqb r.claim.number x || t) (among-numbers x rs)

later-numbers : (i : ℕ) (rs : List PlacedClaim) → struck (numbers_of rs) i ≡ later_number (drop i rs)
unfolding struck among numbers_of later_number
later-numbers zero [] = refl
later-numbers zero (r ∷ rs) = among-numbers r.claim.number rs
later-numbers (suc i) [] = refl
later-numbers (suc i) (r ∷ rs) = later-numbers i rs

module _ (all : List PlacedClaim) (i : ℕ) (x : PlacedClaim) (rest : List PlacedClaim) (e : drop i all ≡ x ∷ rest) where
  pub within_all : i < length all
  within_all = omega (arith, ap length e, length-drop i all)

  pub marked-later : (marks : List ℕ) → MarksStruck marks (numbers_of all) → marked marks i ≡ has_number x.claim.number rest
  unfolding later_number
  marked-later marks m = m i (omega (arith, numbers-length all, within_all)) ∙ later-numbers i all ∙ ap later_number e

-- Adding the first of the records left and then the others
abbrev or_none : Bool → PlacedClaim → List PlacedClaim
or_none t x = pick t [] (x ∷ [])

abbrev pub go : Study → CorrectedRun
go s = record { study = s; refused = 0; block = 0; place = 0 }

module _ (add : Adding) where
  last-first : (t : Bool) (x : PlacedClaim) (rest : List PlacedClaim) → t ≡ has_number x.claim.number rest
      → last_ones (x ∷ rest) ≡ or_none t x ++ last_ones rest
  unfolding last_ones
  last-first true x rest e = rw (sym e) refl
  last-first false x rest e = rw (sym e) refl

  first_then : (t : Bool) (x : PlacedClaim) (ys : List PlacedClaim) (s : Study)
      → let r = records_added add s (or_none t x) in
      records_added add s (or_none t x ++ ys) ≡ pick (eqb r.refused 0) (records_added add r.study ys) r
  unfolding records_added
  first_then true x ys s = refl
  first_then false x ys s =
      let a = add s x.claim in
      let stop : CorrectedRun = record { study = a.study; refused = a.refused; block = x.block; place = x.place } in
      by (eqb a.refused 0)
      (λ t.
      pick t (records_added add a.study ys) stop
      ≡ pick (eqb (pick t (go a.study) stop).refused 0) (records_added add (pick t (go a.study) stop).study ys) (pick t (go a.study) stop))
      (λ e. refl) (λ e. rw e refl)

  first_goes : (t : Bool) (x : PlacedClaim) (s : Study)
      → let r = records_added add s (or_none t x) in
      r.refused ≡ 0 → r ≡ go r.study
  unfolding records_added
  first_goes true x s = λ h. refl
  first_goes false x s =
      let a = add s x.claim in
      let stop : CorrectedRun = record { study = a.study; refused = a.refused; block = x.block; place = x.place } in
      by (eqb a.refused 0)
      (λ t. (pick t (go a.study) stop).refused ≡ 0 → pick t (go a.study) stop ≡ go (pick t (go a.study) stop).study)
      (λ e h. refl) (λ e h. absurd (eqb-false a.refused 0 e h))

  -- a run that goes on with the records left, of all those of a file: adding the first ones to where it came from is adding the rest to it
  pub record Left (all : List PlacedClaim) (from run : CorrectedRun) (index : ℕ) (first rest : List PlacedClaim) : Type 0 where
    pub behind : drop index all ≡ rest
    pub onward : run ≡ go run.study
    pub same : records_added add from.study (last_ones first) ≡ records_added add run.study (last_ones rest)

  pub left-first : (all : List PlacedClaim) (run : CorrectedRun) (index : ℕ) (rest : List PlacedClaim) → drop index all ≡ rest → run ≡ go run.study
      → Left all run run index rest rest
  left-first all run index rest e o = record { behind = e; onward = o; same = refl }

  pub left-rest : (all : List PlacedClaim) (from run : CorrectedRun) (index : ℕ) (first rest other : List PlacedClaim) → rest ≡ other
      → Left all from run index first rest → Left all from run index first other
  left-rest all from run index first rest other e h = subst (λ (rs : List PlacedClaim). Left all from run index first rs) e h

  -- behind one that was reached from another
  pub left-on : (all : List PlacedClaim) (from run after : CorrectedRun) (index next : ℕ) (first rest last : List PlacedClaim)
      → Left all from run index first rest → Left all run after next rest last → Left all from after next first last
  left-on all from run after index next first rest last h k = record { behind = k.behind; onward = k.onward; same = h.same ∙ k.same }

  pub left-none : (all : List PlacedClaim) (from run : CorrectedRun) (index : ℕ) (first : List PlacedClaim) → Left all from run index first []
      → run ≡ records_added add from.study (last_ones first)
  unfolding records_added last_ones
  left-none all from run index first h = h.onward ∙ sym h.same

  module _ (all : List PlacedClaim) (from run : CorrectedRun) (index : ℕ) (first : List PlacedClaim) (x : PlacedClaim) (rest : List PlacedClaim)
      (left : Left all from run index first (x ∷ rest)) (t : Bool) (m : t ≡ has_number x.claim.number rest) (after : CorrectedRun)
      (r : after ≡ records_added add run.study (or_none t x)) where
    added-one : records_added add from.study (last_ones first) ≡ pick (eqb after.refused 0) (records_added add after.study (last_ones rest)) after
    added-one =
        left.same
        ∙ ap (records_added add run.study) (last-first t x rest m)
        ∙ first_then t x (last_ones rest) run.study
        ∙ ap (λ (a : CorrectedRun). pick (eqb a.refused 0) (records_added add a.study (last_ones rest)) a) (sym r)

    pub left_step : after.refused ≡ 0 → Left all from after (index + 1) first rest
    left_step h =
        record {
          behind = sym (drop-drop 1 index all) ∙ ap (drop 1) left.behind;
          onward = r ∙ first_goes t x run.study (ap (λ (a : CorrectedRun). a.refused) (sym r) ∙ h) ∙ ap (λ (a : CorrectedRun). go a.study) (sym r);
          same = added-one ∙ rw (eq-eqb after.refused 0 h) refl;
        }

    pub left-stop : (after.refused ≡ 0 → ⊥) → after ≡ records_added add from.study (last_ones first)
    left-stop h = sym (added-one ∙ rw (ne_eqb after.refused 0 h) refl)

-- The records left in a block and in the blocks behind it
abbrev pub later_records : List ℕ → ℕ → List PlacedClaim
later_records bytes b = records_from bytes b (length bytes / 512 - b)

abbrev pub block_left : List ℕ → List ℕ → ℕ → ℕ → ℕ → List PlacedClaim
block_left bytes block b place count = records_of_block block b place (count - place) ++ later_records bytes (b + 1)

abbrev pub placed : List ℕ → ℕ → ℕ → PlacedClaim
placed block b place = record { claim = block_claim block place; block = b; place = place + 1 }

pub all-records : (bytes : List ℕ) → sound_all bytes ≡ true → file_records bytes ≡ later_records bytes 1
all-records bytes s =
    let l = length-drop 512 bytes in
    let a = all_sound bytes s in
    let e : length (drop 512 bytes) / 512 ≡ length bytes / 512 - 1 = omega (arith, a.whole-so, a.some-so) in
    file-records bytes (sound-file bytes s) ∙ ap (records_of_blocks (drop 512 bytes) 1) e

pub into_block : (bytes : List ℕ) (b count : ℕ) → b < length bytes / 512 → count ≡ byte_at bytes (512 * b + 2)
    → later_records bytes b ≡ block_left bytes (block_of bytes b) b 0 count
into_block bytes b count h e =
    let n = length bytes / 512 - (b + 1) in
    let p : length bytes / 512 - b ≡ suc n = omega arith in
    let q : suc b ≡ b + 1 = omega arith in
    let z : byte_at bytes (512 * b + 2) ≡ count - 0 = omega arith in
    ap (records_from bytes b) p ∙ from_block bytes b n
    ∙ (λ i. records_of_block (block_of bytes b) b 0 (z i) ++ records_from bytes (q i) n)

pub next_place : (bytes block : List ℕ) (b place count : ℕ) → place < count
    → block_left bytes block b place count ≡ placed block b place ∷ block_left bytes block b (place + 1) count
unfolding records_of_block
next_place bytes block b place count h =
    let n = count - (place + 1) in
    let p : count - place ≡ suc n = omega arith in
    let q : suc place ≡ place + 1 = omega arith in
    ap (λ (m : ℕ). records_of_block block b place m ++ later_records bytes (b + 1)) p
    ∙ (λ i. record { claim = block_claim block place; block = b; place = q i } ∷ (records_of_block block b (q i) n ++ later_records bytes (b + 1)))

pub block-done : (bytes block : List ℕ) (b place count : ℕ) → count ≤ place → block_left bytes block b place count ≡ later_records bytes (b + 1)
unfolding records_of_block
block-done bytes block b place count h =
    let p : count - place ≡ 0 = omega arith in ap (λ (m : ℕ). records_of_block block b place m ++ later_records bytes (b + 1)) p

pub file-done : (bytes : List ℕ) (b : ℕ) → length bytes / 512 ≤ b → later_records bytes b ≡ []
unfolding records_of_blocks
file-done bytes b h = let p : length bytes / 512 - b ≡ 0 = omega arith in ap (records_from bytes b) p

-- One record added, unless it is struck
module _ (add : Adding) (x : PlacedClaim) (t : Bool) (s : Study) where
  pub none-added : t ≡ true → go s ≡ records_added add s (or_none t x)
  unfolding records_added
  none-added e = sym (rw e refl)

  module _ (e : t ≡ false) (a : Answer) (p : a ≡ add s x.claim) where
    one-so : records_added add s (or_none t x)
        ≡ pick (eqb a.refused 0) (go a.study) (record { study = a.study; refused = a.refused; block = x.block; place = x.place })
    unfolding records_added
    one-so = rw (e, p) refl

    pub one-added : a.refused ≡ 0 → go a.study ≡ records_added add s (or_none t x)
    one-added h = sym (one-so ∙ rw (eq-eqb a.refused 0 h) refl)

    pub one-refused : (a.refused ≡ 0 → ⊥)
        → record { study = a.study; refused = a.refused; block = x.block; place = x.place } ≡ records_added add s (or_none t x)
    one-refused h = sym (one-so ∙ rw (ne_eqb a.refused 0 h) refl)

-- What a run answers behind each check
module _ (add : Adding) (bytes : List ℕ) where
  pub corrected-unsound : (m : ℕ) → m ≡ sound_blocks 0 bytes (length bytes / 512) → (AllSound bytes → ⊥) → unsound_at m ≡ corrected_run_with add bytes
  unfolding corrected_run_with unsound_at
  corrected-unsound m e h =
      let f : sound_all bytes ≡ false = by (sound_all bytes) (λ t. t ≡ false) (λ s. absurd (h (all_sound bytes s))) (λ _. refl) in
      ap unsound_at e ∙ sym (rw f refl)

  pub corrected-many : sound_all bytes ≡ true → (window_answer bytes).refused ≡ 0 → 60000 < length (file_records bytes)
      → corrected_run_with add bytes ≡ record { study = (window_answer bytes).study; refused = refuse_too_many_records; block = 0; place = 0 }
  unfolding corrected_run_with
  corrected-many s h many = rw (s, eq-eqb (window_answer bytes).refused 0 h, lt-leb (length (file_records bytes)) 60000 many) refl
