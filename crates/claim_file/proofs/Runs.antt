-- A file run step by step, as the code's loops go: what feeding comes to at a refused run, at no bytes, at a part block and at a
-- whole block, and a block's claims one at a time.
-- Assumes nothing.
use Prim.Native.Nat.{ℕ, zero, suc, ◌+◌, ◌-◌, ◌/◌, ◌%◌, ◌≤◌, ◌<◌}
use mathlib.Core.Path.{◌≡◌, refl, sym, ap, ◌∙◌}
use mathlib.Core.Bool.{Bool, true, false, and-false}
use mathlib.Core.List.{List}
use native.Mathlib.Omega.{arith}
use lib.ListN.{length, take, drop, length-drop, drop_of_length-le}
use lib.Seq.{take_all, drop-drop}
use lib.Dec.{ltb, eqb}
use borrow.Author.Tests.{eq-eqb, ne_eqb, lt-ltb, eqb-true}
use Rattle.basics.specs.Pick.{pick}
use Rattle.basics.proofs.Tests.{by, tests}
use Rattle.study.specs.declared.Study.{Study}
use Rattle.study.specs.Answers.{Answer}
use Rattle.study.specs.Study.{opened}
use Rattle.claim_file.specs.Runs.{FileRun}
use Rattle.claim_file.specs.Bytes.{byte_at, two_at, date_from}
use Rattle.claim_file.specs.Block.{block_claim, claim_count, window_block, claim_block, block_sound}
use Rattle.claim_file.specs.Run.{Adding, begun, going_on, stops, claims_from, block_fed, blocks_fed, part_fed, fed}
use Rattle.claim_file.proofs.BlockTests.{framed-number, claim-block, window-block}

-- a sound block, as facts
pub record Sound (due : ℕ) (bytes : List ℕ) : Type 0 where
  pub length-so : length bytes ≡ 512
  pub number-so : two_at bytes 0 ≡ due
  pub count_so : claim_count bytes ≤ 15
  pub none_so : due ≡ 0 → claim_count bytes ≡ 0

pub sound : (due : ℕ) (bytes : List ℕ) → block_sound due bytes ≡ true → Sound due bytes
unfolding block_sound
sound due bytes =
    by (eqb due 0) (λ t. pick t (window_block bytes) (claim_block due bytes) ≡ true → Sound due bytes)
    (λ e h.
    let w = window-block bytes h in
    record {
      length-so = w.length-so;
      number-so = framed-number 0 bytes w.framed-so ∙ sym (eqb-true due 0 e);
      count_so = omega arith;
      none_so = λ _. w.count_so;
    })
    (λ e h.
    let w = claim-block due bytes h in
    record {
      length-so = w.length-so;
      number-so = framed-number due bytes w.framed-so;
      count_so = w.count_so;
      none_so = λ z. absurd (omega tests);
    })

pub block_sound-length : (due : ℕ) (bytes : List ℕ) → block_sound due bytes ≡ true → length bytes ≡ 512
block_sound-length due bytes h = (sound due bytes h).length-so

pub ruleset sound_size = (block_sound-length)

-- a sound block's number is below 65,536
pub sound-due : (due : ℕ) (bytes : List ℕ) → Sound due bytes → byte_at bytes 0 < 256 → byte_at bytes 1 < 256 → due < 65536
unfolding two_at
sound-due due bytes s a b = omega (arith, s.number-so)

-- a block that is begun is sound, and a block that is not 512 bytes long is refused 11
pub begun-sound : (s : Study) (due : ℕ) (bytes : List ℕ) → (begun s due bytes).refused ≡ 0 → block_sound due bytes ≡ true
unfolding begun
begun-sound s due bytes =
    by (block_sound due bytes)
    (λ t. (pick t (pick (eqb due 0) (opened (date_from bytes 16) (date_from bytes 20)) (record { refused = 0; study = s })) (record { refused = 11; study = s })).refused ≡ 0 → t ≡ true)
    (λ _ _. refl)
    (λ _ h. absurd (omega arith))

not_sound : (due : ℕ) (bytes : List ℕ) → (length bytes ≡ 512 → ⊥) → block_sound due bytes ≡ false
not_sound due bytes h = by (block_sound due bytes) (λ t. t ≡ false) (λ e. absurd (h (sound due bytes e).length-so)) (λ _. refl)

pub begun-part : (s : Study) (due : ℕ) (bytes : List ℕ) → (length bytes ≡ 512 → ⊥) → begun s due bytes ≡ record { refused = 11; study = s }
unfolding begun
begun-part s due bytes h = rw (not_sound due bytes h)

block-part : (r : FileRun) (add : Adding) (bytes : List ℕ) → (length bytes ≡ 512 → ⊥) → block_fed r add bytes ≡ stops r r.study 11 0
unfolding block_fed
block-part r add bytes h = rw (begun-part r.study r.due bytes h)

-- a claim that an answer adds at place k of n, as the test of the number refused comes out
abbrev adds : FileRun → Adding → List ℕ → ℕ → ℕ → Answer → Bool → FileRun
adds r add bytes k n a t = pick t (claims_from r a.study add bytes k n) (stops r a.study a.refused k)

-- a refused run takes no more
module _ (r : FileRun) (add : Adding) (bytes : List ℕ) (h : r.refused ≡ 0 → ⊥) where
  pub blocks-refused : (n : ℕ) → blocks_fed r add bytes n ≡ r
  unfolding blocks_fed
  blocks-refused zero = refl
  blocks-refused (suc n) = rw (ne_eqb _ _ h)

  pub fed-refused : fed r add bytes ≡ r
  unfolding fed part_fed
  fed-refused = rw (blocks-refused (length bytes / 512), ne_eqb _ _ h)

pub stops-refused : (r : FileRun) (s : Study) (number place : ℕ) → (number ≡ 0 → ⊥) → (stops r s number place).refused ≡ 0 → ⊥
unfolding stops
stops-refused r s number place h = h

-- no bytes leave a run as it is
pub fed-none : (r : FileRun) (add : Adding) (bytes : List ℕ) → length bytes ≡ 0 → fed r add bytes ≡ r
unfolding fed part_fed blocks_fed
fed-none r add bytes e = rw (e, and-false (eqb r.refused 0))

-- a part block is refused 11
fed-part : (r : FileRun) (add : Adding) (bytes : List ℕ) → r.refused ≡ 0 → 0 < length bytes → length bytes < 512 → fed r add bytes ≡ stops r r.study 11 0
unfolding fed part_fed blocks_fed
fed-part r add bytes e a b =
    let z : length bytes / 512 ≡ 0 = omega arith in
    let m : 0 < length bytes % 512 = omega arith in
    rw (z, eq-eqb _ _ e, lt-ltb _ _ m)

-- a whole block, and then the rest
pub fed-block : (r : FileRun) (add : Adding) (bytes : List ℕ) → r.refused ≡ 0 → 512 ≤ length bytes
    → fed r add bytes ≡ fed (block_fed r add (take 512 bytes)) add (drop 512 bytes)
unfolding fed blocks_fed
fed-block r add bytes e h =
    let l = length-drop 512 bytes in
    let q : length bytes / 512 ≡ suc (length (drop 512 bytes) / 512) = omega arith in
    let m : length bytes % 512 ≡ length (drop 512 bytes) % 512 = omega arith in
    rw (q, eq-eqb _ _ e, m)

-- claims one at a time
module _ (r : FileRun) (s : Study) (add : Adding) (bytes : List ℕ) (k n : ℕ) (h : k < n) (a : Answer) (q : a ≡ add s (block_claim bytes k)) where
  claims-step : claims_from r s add bytes k (n - k) ≡ adds r add bytes (k + 1) (n - (k + 1)) a (eqb a.refused 0)
  unfolding claims_from
  claims-step =
      let e : n - k ≡ suc (n - (k + 1)) = omega arith in
      let g : suc k ≡ k + 1 = omega arith in
      ap (claims_from r s add bytes k) e ∙ (λ i. adds r add bytes (g i) (n - (k + 1)) (sym q i) (eqb (sym q i).refused 0))

  pub claims-on : a.refused ≡ 0 → claims_from r s add bytes k (n - k) ≡ claims_from r a.study add bytes (k + 1) (n - (k + 1))
  claims-on e = claims-step ∙ ap (adds r add bytes (k + 1) (n - (k + 1)) a) (eq-eqb _ _ e)

  pub claims-off : (a.refused ≡ 0 → ⊥) → claims_from r s add bytes k (n - k) ≡ stops r a.study a.refused (k + 1)
  claims-off e = claims-step ∙ ap (adds r add bytes (k + 1) (n - (k + 1)) a) (ne_eqb _ _ e)

pub claims-start : (r : FileRun) (s : Study) (add : Adding) (bytes : List ℕ) (n : ℕ) → claims_from r s add bytes 0 n ≡ claims_from r s add bytes 0 (n - 0)
claims-start r s add bytes n = let e : n ≡ n - 0 = omega arith in ap (claims_from r s add bytes 0) e

-- of the run they need no more than the number of the block due
pub claims-due : (r s : FileRun) (x : Study) (add : Adding) (bytes : List ℕ) (k n : ℕ) → r.due ≡ s.due → claims_from r x add bytes k n ≡ claims_from s x add bytes k n
unfolding claims_from going_on stops
claims-due r s x add bytes k zero e = λ i. record { study = x; due = e i + 1; refused = 0; block = 0; place = 0 }
claims-due r s x add bytes k (suc n) e =
    let a = add x (block_claim bytes k) in
    λ i. pick (eqb a.refused 0) (claims-due r s a.study add bytes (suc k) n e i) (record { study = a.study; due = e i; refused = a.refused; block = e i; place = suc k })

pub claims-end : (r : FileRun) (s : Study) (add : Adding) (bytes : List ℕ) (k n : ℕ) → n ≤ k → claims_from r s add bytes k (n - k) ≡ going_on r s
unfolding claims_from
claims-end r s add bytes k n h = let e : n - k ≡ 0 = omega arith in rw e

-- a block's bytes are the first 512 of those left, or all of them if they are fewer; and what is left behind them
pub part-is : (bytes : List ℕ) (from to : ℕ) → to ≡ from + (512 - (512 - (length bytes - from)))
    → take (to - from) (drop from bytes) ≡ take 512 (drop from bytes)
part-is bytes from to e =
    let l = length-drop from bytes in
    by (ltb (length bytes - from) 512) (λ _. take (to - from) (drop from bytes) ≡ take 512 (drop from bytes))
    (λ t. take_all (to - from) (drop from bytes) (omega tests) ∙ sym (take_all 512 (drop from bytes) (omega tests)))
    (λ t. let q : to - from ≡ 512 = omega tests in ap (λ (n : ℕ). take n (drop from bytes)) q)

pub rest-is : (bytes : List ℕ) (from to : ℕ) → from ≤ length bytes → to ≡ from + (512 - (512 - (length bytes - from))) → drop 512 (drop from bytes) ≡ drop to bytes
rest-is bytes from to h e =
    drop-drop 512 from bytes
    ∙ by (ltb (length bytes - from) 512) (λ _. drop (from + 512) bytes ≡ drop to bytes)
    (λ t. drop_of_length-le bytes {i = from + 512} (omega tests) ∙ sym (drop_of_length-le bytes {i = to} (omega tests)))
    (λ t. let q : from + 512 ≡ to = omega tests in ap (λ (n : ℕ). drop n bytes) q)

-- some bytes by their first block, a whole one or not, and then the rest
pub fed-turn : (r : FileRun) (add : Adding) (bytes part : List ℕ) → part ≡ take 512 bytes → r.refused ≡ 0 → 0 < length bytes
    → fed r add bytes ≡ fed (block_fed r add part) add (drop 512 bytes)
fed-turn r add bytes part p u l =
    by (ltb (length bytes) 512) (λ _. fed r add bytes ≡ fed (block_fed r add part) add (drop 512 bytes))
    (λ t.
    let s : length bytes < 512 = omega tests in
    let w : length part ≡ 512 → ⊥ = λ z. absurd (omega (arith, ap length (p ∙ take_all 512 bytes (omega arith)))) in
    fed-part r add bytes u l s
    ∙ sym (fed-refused (stops r r.study 11 0) add (drop 512 bytes) (stops-refused r r.study 11 0 (λ z. absurd (omega arith))))
    ∙ ap (λ (x : FileRun). fed x add (drop 512 bytes)) (sym (block-part r add part w)))
    (λ t. fed-block r add bytes u (omega tests) ∙ ap (λ (b : List ℕ). fed (block_fed r add b) add (drop 512 bytes)) (sym p))
