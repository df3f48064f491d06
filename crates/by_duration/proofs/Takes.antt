-- The claims that a run takes of its file: the first ones, each added to the study before it.
-- Assumes nothing.
use Rattle.std.proofs.Common.{◌≡◌, ℕ, zero, suc, ◌+◌, ◌-◌, ◌*◌, ◌/◌, ◌<◌, ◌≤◌, min, eqb, ltb, List, [], ◌∷◌, ◌++◌, length, take, drop, sym, refl, ap, ◌∙◌, subst, ap₂, append-nil, length-append, length-drop, length-take, take_all, eq-eqb, ne_eqb, eqb-true}
use mathlib.Core.Path.{subst⁻¹}
use lib.Seq.{take-nil, take-length, take-append-le, take-append-add}
use borrow.Author.Tests.{eqb-false}
use Rattle.basics.specs.Pick.{pick}
use Rattle.basics.proofs.Tests.{tests, by}
use Rattle.claim_months.specs.declared.Claim.{Claim}
use Rattle.claim_months.specs.Windows.{window_in}
use Rattle.rates.specs.declared.Kind.{Kind}
use Rattle.study.specs.declared.Study.{Study}
use Rattle.study.specs.Answers.{Answer}
use Rattle.study.specs.Study.{fresh, opened_with, opened}
use Rattle.study.specs.design.PreparedAdding.{add_check_with, added_with}
use Rattle.claim_file.specs.Runs.{FileRun}
use Rattle.claim_file.specs.Bytes.{date_from}
use Rattle.claim_file.specs.Block.{block_claim, claim_count, block_sound}
use Rattle.claim_file.specs.BlockAnswers.{record_in}
use Rattle.claim_file.specs.Run.{going_on, stops, claims_from, begun, block_fed, fed}
use Rattle.claim_file.specs.design.PreparedRuns.{adding_with}
use Rattle.claim_file.specs.Files.{claims_of_block, claims_of_blocks, file_claims}
use Rattle.claim_file.proofs.Reading.{sound-record}
use Rattle.claim_file.proofs.Runs.{sound, fed-refused, fed-none, fed-turn, stops-refused}
use Rattle.claim_months.specs.declared.Window.{Window}
use Rattle.std.specs.Prelude.{Err, Ok, Result, Some}

-- ---- the claims of a file

pub claims-length : (bytes : List ℕ) (n k : ℕ) → length (claims_of_block bytes k n) ≡ n
unfolding claims_of_block
claims-length bytes zero k = refl
claims-length bytes (suc n) k = ap suc (claims-length bytes n (suc k))

-- those of a block
abbrev pub in_block : List ℕ → List Claim
in_block block = claims_of_block block 0 (claim_count block)

pub no_block : (b : List ℕ) → length b < 512 → file_claims b ≡ []
unfolding file_claims claims_of_blocks
no_block b h = let e : length b / 512 ≡ 0 = omega tests in rw e

pub first_block : (b : List ℕ) → 512 ≤ length b → file_claims b ≡ in_block (take 512 b) ++ file_claims (drop 512 b)
unfolding file_claims claims_of_blocks
first_block b h =
    let l = length-drop 512 b in
    let e : length b / 512 ≡ suc (length (drop 512 b) / 512) = omega tests in rw e

module _ (kind : Kind) (table : List ℕ) where
  abbrev pub add : Study → Claim → Answer
  add = adding_with kind table

  -- a refusal leaves the study; a claim that is taken counts one, and the window stays
  keeps : (s : Study) (c : Claim) → ((add s c).refused ≡ 0 → ⊥) → (add s c).study ≡ s
  unfolding added_with
  keeps s c h = rw (ne_eqb (add_check_with kind s c table) 0 h)

  pub takes_one : (s : Study) (c : Claim) → (add s c).refused ≡ 0 → ((add s c).study.taken ≡ s.taken + 1) × ((add s c).study.window ≡ s.window)
  unfolding added_with
  takes_one s c h = rw (eq-eqb (add_check_with kind s c table) 0 h) (refl, refl)

  -- claims added one after the other, none refused
  abbrev pub Adds : Study → List Claim → Study → Type 0
  Adds s [] t = t ≡ s
  Adds s (c ∷ cs) t = ((add s c).refused ≡ 0) × Adds (add s c).study cs t

  pub adds-more : (s t u : Study) (xs ys : List Claim) → Adds s xs t → Adds t ys u → Adds s (xs ++ ys) u
  adds-more s t u [] ys e a = subst (λ (x : Study). Adds x ys u) e a
  adds-more s t u (x ∷ xs) ys p a = (p.0, adds-more (add s x).study t u xs ys p.1 a)

  pub adds-taken : (s t : Study) (cs : List Claim) → Adds s cs t → t.taken ≡ s.taken + length cs
  adds-taken s t [] e = ap (λ (x : Study). x.taken) e ∙ omega tests
  adds-taken s t (c ∷ cs) p = adds-taken (add s c).study t cs p.1 ∙ omega (tests, (takes_one s c p.0).0)

  pub adds-window : (s t : Study) (cs : List Claim) → Adds s cs t → t.window ≡ s.window
  adds-window s t [] e = ap (λ (x : Study). x.window) e
  adds-window s t (c ∷ cs) p = adds-window (add s c).study t cs p.1 ∙ (takes_one s c p.0).1

  -- ---- one block

  record ClaimsTook (s : Study) (cs : List Claim) (r : FileRun) : Type 0 where
    count : ℕ
    within : count ≤ length cs
    adds : Adds s (take count cs) r.study
    all : r.refused ≡ 0 → count ≡ length cs

  claims-took : (r : FileRun) (bytes : List ℕ) (n k : ℕ) (s : Study) → ClaimsTook s (claims_of_block bytes k n) (claims_from r s add bytes k n)
  unfolding claims_from claims_of_block going_on stops
  claims-took r bytes zero k s = record { count = 0; within = omega tests; adds = refl; all = λ h. refl }
  claims-took r bytes (suc n) k s =
      let c = block_claim bytes k in
      let a = add s c in
      by (eqb a.refused 0)
      (λ t. ClaimsTook s (c ∷ claims_of_block bytes (suc k) n) (pick t (claims_from r a.study add bytes (suc k) n) (stops r a.study a.refused (suc k))))
      (λ q.
      let i = claims-took r bytes n (suc k) a.study in
      record { count = suc i.count; within = omega (tests, i.within); adds = (eqb-true a.refused 0 q, i.adds); all = λ h. ap suc (i.all h) })
      (λ q.
      let z = eqb-false a.refused 0 q in
      record { count = 0; within = omega tests; adds = keeps s c z; all = λ h. absurd (z h) })

  -- a run before block 0 has a study without claims
  abbrev pub Begins : FileRun → Type 0
  Begins r = r.refused ≡ 0 → r.due ≡ 0 → r.study ≡ fresh r.study.window

  -- what a run takes of a block, and the study to which it adds it: its own, or behind block 0 a fresh one
  pub record BlockTook (r : FileRun) (block : List ℕ) (after : FileRun) : Type 0 where
    pub count : ℕ
    pub within : count ≤ claim_count block
    pub base : Study
    pub adds : Adds base (take count (in_block block)) after.study
    pub base-taken : Begins r → base.taken ≡ r.study.taken
    pub base_same : 1 ≤ r.due → base ≡ r.study
    pub base-fresh : r.due ≡ 0 → r.study ≡ fresh r.study.window → base ≡ fresh base.window
    pub all : after.refused ≡ 0 → count ≡ claim_count block
    pub later : after.refused ≡ 0 → 1 ≤ after.due
    pub whole : 0 < count → (length block ≡ 512) × (claim_count block ≤ 15)
    pub records : (k : ℕ) → k < count → Some (block_claim block k) ≡ record_in block (16 + 32 * k)

  -- none is taken where the run is refused
  none-took : (r : FileRun) (block : List ℕ) (after : FileRun) → after.study ≡ r.study → (after.refused ≡ 0 → ⊥) → BlockTook r block after
  none-took r block after e h =
      record {
        count = 0;
        within = omega tests;
        base = r.study;
        adds = e;
        base-taken = λ f. refl;
        base_same = λ d. refl;
        base-fresh = λ d f. f;
        all = λ z. absurd (h z);
        later = λ z. absurd (h z);
        whole = λ z. absurd (omega tests);
        records = λ k z. absurd (omega tests);
      }

  claims-later : (r : FileRun) (bytes : List ℕ) (n k : ℕ) (s : Study) → 1 ≤ r.due → 1 ≤ (claims_from r s add bytes k n).due
  unfolding claims_from going_on stops
  claims-later r bytes zero k s h = omega tests
  claims-later r bytes (suc n) k s h =
      let a = add s (block_claim bytes k) in
      by (eqb a.refused 0) (λ t. 1 ≤ (pick t (claims_from r a.study add bytes (suc k) n) (stops r a.study a.refused (suc k))).due)
      (λ q. claims-later r bytes n (suc k) a.study h) (λ q. h)

  later-took : (r : FileRun) (block : List ℕ) → 1 ≤ r.due → BlockTook r block (block_fed r add block)
  unfolding block_fed begun stops
  later-took r block d =
      let s = r.study in
      rw (ne_eqb r.due 0 (λ (z : r.due ≡ 0). omega tests))
      (by (block_sound r.due block)
      (λ y.
      BlockTook r block
      (pick (eqb (pick {A = Answer} y (record { refused = 0; study = s }) (record { refused = 11; study = s })).refused 0)
      (claims_from r (pick {A = Answer} y (record { refused = 0; study = s }) (record { refused = 11; study = s })).study add block 0 (claim_count block))
      (stops r (pick {A = Answer} y (record { refused = 0; study = s }) (record { refused = 11; study = s })).study
      (pick {A = Answer} y (record { refused = 0; study = s }) (record { refused = 11; study = s })).refused 0)))
      (λ q.
      let so = sound r.due block q in
      let i = claims-took r block (claim_count block) 0 s in
      let l = claims-length block (claim_count block) 0 in
      record {
        count = i.count;
        within = omega (tests, i.within, l);
        base = s;
        adds = i.adds;
        base-taken = λ f. refl;
        base_same = λ z. refl;
        base-fresh = λ z f. f;
        all = λ z. i.all z ∙ l;
        later = λ z. claims-later r block (claim_count block) 0 s d;
        whole = λ z. (so.length-so, so.count_so);
        records = λ k z. sound-record r.due block d q k (omega (tests, i.within, l));
      })
      (λ q. none-took r block (stops r s 11 0) refl (stops-refused r s 11 0 (λ (z : ◌≡◌ {A = ℕ} 11 0). absurd (omega tests)))))

  -- opening gives a fresh study
  opened-fresh : (m : Result Window ℕ) → (opened_with m).study ≡ fresh (opened_with m).study.window
  unfolding opened_with fresh
  opened-fresh (Ok w) = refl
  opened-fresh (Err n) = refl

  fresh-taken : (s : Study) → s ≡ fresh s.window → s.taken ≡ 0
  unfolding fresh
  fresh-taken s e = ap (λ (x : Study). x.taken) e

  -- a block without claims that opens a study
  opens-took : (r : FileRun) (block : List ℕ) (after : FileRun) → r.refused ≡ 0 → r.due ≡ 0 → claim_count block ≡ 0 → after.study ≡ fresh after.study.window
      → (after.refused ≡ 0 → 1 ≤ after.due) → BlockTook r block after
  opens-took r block after u d none f on =
      record {
        count = 0;
        within = omega tests;
        base = after.study;
        adds = refl;
        base-taken = λ g. fresh-taken after.study f ∙ sym (fresh-taken r.study (g u d));
        base_same = λ z. absurd (omega tests);
        base-fresh = λ z g. f;
        all = λ z. sym none;
        later = on;
        whole = λ z. absurd (omega tests);
        records = λ k z. absurd (omega tests);
      }

  first-begun : (s : Study) (due : ℕ) (block : List ℕ) → due ≡ 0
      → begun s due block ≡ pick (block_sound 0 block) (opened (date_from block 16) (date_from block 20)) (record { refused = 11; study = s })
  unfolding begun
  first-begun s due block e = rw e refl

  first-took : (r : FileRun) (block : List ℕ) → r.refused ≡ 0 → r.due ≡ 0 → BlockTook r block (block_fed r add block)
  unfolding block_fed opened claims_from going_on stops
  first-took r block u d =
      let s = r.study in
      let a = opened (date_from block 16) (date_from block 20) in
      subst⁻¹
      (λ (x : Answer). BlockTook r block (pick (eqb x.refused 0) (claims_from r x.study add block 0 (claim_count block)) (stops r x.study x.refused 0)))
      (first-begun s r.due block d)
      (by (block_sound 0 block)
      (λ y.
      BlockTook r block
      (pick (eqb (pick {A = Answer} y a (record { refused = 11; study = s })).refused 0)
      (claims_from r (pick {A = Answer} y a (record { refused = 11; study = s })).study add block 0 (claim_count block))
      (stops r (pick {A = Answer} y a (record { refused = 11; study = s })).study (pick {A = Answer} y a (record { refused = 11; study = s })).refused 0)))
      (λ q.
      let none = (sound 0 block q).none_so refl in
      let f = opened-fresh (window_in (date_from block 16) (date_from block 20)) in
      subst⁻¹ (λ (n : ℕ). BlockTook r block (pick (eqb a.refused 0) (claims_from r a.study add block 0 n) (stops r a.study a.refused 0))) none
      (by (eqb a.refused 0) (λ y. BlockTook r block (pick y (going_on r a.study) (stops r a.study a.refused 0)))
      (λ p. opens-took r block (going_on r a.study) u d none f (λ z. omega tests))
      (λ p. opens-took r block (stops r a.study a.refused 0) u d none f (λ z. absurd (eqb-false a.refused 0 p z)))))
      (λ q. none-took r block (stops r s 11 0) refl (stops-refused r s 11 0 (λ (z : ◌≡◌ {A = ℕ} 11 0). absurd (omega tests)))))

  block-took : (r : FileRun) (block : List ℕ) → r.refused ≡ 0 → BlockTook r block (block_fed r add block)
  block-took r block u =
      by (eqb r.due 0) (λ _. BlockTook r block (block_fed r add block)) (λ q. first-took r block u (eqb-true r.due 0 q))
      (λ q. let n = eqb-false r.due 0 q in later-took r block (omega (tests, n)))

  -- ---- a file's blocks, a part block at the end among them

  fed-one : (r : FileRun) (part : List ℕ) → r.refused ≡ 0 → 0 < length part → length part ≤ 512 → fed r add part ≡ block_fed r add part
  fed-one r part u l h =
      let d = length-drop 512 part in
      fed-turn r add part part (sym (take_all 512 part h)) u l ∙ fed-none (block_fed r add part) add (drop 512 part) (omega tests)

  pub part-took : (r : FileRun) (part : List ℕ) → 0 < length part → length part ≤ 512 → BlockTook r part (fed r add part)
  part-took r part l h =
      by (eqb r.refused 0) (λ _. BlockTook r part (fed r add part))
      (λ q. let u = eqb-true r.refused 0 q in subst⁻¹ (BlockTook r part) (fed-one r part u l h) (block-took r part u))
      (λ q.
      let n = eqb-false r.refused 0 q in
      subst⁻¹ (BlockTook r part) (fed-refused r add part n) (none-took r part r refl n))

  -- a block, and then the rest
  pub fed-first : (r : FileRun) (b : List ℕ) → 0 < length b → fed r add b ≡ fed (fed r add (take 512 b)) add (drop 512 b)
  fed-first r b l =
      let t = length-take 512 b in
      by (eqb r.refused 0) (λ _. fed r add b ≡ fed (fed r add (take 512 b)) add (drop 512 b))
      (λ q.
      let u = eqb-true r.refused 0 q in
      fed-turn r add b (take 512 b) refl u l ∙ ap (λ (x : FileRun). fed x add (drop 512 b)) (sym (fed-one r (take 512 b) u (omega tests) (omega tests))))
      (λ q.
      let n = eqb-false r.refused 0 q in
      fed-refused r add b n ∙ sym (ap (λ (x : FileRun). fed x add (drop 512 b)) (fed-refused r add (take 512 b) n) ∙ fed-refused r add (drop 512 b) n))

  -- what a run behind block 0 takes of some bytes
  pub record Took (r : FileRun) (b : List ℕ) : Type 0 where
    pub count : ℕ
    pub within : count ≤ length (file_claims b)
    pub adds : Adds r.study (take count (file_claims b)) (fed r add b).study

  pub took-taken : (r : FileRun) (b : List ℕ) (t : Took r b) → (fed r add b).study.taken ≡ r.study.taken + t.count
  took-taken r b t =
      let l = length-take t.count (file_claims b) in
      adds-taken r.study (fed r add b).study (take t.count (file_claims b)) t.adds ∙ omega (tests, t.within)

  refused-count : (r : FileRun) (b : List ℕ) (t : Took r b) → (r.refused ≡ 0 → ⊥) → t.count ≡ 0
  refused-count r b t n =
      let e = took-taken r b t in
      let f = ap (λ (x : FileRun). x.study.taken) (fed-refused r add b n) in
      omega tests

  none-of-part : (part : List ℕ) (n : ℕ) → (0 < n → length part ≡ 512) → length part < 512 → n ≡ 0
  none-of-part part n h l =
      by (eqb n 0) (λ _. n ≡ 0) (λ q. eqb-true n 0 q) (λ q. let z = eqb-false n 0 q in absurd (omega (tests, h (omega (tests, z)))))

  -- the claims that a block and the rest give
  pub joined : (r : FileRun) (b : List ℕ) → 0 < length b → (t : BlockTook r (take 512 b) (fed r add (take 512 b))) (i : Took (fed r add (take 512 b)) (drop 512 b))
      → take (t.count + i.count) (file_claims b) ≡ take t.count (in_block (take 512 b)) ++ take i.count (file_claims (drop 512 b))
  joined r b l t i =
      let first = fed r add (take 512 b) in
      let here = in_block (take 512 b) in
      let later = file_claims (drop 512 b) in
      let n = claims-length (take 512 b) (claim_count (take 512 b)) 0 in
      let len = length-take 512 b in
      let rest = length-drop 512 b in
      by (ltb (length b) 512) (λ _. take (t.count + i.count) (file_claims b) ≡ take t.count here ++ take i.count later)
      (λ q.
      let none : t.count ≡ 0 = none-of-part (take 512 b) t.count (λ z. (t.whole z).0) (omega tests) in
      ap (take (t.count + i.count)) (no_block b (omega tests)) ∙ take-nil (t.count + i.count)
      ∙ sym
      (ap₂ (λ (xs ys : List Claim). xs ++ ys) (ap (λ (m : ℕ). take m here) none)
      (ap (take i.count) (no_block (drop 512 b) (omega tests)) ∙ take-nil i.count)))
      (λ q.
      ap (take (t.count + i.count)) (first_block b (omega tests))
      ∙ by (eqb first.refused 0) (λ _. take (t.count + i.count) (here ++ later) ≡ take t.count here ++ take i.count later)
      (λ p.
      let e : t.count ≡ length here = t.all (eqb-true first.refused 0 p) ∙ sym n in
      rw (e, take-length here) (take-append-add here later i.count))
      (λ p.
      let z : i.count ≡ 0 = refused-count first (drop 512 b) i (eqb-false first.refused 0 p) in
      let k : t.count + 0 ≡ t.count = omega tests in
      rw (z, k, append-nil (take t.count here)) (take-append-le t.count here later (omega (tests, t.within, n)))))

  -- what a run takes of a block and of the rest
  took_more : (r : FileRun) (b : List ℕ) → 0 < length b → 1 ≤ r.due → Took (fed r add (take 512 b)) (drop 512 b) → Took r b
  took_more r b l d i =
      let len = length-take 512 b in
      let t = part-took r (take 512 b) (omega tests) (omega tests) in
      let first = fed r add (take 512 b) in
      let e = joined r b l t i in
      let all = took-taken first (drop 512 b) i in
      let m = length-append (take t.count (in_block (take 512 b))) (take i.count (file_claims (drop 512 b))) in
      let one = length-take t.count (in_block (take 512 b)) in
      let two = length-take i.count (file_claims (drop 512 b)) in
      let n = claims-length (take 512 b) (claim_count (take 512 b)) 0 in
      let h = length-take (t.count + i.count) (file_claims b) in
      record {
        count = t.count + i.count;
        within = omega (tests, ap length e, t.within, i.within);
        adds =
            subst⁻¹ (λ (x : FileRun). Adds r.study (take (t.count + i.count) (file_claims b)) x.study) (fed-first r b l)
            (subst⁻¹ (λ (cs : List Claim). Adds r.study cs (fed first add (drop 512 b)).study) e
            (adds-more r.study first.study (fed first add (drop 512 b)).study (take t.count (in_block (take 512 b))) (take i.count (file_claims (drop 512 b)))
            (subst (λ (s : Study). Adds s (take t.count (in_block (take 512 b))) first.study) (t.base_same d) t.adds) i.adds));
      }

  -- of no bytes, and refused, it takes none
  took-none : (r : FileRun) (b : List ℕ) → fed r add b ≡ r → Took r b
  took-none r b e = record { count = 0; within = omega tests; adds = ap (λ (x : FileRun). x.study) e }

  took-within : (n : ℕ) (r : FileRun) (b : List ℕ) → length b ≤ 512 * n → (r.refused ≡ 0 → 1 ≤ r.due) → Took r b
  took-within zero r b h d = took-none r b (fed-none r add b (omega tests))
  took-within (suc n) r b h d =
      by (eqb r.refused 0) (λ _. Took r b)
      (λ q.
      by (eqb (length b) 0) (λ _. Took r b) (λ p. took-none r b (fed-none r add b (eqb-true (length b) 0 p)))
      (λ p.
      let some = eqb-false (length b) 0 p in
      let l : 0 < length b = omega (tests, some) in
      let len = length-take 512 b in
      let rest = length-drop 512 b in
      let t = part-took r (take 512 b) (omega tests) (omega tests) in
      took_more r b l (d (eqb-true r.refused 0 q)) (took-within n (fed r add (take 512 b)) (drop 512 b) (omega tests) t.later)))
      (λ q. took-none r b (fed-refused r add b (eqb-false r.refused 0 q)))

  pub took : (r : FileRun) (b : List ℕ) → (r.refused ≡ 0 → 1 ≤ r.due) → Took r b
  took r b d = took-within (length b / 512 + 1) r b (omega tests) d

  -- ---- a whole file

  -- the claims that feeding some bytes takes
  unfoldable pub taken_from : FileRun → List ℕ → List Claim
  taken_from r b = take ((fed r add b).study.taken - r.study.taken) (file_claims b)

  -- fed a block: the claims are those of the block and of the rest, the window stays, and the run has a study or ends
  pub record Fed (r : FileRun) (b : List ℕ) : Type 0 where
    pub count : ℕ
    pub taken : (fed r add (take 512 b)).study.taken ≡ r.study.taken + count
    pub within : count ≤ claim_count (take 512 b)
    pub split : taken_from r b ≡ take count (in_block (take 512 b)) ++ taken_from (fed r add (take 512 b)) (drop 512 b)
    pub window : (fed r add b).study.window ≡ (fed r add (take 512 b)).study.window
    pub whole : 0 < count → (length (take 512 b) ≡ 512) × ((claim_count (take 512 b) ≤ 15) × (count ≤ claim_count (take 512 b)))
    pub records : (k : ℕ) → k < count → Some (block_claim (take 512 b) k) ≡ record_in (take 512 b) (16 + 32 * k)
    pub begins : Begins (fed r add (take 512 b))
    pub adds : r.due ≡ 0 → r.study ≡ fresh r.study.window → Adds (fresh (fed r add b).study.window) (taken_from r b) (fed r add b).study

  module _ (r : FileRun) (b : List ℕ) (l : 0 < length b) (g : Begins r) where
    abbrev first : FileRun
    first = fed r add (take 512 b)

    len : length (take 512 b) ≡ min 512 (length b)
    len = length-take 512 b

    block : BlockTook r (take 512 b) first
    block = part-took r (take 512 b) (omega (tests, len)) (omega (tests, len))

    rest : Took first (drop 512 b)
    rest = took first (drop 512 b) block.later

    block-taken : first.study.taken ≡ r.study.taken + block.count
    block-taken =
        let k = length-take block.count (in_block (take 512 b)) in
        let n = claims-length (take 512 b) (claim_count (take 512 b)) 0 in
        adds-taken block.base first.study (take block.count (in_block (take 512 b))) block.adds ∙ omega (tests, block.base-taken g, block.within)

    abbrev end : FileRun
    end = fed first add (drop 512 b)

    -- before block 0 all that is taken is added to a fresh study
    file-adds : r.due ≡ 0 → r.study ≡ fresh r.study.window → Adds (fresh end.study.window) (take (block.count + rest.count) (file_claims b)) end.study
    file-adds d f =
        let here = take block.count (in_block (take 512 b)) in
        let later = take rest.count (file_claims (drop 512 b)) in
        let both : Adds block.base (here ++ later) end.study = adds-more block.base first.study end.study here later block.adds rest.adds in
        let w = adds-window block.base end.study (here ++ later) both in
        subst⁻¹ (λ (cs : List Claim). Adds (fresh end.study.window) cs end.study) (joined r b l block rest)
        (subst (λ (s : Study). Adds s (here ++ later) end.study) (block.base-fresh d f ∙ ap fresh (sym w)) both)

    pub fed-split : Fed r b
    unfolding taken_from
    fed-split =
        let e = fed-first r b l in
        let all = took-taken first (drop 512 b) rest in
        let one : (fed r add b).study.taken - r.study.taken ≡ block.count + rest.count = omega (tests, ap (λ (x : FileRun). x.study.taken) e, all, block-taken) in
        let two : (fed first add (drop 512 b)).study.taken - first.study.taken ≡ rest.count = omega (tests, all) in
        record {
          count = block.count;
          taken = block-taken;
          within = block.within;
          split = rw (one, two) (joined r b l block rest);
          window = ap (λ (x : FileRun). x.study.window) e ∙ adds-window first.study (fed first add (drop 512 b)).study (take rest.count (file_claims (drop 512 b))) rest.adds;
          whole = λ z. ((block.whole z).0, ((block.whole z).1, block.within));
          records = block.records;
          begins = λ u z. absurd (omega (tests, block.later u));
          adds = λ d f.
              let n : end.study.taken - r.study.taken ≡ block.count + rest.count = omega (tests, all, block-taken) in
              subst⁻¹ (λ (x : FileRun). Adds (fresh x.study.window) (take (x.study.taken - r.study.taken) (file_claims b)) x.study) e
              (subst⁻¹ (λ (m : ℕ). Adds (fresh end.study.window) (take m (file_claims b)) end.study) n (file-adds d f));
        }
