-- Claims added to rows one after the other, block by block, as the run over a file goes.
-- Assumes nothing.
use Rattle.std.proofs.Common.{◌≡◌, ℕ, zero, suc, ◌+◌, ◌-◌, ◌*◌, ◌/◌, ◌<◌, ◌≤◌, true, List, [], ◌∷◌, ◌++◌, map, length, take, drop, ℤ, pos, ◌+ℤ◌, sym, refl, ap, ◌∙◌, append-nil, length-append, eq-eqb, le-leb}
use mathlib.Core.Path.{subst, subst⁻¹}
use mathlib.Core.Bool.{Bool, false, and-eq-true_iff}
use lib.IntN.{+ℤ_idl, +ℤ_assoc}
use lib.ListN.{replicate, length-drop, drop_of_length-le, length-replicate, get_or-replicate}
use lib.Seq.{sets, sets-eq, length-take-le, drop-append_seam}
use borrow.Rule.Slice.PartMut.{put_mid}
use Rattle.basics.specs.Pick.{pick}
use Rattle.basics.specs.Tables.{table}
use Rattle.basics.proofs.Tests.{tests, by}
use Rattle.basics.proofs.Tables.{table_same}
use Rattle.claim_months.specs.declared.Claim.{Claim}
use Rattle.claim_months.specs.declared.Window.{Window}
use Rattle.rates.specs.declared.Kind.{Kind}
use Rattle.rates.proofs.Parts.{cell-within}
use Rattle.study.specs.Sums.{column_at}
use Rattle.claim_file.specs.Runs.{FileRun}
use Rattle.claim_file.specs.Block.{block_claim, claim_count}
use Rattle.claim_file.specs.BlockAnswers.{no_claim, record_in}
use Rattle.claim_file.specs.Run.{started, fed, ended, file_run_with}
use Rattle.claim_file.specs.Files.{claims_of_block, file_claims}
use Rattle.claim_file.proofs.Runs.{fed-none}
use Rattle.by_duration.specs.Rows.{row_at, claim_figure, row_sum, rows_over}
use Rattle.by_duration.specs.Wrapped.{as64}
use Rattle.by_duration.specs.design.Private.{Fit, raised_by, has_cell, checked_figure, checked_sum}
use Rattle.by_duration.specs.DurationRuns.{duration_rows, run_for, head_numbers, duration_numbers, rows_in, has_rows, durations_answered, durations_after}
use Rattle.by_duration.proofs.Raised.{at, raised-none, raised-same, raised-twice}
use Rattle.by_duration.proofs.Takes.{add, Begins, Fed, taken_from, fed-first, fed-split}
use Rattle.by_duration.proofs.FileTakes.{Passes, claims, window, run-passes, taken-are, ended-study}
use Rattle.by_duration.proofs.SameRows.{map-table, over-same}
use Rattle.study.specs.Study.{fresh, sum_over}
use Rattle.std.specs.Prelude.{Option, Some, None}

-- a claim that was read is the one that is there
there : Option Claim → Claim
there None = no_claim
there (Some c) = c

pub same-record : (c d : Claim) (o : Option Claim) → o ≡ Some c → Some d ≡ o → c ≡ d
unfolding there
same-record c d o e f = sym (ap there (f ∙ e))

-- the four numbers before the rows
pub head-and-rows : (old rows head : List ℤ) → 4 ≤ length old → length head ≡ 4 → sets (put_mid 4 (length old - 4) old rows) 0 head ≡ head ++ rows
head-and-rows old rows head h l =
    let four = length-take-le 4 old h in
    let end : drop (length old - 4) (drop 4 old) ≡ [] = drop_of_length-le (drop 4 old) {i = length old - 4} (omega (tests, length-drop 4 old)) in
    let m = length-append (take 4 old) (rows ++ drop (length old - 4) (drop 4 old)) in
    let z : 0 + length head ≡ length (take 4 old) = omega (tests, four, l) in
    sets-eq head (put_mid 4 (length old - 4) old rows) 0 (omega (tests, four, m, l))
    ∙ ap (λ (xs : List ℤ). head ++ xs)
    (ap (λ (k : ℕ). drop k (put_mid 4 (length old - 4) old rows)) z ∙ drop-append_seam (take 4 old) (rows ++ drop (length old - 4) (drop 4 old))
    ∙ ap (λ (xs : List ℤ). rows ++ xs) end ∙ append-nil rows)

-- what a list's length tells of its rows
is_rows : Option ℕ → Type 0
is_rows None = ⊥
is_rows (Some n) = ℕ

number_in : Option ℕ → ℕ
number_in None = 0
number_in (Some n) = n

pub record Rows (len n : ℕ) : Type 0 where
  pub has : has_rows len ≡ true
  pub count : n ≡ rows_in len
  pub low : 1 ≤ n
  pub length_so : len ≡ 4 + 8 * n

pub rows-found : (len n : ℕ) (o : Option ℕ) → o ≡ Some n → o ≡ pick (has_rows len) (Some (rows_in len)) None → Rows len n
unfolding has_rows rows_in is_rows number_in
rows-found len n o e =
    by (has_rows len) (λ t. o ≡ pick t (Some (rows_in len)) None → Rows len n)
    (λ q f.
    let count : n ≡ (len - 4) / 8 = ap number_in (sym e ∙ f) in
    let t = simp and-eq-true_iff at q in
    record { has = q; count = count; low = omega (tests, t, count); length_so = omega (tests, t, count) })
    (λ q f. absurd (subst is_rows (sym e ∙ f) 0))

pub rows-absent : (len : ℕ) (o : Option ℕ) → ((n : ℕ) → o ≡ Some n → ⊥) → o ≡ pick (has_rows len) (Some (rows_in len)) None → has_rows len ≡ false
rows-absent len o h =
    by (has_rows len) (λ t. o ≡ pick t (Some (rows_in len)) None → t ≡ false) (λ q f. absurd (h (rows_in len) f)) (λ q f. refl)

-- the first claims of a block
pub first-claims : (block : List ℕ) (n j k : ℕ) → j ≤ n → take j (claims_of_block block k n) ≡ claims_of_block block k j
unfolding claims_of_block
first-claims block n zero k h = refl
first-claims block zero (suc j) k h = absurd (omega tests)
first-claims block (suc n) (suc j) k h = ap (λ (cs : List Claim). block_claim block k ∷ cs) (first-claims block n j (suc k) (omega tests))

module _ (kind : Kind) (n : ℕ) (numbers : List ℕ) where
  -- the sums of no claims, of one and more, and of some and others
  pub sum-none : (w : Window) (rows : List ℤ) → Fit rows → raised_by rows (checked_sum kind n w numbers []) ≡ rows
  unfolding checked_sum sum_over
  sum-none w rows fit = sym (raised-none rows _ fit (λ r c _ _. refl))

  pub sum-more : (w : Window) (rows : List ℤ) (c : Claim) (cs : List Claim)
      → raised_by rows (checked_sum kind n w numbers (c ∷ cs)) ≡ raised_by (raised_by rows (checked_figure kind n w numbers c)) (checked_sum kind n w numbers cs)
  unfolding checked_sum sum_over
  sum-more w rows c cs = sym (raised-twice rows (checked_figure kind n w numbers c) _)

  both-sums : (w : Window) (cs ds : List Claim) (r column : ℕ)
      → checked_sum kind n w numbers (cs ++ ds) r column ≡ checked_sum kind n w numbers cs r column +ℤ checked_sum kind n w numbers ds r column
  unfolding checked_sum sum_over
  both-sums w [] ds r column = sym (+ℤ_idl (checked_sum kind n w numbers ds r column))
  both-sums w (c ∷ cs) ds r column =
      let x = checked_figure kind n w numbers c r column in
      ap (λ (y : ℤ). x +ℤ y) (both-sums w cs ds r column)
      ∙ sym (+ℤ_assoc x (checked_sum kind n w numbers cs r column) (checked_sum kind n w numbers ds r column))

  pub sum-both : (w : Window) (rows : List ℤ) (cs ds : List Claim)
      → raised_by rows (checked_sum kind n w numbers (cs ++ ds)) ≡ raised_by (raised_by rows (checked_sum kind n w numbers cs)) (checked_sum kind n w numbers ds)
  sum-both w rows cs ds =
      raised-same rows _ _ (λ r column _ _. both-sums w cs ds r column) ∙ sym (raised-twice rows (checked_sum kind n w numbers cs) (checked_sum kind n w numbers ds))

  -- a claim of a block, and none
  pub place-more : (w : Window) (block : List ℕ) (rows after : List ℤ) (count place : ℕ) → place < count
      → after ≡ raised_by rows (checked_figure kind n w numbers (block_claim block place))
      → raised_by rows (checked_sum kind n w numbers (claims_of_block block place (count - place)))
      ≡ raised_by after (checked_sum kind n w numbers (claims_of_block block (place + 1) (count - (place + 1))))
  unfolding claims_of_block
  place-more w block rows after count place h e =
      let q : count - place ≡ suc (count - (place + 1)) = omega tests in
      let m : suc place ≡ place + 1 = omega tests in
      ap (λ (k : ℕ). raised_by rows (checked_sum kind n w numbers (claims_of_block block place k))) q
      ∙ sum-more w rows (block_claim block place) (claims_of_block block (suc place) (count - (place + 1)))
      ∙ (λ i. raised_by (sym e i) (checked_sum kind n w numbers (claims_of_block block (m i) (count - (place + 1)))))

  pub places-end : (w : Window) (block : List ℕ) (rows : List ℤ) (count place : ℕ) → Fit rows → place ≡ count
      → raised_by rows (checked_sum kind n w numbers (claims_of_block block place (count - place))) ≡ rows
  unfolding claims_of_block
  places-end w block rows count place fit e =
      let q : count - place ≡ 0 = omega tests in
      ap (λ (k : ℕ). raised_by rows (checked_sum kind n w numbers (claims_of_block block place k))) q ∙ sum-none w rows fit

  -- a block of a file, and the rest
  pub block-more : (r : FileRun) (b : List ℕ) (f : Fed kind numbers r b) (rows after : List ℤ)
      → after ≡ raised_by rows (checked_sum kind n (fed r (add kind numbers) (take 512 b)).study.window numbers (claims_of_block (take 512 b) 0 f.count))
      → raised_by rows (checked_sum kind n (fed r (add kind numbers) b).study.window numbers (taken_from kind numbers r b))
      ≡ raised_by after (checked_sum kind n (fed r (add kind numbers) b).study.window numbers (taken_from kind numbers (fed r (add kind numbers) (take 512 b)) (drop 512 b)))
  block-more r b f rows after e =
      let w = (fed r (add kind numbers) b).study.window in
      let rest = taken_from kind numbers (fed r (add kind numbers) (take 512 b)) (drop 512 b) in
      ap (λ (cs : List Claim). raised_by rows (checked_sum kind n w numbers cs))
      (f.split ∙ ap (λ (cs : List Claim). cs ++ rest) (first-claims (take 512 b) (claim_count (take 512 b)) f.count 0 f.within))
      ∙ sum-both w rows (claims_of_block (take 512 b) 0 f.count) rest
      ∙ ap (λ (v : Window). raised_by (raised_by rows (checked_sum kind n v numbers (claims_of_block (take 512 b) 0 f.count))) (checked_sum kind n w numbers rest)) f.window
      ∙ ap (λ (l : List ℤ). raised_by l (checked_sum kind n w numbers rest)) (sym e)

  pub file-end : (r : FileRun) (b : List ℕ) (w : Window) (rows : List ℤ) → Fit rows → length b ≡ 0
      → raised_by rows (checked_sum kind n w numbers (taken_from kind numbers r b)) ≡ rows
  unfolding taken_from
  file-end r b w rows fit e =
      let none : (fed r (add kind numbers) b).study.taken - r.study.taken ≡ 0 = omega (tests, ap (λ (x : FileRun). x.study.taken) (fed-none r (add kind numbers) b e)) in
      ap (λ (k : ℕ). raised_by rows (checked_sum kind n w numbers (take k (file_claims b)))) none ∙ sum-none w rows fit

  -- ---- a whole file

  -- a run over a file so far, with the bytes left and the rows so far: they come to what the run that it began with, all bytes and the first rows come to
  pub record Going (start : FileRun) (bytes : List ℕ) (rows₀ : List ℤ) (r : FileRun) (left : List ℕ) (rows : List ℤ) : Type 0 where
    pub begins : Begins kind numbers r
    pub run : fed start (add kind numbers) bytes ≡ fed r (add kind numbers) left
    pub raised : raised_by rows₀ (checked_sum kind n (fed start (add kind numbers) bytes).study.window numbers (taken_from kind numbers start bytes))
        ≡ raised_by rows (checked_sum kind n (fed start (add kind numbers) bytes).study.window numbers (taken_from kind numbers r left))

  -- one block more
  module _ (start : FileRun) (bytes : List ℕ) (rows₀ : List ℤ) (r : FileRun) (left : List ℕ) (rows : List ℤ) (g : Going start bytes rows₀ r left rows)
      (l : 0 < length left) (block : List ℕ) (is : block ≡ take 512 left) (next : FileRun) (fed-so : next ≡ fed r (add kind numbers) block) where
    split : Fed kind numbers r left
    split = fed-split kind numbers r left l g.begins

    next-so : next ≡ fed r (add kind numbers) (take 512 left)
    next-so = fed-so ∙ ap (fed r (add kind numbers)) is

    taken-so : next.study.taken ≡ r.study.taken + split.count
    taken-so = ap (λ (x : FileRun). x.study.taken) next-so ∙ split.taken

    pub taken-grows : r.study.taken ≤ next.study.taken
    taken-grows = omega (tests, taken-so)

    count-so : next.study.taken - r.study.taken ≡ split.count
    count-so = omega (tests, taken-so)

    pub block-records : (k : ℕ) → k < next.study.taken - r.study.taken → Some (block_claim block k) ≡ record_in block (16 + 32 * k)
    block-records k h = rw is (split.records k (omega (tests, count-so)))

    pub goes-on : (after : List ℤ) (rest : List ℕ) → rest ≡ drop 512 left
        → after ≡ raised_by rows (checked_sum kind n next.study.window numbers (claims_of_block block 0 (next.study.taken - r.study.taken)))
        → Going start bytes rows₀ next rest after
    goes-on after rest d e =
        let f : after ≡ raised_by rows (checked_sum kind n (fed r (add kind numbers) (take 512 left)).study.window numbers (claims_of_block (take 512 left) 0 split.count)) =
        e ∙ (λ i. raised_by rows (checked_sum kind n (next-so i).study.window numbers (claims_of_block (is i) 0 (count-so i)))) in
        let m = block-more r left split rows after f in
        let w = ap (λ (x : FileRun). x.study.window) g.run in
        subst⁻¹ (λ (x : FileRun). Going start bytes rows₀ x rest after) next-so
        (subst⁻¹ (λ (b : List ℕ). Going start bytes rows₀ (fed r (add kind numbers) (take 512 left)) b after) d
        (record {
          begins = split.begins;
          run = g.run ∙ fed-first kind numbers r left l;
          raised =
              g.raised ∙ ap (λ (v : Window). raised_by rows (checked_sum kind n v numbers (taken_from kind numbers r left))) w ∙ m
              ∙ sym (ap (λ (v : Window). raised_by after (checked_sum kind n v numbers (taken_from kind numbers (fed r (add kind numbers) (take 512 left)) (drop 512 left)))) w);
        }))

  -- before its first block, and at its end
  pub going-first : (start : FileRun) (bytes : List ℕ) (rows : List ℤ) → start ≡ started → Going start bytes rows start bytes rows
  unfolding started fresh
  going-first start bytes rows e =
      record { begins = subst⁻¹ (Begins kind numbers) e (λ u d. refl); run = refl; raised = refl }

  pub going-last : (start : FileRun) (bytes : List ℕ) (rows₀ : List ℤ) (r : FileRun) (left : List ℕ) (rows : List ℤ) → start ≡ started → Fit rows → length left ≡ 0
      → Going start bytes rows₀ r left rows
      → rows ≡ raised_by rows₀ (checked_sum kind n (window kind numbers bytes) numbers (claims kind numbers bytes))
  unfolding file_run_with
  going-last start bytes rows₀ r left rows s fit z g =
      sym (g.raised ∙ file-end r left (fed start (add kind numbers) bytes).study.window rows fit z)
      ∙ ap (λ (x : FileRun). raised_by rows₀ (checked_sum kind n (fed x (add kind numbers) bytes).study.window numbers (taken_from kind numbers x bytes))) s
      ∙ (λ i. raised_by rows₀
      (checked_sum kind n (sym (ended-study (fed started (add kind numbers) bytes)) i).window numbers (sym (taken-are kind numbers bytes) i)))

  pub run-last : (start : FileRun) (bytes : List ℕ) (rows₀ : List ℤ) (r : FileRun) (left : List ℕ) (rows : List ℤ) → start ≡ started → length left ≡ 0
      → Going start bytes rows₀ r left rows → ended r ≡ run_for kind numbers bytes
  unfolding file_run_with
  run-last start bytes rows₀ r left rows s z g =
      ap ended (sym (fed-none r (add kind numbers) left z) ∙ sym g.run ∙ ap (λ (x : FileRun). fed x (add kind numbers) bytes) s)

  -- a claim that passes has its figures, and so zeros raised by those of the claims taken are the rows
  passed : (w : Window) (c : Claim) → Passes kind numbers w c → (r column : ℕ) → checked_figure kind n w numbers c r column ≡ claim_figure kind n w numbers r column c
  unfolding checked_figure has_cell
  passed w c p r column =
      rw (eq-eqb _ 0 p.exposed, le-leb _ _ (cell-within kind numbers c.cell p.rated)) refl

  pub zeros-raised : (bytes : List ℕ) (rows : List ℤ) → length rows ≡ 8 * n → ((k : ℕ) → k < 8 * n → at rows k ≡ pos 0)
      → raised_by rows (checked_sum kind n (window kind numbers bytes) numbers (claims kind numbers bytes)) ≡ map as64 (duration_rows kind n numbers bytes)
  unfolding raised_by checked_sum duration_rows rows_over row_sum
  zeros-raised bytes rows l z =
      let w = window kind numbers bytes in
      let cs = claims kind numbers bytes in
      (λ i. table (l i) (λ k. as64 (at rows k +ℤ checked_sum kind n w numbers cs (row_at k) (column_at k))))
      ∙ table_same (8 * n) _ _
      (λ k h.
      ap (λ (x : ℤ). as64 (x +ℤ checked_sum kind n w numbers cs (row_at k) (column_at k))) (z k h)
      ∙ ap as64
      (+ℤ_idl (checked_sum kind n w numbers cs (row_at k) (column_at k))
      ∙ over-same (Passes kind numbers w) (λ c. checked_figure kind n w numbers c (row_at k) (column_at k)) (claim_figure kind n w numbers (row_at k) (column_at k))
      (λ c p. passed w c p (row_at k) (column_at k)) cs (run-passes kind numbers bytes)))
      ∙ sym (map-table as64 (8 * n) (λ k. row_sum kind n w numbers (row_at k) (column_at k) cs))

-- what is answered and stored
module _ (kind : Kind) (numbers bytes : List ℕ) (old : List ℤ) where
  pub absent-answered : has_rows (length old) ≡ false → 255 ≡ durations_answered kind numbers bytes old
  unfolding durations_answered
  absent-answered h = rw h refl

  pub absent-after : has_rows (length old) ≡ false → old ≡ durations_after kind numbers bytes old
  unfolding durations_after
  absent-after h = rw h refl

  module _ (n : ℕ) (f : Rows (length old) n) (r : FileRun) (run : r ≡ run_for kind numbers bytes) where
    pub rows-answered : r.refused ≡ durations_answered kind numbers bytes old
    unfolding durations_answered
    rows-answered = rw f.has (ap (λ (x : FileRun). x.refused) run)

    pub part_length : length (take (length old - 4) (drop 4 old)) ≡ 8 * n
    part_length = let l = f.length_so in length-take-le (length old - 4) (drop 4 old) (omega (tests, length-drop 4 old)) ∙ omega (tests, l)

    pub rows-after : (zeros rows out : List ℤ) → zeros ≡ replicate (length (take (length old - 4) (drop 4 old))) (pos 0)
        → rows ≡ raised_by zeros (checked_sum kind n (window kind numbers bytes) numbers (claims kind numbers bytes))
        → out ≡ sets (put_mid 4 (length old - 4) old rows) 0 (head_numbers r) → out ≡ durations_after kind numbers bytes old
    unfolding durations_after duration_numbers head_numbers
    rows-after zeros rows out z e o =
        let none : zeros ≡ replicate (8 * n) (pos 0) = z ∙ ap (λ (k : ℕ). replicate k (pos 0)) part_length in
        let size : length zeros ≡ 8 * n = ap length none ∙ length-replicate (8 * n) (pos 0) in
        let at-zero : (k : ℕ) → k < 8 * n → at zeros k ≡ pos 0 = λ k h. ap (λ (l : List ℤ). at l k) none ∙ get_or-replicate (8 * n) k (pos 0) (pos 0) h in
        let all : rows ≡ map as64 (duration_rows kind n numbers bytes) = e ∙ zeros-raised kind n numbers bytes zeros size at-zero in
        o ∙ head-and-rows old rows (head_numbers r) (omega (tests, f.length_so)) refl
        ∙ (λ i. head_numbers (run i) ++ all i)
        ∙ ap (λ (m : ℕ). head_numbers (run_for kind numbers bytes) ++ map as64 (duration_rows kind m numbers bytes)) f.count
        ∙ sym (ap (λ (t : Bool). pick t (head_numbers (run_for kind numbers bytes) ++ map as64 (duration_rows kind (rows_in (length old)) numbers bytes)) old) f.has)
