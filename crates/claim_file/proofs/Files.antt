-- Demand 3 for files, the proof. Behind block 0 a run's course doesn't depend on its window: it is that of a plain run, which keeps the list of
-- the claims taken in place of their study.
-- Assumes nothing.
use Prim.Native.Nat.{ℕ, zero, suc, ◌+◌, ◌/◌, ◌%◌, ◌≤◌}
use mathlib.Core.Path.{◌≡◌, refl, sym, ap, ◌∙◌}
use mathlib.Core.Bool.{true, ◌&&◌, and-false}
use mathlib.Core.List.{List, [], ◌∷◌, ◌++◌}
use lib.ListN.{length, take, drop}
use lib.Seq.{take_all}
use lib.Dec.{ltb, eqb}
use borrow.Author.Tests.{eqb-true, eqb-false, ne_eqb}
use Rattle.basics.specs.Pick.{pick}
use Rattle.basics.proofs.Tests.{tests, by}
use Rattle.calendar.specs.declared.Date.{Date}
use Rattle.calendar.specs.Calendar.{is_date}
use Rattle.calendar.proofs.Laws.{date-bounds, length_high}
use Rattle.claim_months.specs.declared.Claim.{Claim}
use Rattle.claim_months.specs.declared.Window.{Window}
use Rattle.claim_months.specs.Windows.{window_sound, dates_window}
use Rattle.claim_months.proofs.DateWindows.{dates-sound, both-dates}
use Rattle.claim_months.proofs.Parts.{parts-map, parts-every, every_map}
use Rattle.study.specs.Answers.{Answer}
use Rattle.study.specs.Study.{sum_over, study_of, fresh, opened}
use Rattle.study.proofs.SumOver.{All, Commutes, good-sum, sum-append}
use Rattle.study.proofs.Capacity.{Accepted}
use Rattle.study.proofs.Built.{number_after, added-after, zero-accepted, fresh-built, study-same}
use Rattle.study.proofs.Totals.{built-total}
use Rattle.study.proofs.Demand3.{opens-window}
use Rattle.claim_file.specs.declared.WindowDates.{WindowDates}
use Rattle.claim_file.specs.Runs.{FileRun}
use Rattle.claim_file.specs.Block.{block_claim, claim_count, block_sound, window_bytes}
use Rattle.claim_file.specs.Run.{adding, started, begun, going_on, stops, claims_from, block_fed, blocks_fed, part_fed, fed, ended, file_run_with}
use Rattle.claim_file.specs.Files.{run_of, claims_of_block, claims_of_blocks, file_claims, Accepts, window_days, SameEnd, HasStudy, FilesDemand3}
use Rattle.claim_file.specs.RoundTrip.{DateFits}
use Rattle.claim_file.proofs.BlockTests.{window_block-length}
use Rattle.claim_file.proofs.BlockTrips.{window-sound, window-first, window-last}
use Rattle.claim_file.proofs.Runs.{sound}
use Rattle.claim_file.proofs.FedInPieces.{fed-in-pieces}

-- a run without its window
pub record Plain : Type 0 where
  pub claims : List Claim
  pub due : ℕ
  pub refused : ℕ
  pub block : ℕ
  pub place : ℕ

abbrev pub plain : List Claim → ℕ → ℕ → ℕ → ℕ → Plain
plain cs due number block place = record { claims = cs; due = due; refused = number; block = block; place = place }

abbrev pub go_on : Plain → List Claim → Plain
go_on p cs = plain cs (p.due + 1) 0 0 0

abbrev pub stop : Plain → List Claim → ℕ → ℕ → Plain
stop p cs number place = plain cs p.due number p.due place

module _ (rates : List ℕ) where
  unfoldable pub plain_claims : Plain → List Claim → List ℕ → ℕ → ℕ → Plain
  plain_claims p cs bytes k zero = go_on p cs
  plain_claims p cs bytes k (suc n) =
      pick (eqb (number_after rates cs (block_claim bytes k)) 0) (plain_claims p (block_claim bytes k ∷ cs) bytes (suc k) n)
      (stop p cs (number_after rates cs (block_claim bytes k)) (suc k))

  unfoldable pub plain_block : Plain → List ℕ → Plain
  plain_block p bytes =
      pick (block_sound p.due bytes) (plain_claims p p.claims bytes 0 (claim_count bytes)) (stop p p.claims 11 0)

  unfoldable pub plain_blocks : Plain → List ℕ → ℕ → Plain
  plain_blocks p bytes zero = p
  plain_blocks p bytes (suc n) = pick (eqb p.refused 0) (plain_blocks (plain_block p (take 512 bytes)) (drop 512 bytes) n) p

  unfoldable pub fed_plain : Plain → List ℕ → Plain
  fed_plain p bytes =
      let q = plain_blocks p bytes (length bytes / 512) in
      pick (eqb q.refused 0 && ltb 0 (length bytes % 512)) (stop q q.claims 11 0) q

  -- its claims are accepted ones, and block 0 is behind it
  record Good (p : Plain) : Type 0 where
    accepted : All (Accepted rates) p.claims
    behind : 1 ≤ p.due

  claims-good : (p : Plain) (cs : List Claim) (bytes : List ℕ) (n k : ℕ) → 1 ≤ p.due → All (Accepted rates) cs → Good (plain_claims p cs bytes k n)
  unfolding plain_claims
  claims-good p cs bytes zero k d a = record { accepted = a; behind = omega tests }
  claims-good p cs bytes (suc n) k d a =
      let c = block_claim bytes k in
      by (eqb (number_after rates cs c) 0) (λ y. Good (pick y (plain_claims p (c ∷ cs) bytes (suc k) n) (stop p cs (number_after rates cs c) (suc k))))
      (λ q. claims-good p (c ∷ cs) bytes n (suc k) d (zero-accepted rates cs c (eqb-true (number_after rates cs c) 0 q), a))
      (λ q. record { accepted = a; behind = d })

  block-good : (p : Plain) (bytes : List ℕ) → Good p → Good (plain_block p bytes)
  unfolding plain_block
  block-good p bytes g =
      by (block_sound p.due bytes) (λ y. Good (pick y (plain_claims p p.claims bytes 0 (claim_count bytes)) (stop p p.claims 11 0)))
      (λ q. claims-good p p.claims bytes (claim_count bytes) 0 g.behind g.accepted) (λ q. record { accepted = g.accepted; behind = g.behind })

  blocks-good : (n : ℕ) (p : Plain) (bytes : List ℕ) → Good p → Good (plain_blocks p bytes n)
  unfolding plain_blocks
  blocks-good zero p bytes g = g
  blocks-good (suc n) p bytes g =
      by (eqb p.refused 0) (λ y. Good (pick y (plain_blocks (plain_block p (take 512 bytes)) (drop 512 bytes) n) p))
      (λ q. blocks-good n (plain_block p (take 512 bytes)) (drop 512 bytes) (block-good p (take 512 bytes) g)) (λ q. g)

  fed-good : (p : Plain) (bytes : List ℕ) → Good p → Good (fed_plain p bytes)
  unfolding fed_plain
  fed-good p bytes g =
      let q = plain_blocks p bytes (length bytes / 512) in
      let h = blocks-good (length bytes / 512) p bytes g in
      by (eqb q.refused 0 && ltb 0 (length bytes % 512)) (λ y. Good (pick y (stop q q.claims 11 0) q))
      (λ u. record { accepted = h.accepted; behind = h.behind }) (λ u. h)

  -- the claims that a plain run which isn't refused has taken: any sum over them is that over the claims of the bytes and of those before
  module _ {A : Type 0} (add : A → A → A) (zero-sum : A) (GoodSum : A → Type 0) (laws : Commutes add zero-sum GoodSum) (f : Claim → A) (good : (c : Claim) → GoodSum (f c)) where
    abbrev sum_of : List Claim → A
    sum_of = sum_over add zero-sum f

    claims-sum : (p : Plain) (bytes : List ℕ) (n k : ℕ) (cs : List Claim) → (plain_claims p cs bytes k n).refused ≡ 0
        → sum_of (plain_claims p cs bytes k n).claims ≡ add (sum_of (claims_of_block bytes k n)) (sum_of cs)
    unfolding plain_claims claims_of_block sum_over
    claims-sum p bytes zero k cs h = sym (laws.left (sum_of cs) (good-sum add zero-sum GoodSum laws rates f good cs))
    claims-sum p bytes (suc n) k cs h₀ =
        let c = block_claim bytes k in
        let m = number_after rates cs c in
        by (eqb m 0)
        (λ y. (pick y (plain_claims p (c ∷ cs) bytes (suc k) n) (stop p cs m (suc k))).refused ≡ 0
        → sum_of (pick y (plain_claims p (c ∷ cs) bytes (suc k) n) (stop p cs m (suc k))).claims ≡ add (add (f c) (sum_of (claims_of_block bytes (suc k) n))) (sum_of cs))
        (λ q h.
        claims-sum p bytes n (suc k) (c ∷ cs) h ∙ sym (laws.assoc (sum_of (claims_of_block bytes (suc k) n)) (f c) (sum_of cs))
        ∙ ap (λ (x : A). add x (sum_of cs)) (laws.comm (sum_of (claims_of_block bytes (suc k) n)) (f c)))
        (λ q h. absurd (eqb-false m 0 q h)) h₀

    block-sum : (p : Plain) (bytes : List ℕ) → (plain_block p bytes).refused ≡ 0
        → sum_of (plain_block p bytes).claims ≡ add (sum_of (claims_of_block bytes 0 (claim_count bytes))) (sum_of p.claims)
    unfolding plain_block
    block-sum p bytes =
        by (block_sound p.due bytes)
        (λ y. (pick y (plain_claims p p.claims bytes 0 (claim_count bytes)) (stop p p.claims 11 0)).refused ≡ 0
        → sum_of (pick y (plain_claims p p.claims bytes 0 (claim_count bytes)) (stop p p.claims 11 0)).claims
        ≡ add (sum_of (claims_of_block bytes 0 (claim_count bytes))) (sum_of p.claims))
        (λ q h. claims-sum p bytes (claim_count bytes) 0 p.claims h) (λ q h. absurd (omega tests))

    -- a run refused before some blocks is refused after them
    still-refused : (n : ℕ) (p : Plain) (bytes : List ℕ) → (plain_blocks p bytes n).refused ≡ 0 → p.refused ≡ 0
    unfolding plain_blocks
    still-refused zero p bytes h = h
    still-refused (suc n) p bytes h₀ =
        by (eqb p.refused 0) (λ y. (pick y (plain_blocks (plain_block p (take 512 bytes)) (drop 512 bytes) n) p).refused ≡ 0 → p.refused ≡ 0)
        (λ q h. eqb-true p.refused 0 q) (λ q h. h) h₀

    blocks-sum : (n : ℕ) (p : Plain) (bytes : List ℕ) → (plain_blocks p bytes n).refused ≡ 0
        → sum_of (plain_blocks p bytes n).claims ≡ add (sum_of (claims_of_blocks bytes n)) (sum_of p.claims)
    unfolding plain_blocks claims_of_blocks sum_over
    blocks-sum zero p bytes h = sym (laws.left (sum_of p.claims) (good-sum add zero-sum GoodSum laws rates f good p.claims))
    blocks-sum (suc n) p bytes h₀ =
        let q = plain_block p (take 512 bytes) in
        let here = claims_of_block (take 512 bytes) 0 (claim_count (take 512 bytes)) in
        let later = claims_of_blocks (drop 512 bytes) n in
        by (eqb p.refused 0)
        (λ y. (pick y (plain_blocks q (drop 512 bytes) n) p).refused ≡ 0 → sum_of (pick y (plain_blocks q (drop 512 bytes) n) p).claims ≡ add (sum_of (here ++ later)) (sum_of p.claims))
        (λ u h.
        blocks-sum n q (drop 512 bytes) h
        ∙ ap (add (sum_of later)) (block-sum p (take 512 bytes) (still-refused n q (drop 512 bytes) h))
        ∙ sym (laws.assoc (sum_of later) (sum_of here) (sum_of p.claims))
        ∙ ap (λ (x : A). add x (sum_of p.claims)) (laws.comm (sum_of later) (sum_of here) ∙ sym (sum-append add zero-sum GoodSum laws rates f good here later)))
        (λ u h. absurd (eqb-false p.refused 0 u h)) h₀

    -- the claims of a whole file
    fed-sum : (p : Plain) (bytes : List ℕ) → p.claims ≡ [] → (fed_plain p bytes).refused ≡ 0 → sum_of (fed_plain p bytes).claims ≡ sum_of (file_claims bytes)
    unfolding fed_plain file_claims sum_over
    fed-sum p bytes e =
        let q = plain_blocks p bytes (length bytes / 512) in
        by (eqb q.refused 0 && ltb 0 (length bytes % 512))
        (λ y. (pick y (stop q q.claims 11 0) q).refused ≡ 0 → sum_of (pick y (stop q q.claims 11 0) q).claims ≡ sum_of (claims_of_blocks bytes (length bytes / 512)))
        (λ u h. absurd (omega tests))
        (λ u h.
        blocks-sum (length bytes / 512) p bytes h
        ∙ ap (λ (cs : List Claim). add (sum_of (claims_of_blocks bytes (length bytes / 512))) (sum_of cs)) e
        ∙ laws.comm (sum_of (claims_of_blocks bytes (length bytes / 512))) zero-sum
        ∙ laws.left _ (good-sum add zero-sum GoodSum laws rates f good (claims_of_blocks bytes (length bytes / 512))))

  -- the run of a window with a plain run's course
  module _ (w : Window) (ok : window_sound w.first.0 w.last.0 ≡ true) where
    unfoldable pub with_study : Plain → FileRun
    with_study p = record { study = study_of w rates p.claims; due = p.due; refused = p.refused; block = p.block; place = p.place }

    claims-plain : (p : Plain) (bytes : List ℕ) (n k : ℕ) (cs : List Claim) → All (Accepted rates) cs
        → claims_from (with_study p) (study_of w rates cs) (adding rates) bytes k n ≡ with_study (plain_claims p cs bytes k n)
    unfolding claims_from plain_claims going_on stops with_study
    claims-plain p bytes zero k cs a = refl
    claims-plain p bytes (suc n) k cs a =
        let c = block_claim bytes k in
        let r = with_study p in
        let m = number_after rates cs c in
        ap (λ (x : Answer). pick (eqb x.refused 0) (claims_from r x.study (adding rates) bytes (suc k) n) (stops r x.study x.refused (suc k)))
        (added-after w rates ok cs c a)
        ∙ by (eqb m 0)
        (λ y. pick y (claims_from r (study_of w rates (pick y (c ∷ cs) cs)) (adding rates) bytes (suc k) n) (stops r (study_of w rates (pick y (c ∷ cs) cs)) m (suc k))
        ≡ with_study (pick y (plain_claims p (c ∷ cs) bytes (suc k) n) (stop p cs m (suc k))))
        (λ q. claims-plain p bytes n (suc k) (c ∷ cs) (zero-accepted rates cs c (eqb-true m 0 q), a)) (λ q. refl)

    block-plain : (p : Plain) (bytes : List ℕ) → Good p → block_fed (with_study p) (adding rates) bytes ≡ with_study (plain_block p bytes)
    unfolding block_fed begun plain_block stops with_study
    block-plain p bytes g =
        let step : Answer → FileRun =
        λ a. pick (eqb a.refused 0) (claims_from (with_study p) a.study (adding rates) bytes 0 (claim_count bytes)) (stops (with_study p) a.study a.refused 0) in
        rw (ne_eqb p.due 0 (λ q. omega (tests, g.behind)))
        (by (block_sound p.due bytes)
        (λ y.
        step (pick {A = Answer} y (record { refused = 0; study = study_of w rates p.claims }) (record { refused = 11; study = study_of w rates p.claims }))
        ≡ with_study (pick y (plain_claims p p.claims bytes 0 (claim_count bytes)) (stop p p.claims 11 0)))
        (λ q. claims-plain p bytes (claim_count bytes) 0 p.claims g.accepted) (λ q. refl))

    blocks-plain : (n : ℕ) (p : Plain) (bytes : List ℕ) → Good p → blocks_fed (with_study p) (adding rates) bytes n ≡ with_study (plain_blocks p bytes n)
    unfolding blocks_fed plain_blocks with_study
    blocks-plain zero p bytes g = refl
    blocks-plain (suc n) p bytes g =
        by (eqb p.refused 0)
        (λ y. pick y (blocks_fed (block_fed (with_study p) (adding rates) (take 512 bytes)) (adding rates) (drop 512 bytes) n) (with_study p)
        ≡ with_study (pick y (plain_blocks (plain_block p (take 512 bytes)) (drop 512 bytes) n) p))
        (λ q.
        ap (λ (r : FileRun). blocks_fed r (adding rates) (drop 512 bytes) n) (block-plain p (take 512 bytes) g)
        ∙ blocks-plain n (plain_block p (take 512 bytes)) (drop 512 bytes) (block-good p (take 512 bytes) g))
        (λ q. refl)

    fed-plain : (p : Plain) (bytes : List ℕ) → Good p → fed (with_study p) (adding rates) bytes ≡ with_study (fed_plain p bytes)
    unfolding fed part_fed fed_plain stops with_study
    fed-plain p bytes g =
        let q = plain_blocks p bytes (length bytes / 512) in
        let t = eqb q.refused 0 && ltb 0 (length bytes % 512) in
        ap (λ (r : FileRun). part_fed r (length bytes % 512)) (blocks-plain (length bytes / 512) p bytes g)
        ∙ by t (λ y. pick y (stops (with_study q) (study_of w rates q.claims) 11 0) (with_study q) ≡ with_study (pick y (stop q q.claims 11 0) q)) (λ u. refl) (λ u. refl)

    ended-plain : (p : Plain) → Good p → ended (with_study p) ≡ with_study p
    unfolding ended with_study
    ended-plain p g = rw (ne_eqb p.due 0 (λ q. omega (tests, g.behind)), and-false)

-- a date of the calendar fits the file's widths
pub date-fits : (d : Date) → is_date d ≡ true → DateFits d
date-fits d h =
    let r = date-bounds d h in
    let l = length_high d.year d.month in
    record { year_fits = omega tests; month_fits = omega tests; day_fits = omega tests }

pub window-length : (b e : Date) → length (window_bytes b e) ≡ 512
window-length b e = window_block-length (window_bytes b e) (window-sound b e)

-- what block 0 of an accepted window leaves: a fresh study, and block 1 due
abbrev pub first : Plain
first = plain [] 1 0 0 0

module _ (rates : List ℕ) (w : WindowDates) (ok : Accepts w) where
  pub opens : (dates_window w.first w.last ≡ true) × ((opened w.first w.last).study ≡ fresh (window_days w))
  opens = opens-window w.first w.last ok

  pub sound-days : window_sound (window_days w).first.0 (window_days w).last.0 ≡ true
  sound-days = dates-sound w.first w.last opens.0

  window-block : block_fed started (adding rates) (window_bytes w.first w.last) ≡ with_study rates (window_days w) sound-days first
  unfolding block_fed begun block_sound claims_from going_on started with_study
  window-block =
      let d = both-dates w.first w.last opens.0 in
      let n : claim_count (window_bytes w.first w.last) ≡ 0 = (sound 0 (window_bytes w.first w.last) (window-sound w.first w.last)).none_so refl in
      rw (
        window-sound w.first w.last,
        window-first w.first w.last (date-fits w.first d.0),
        window-last w.first w.last (date-fits w.last d.1),
        ok,
        n,
        opens.1,
        fresh-built (window_days w) rates,
      )

  window-fed : fed started (adding rates) (window_bytes w.first w.last) ≡ with_study rates (window_days w) sound-days first
  unfolding fed blocks_fed part_fed started with_study
  window-fed =
      let n = window-length w.first w.last in
      rw (n, take_all 512 (window_bytes w.first w.last) (omega tests), window-block)

  pub run-plain : (rest : List ℕ) → run_of rates rest w ≡ with_study rates (window_days w) sound-days (fed_plain rates first rest)
  unfolding run_of file_run_with
  run-plain rest =
      let g : Good rates first = record { accepted = tt; behind = omega tests } in
      ap ended
      (sym (fed-in-pieces started (adding rates) (window_bytes w.first w.last) rest (ap (λ (x : ℕ). x % 512) (window-length w.first w.last)))
      ∙ ap (λ (r : FileRun). fed r (adding rates) rest) window-fed ∙ fed-plain rates (window_days w) sound-days first rest g)
      ∙ ended-plain rates (window_days w) sound-days (fed_plain rates first rest) (fed-good rates first rest g)

  -- not refused, its study is that of the file's claims
  has-study : (rest : List ℕ) → HasStudy rates rest w
  unfolding with_study study_of
  has-study rest z =
      let p = fed_plain rates first rest in
      let e = run-plain rest in
      let h : p.refused ≡ 0 = sym (ap (λ (r : FileRun). r.refused) e) ∙ z in
      ap (λ (r : FileRun). r.study) e
      ∙ study-same (window_days w) rates p.claims (file_claims rest) (λ A add z GoodSum laws f good. fed-sum rates add z GoodSum laws f good first rest refl h)

-- what runs of two windows share: all that the plain run has
run-shares : {A : Type 0} (rates rest : List ℕ) (v w : WindowDates) (k : Accepts v) (ok : Accepts w) (f : FileRun → A)
    → f (with_study rates (window_days v) (sound-days rates v k) (fed_plain rates first rest)) ≡ f (with_study rates (window_days w) (sound-days rates w ok) (fed_plain rates first rest))
    → f (run_of rates rest v) ≡ f (run_of rates rest w)
run-shares rates rest v w k ok f q = ap f (run-plain rates v k rest) ∙ q ∙ sym (ap f (run-plain rates w ok rest))

same_end : (rates rest : List ℕ) (v w : WindowDates) → Accepts v → Accepts w → SameEnd (run_of rates rest v) (run_of rates rest w)
unfolding with_study study_of
same_end rates rest v w k ok =
    record {
      number = run-shares rates rest v w k ok (λ (r : FileRun). r.refused) refl;
      block = run-shares rates rest v w k ok (λ (r : FileRun). r.block) refl;
      place = run-shares rates rest v w k ok (λ (r : FileRun). r.place) refl;
      taken = run-shares rates rest v w k ok (λ (r : FileRun). r.study.taken) refl;
    }

pub files-demand-3 : FilesDemand3
unfolding with_study
files-demand-3 rates rest whole part parts ok ps =
    let b = (window_days whole).first.0 in
    let e = (window_days whole).last.0 in
    let o = parts-every Accepts window_days b e part parts ps in
    let p = fed_plain rates first rest in
    let g = fed-good rates first rest (record { accepted = tt; behind = omega tests }) in
    let t =
    built-total window_days (λ w. (run_of rates rest w).study) rates p.claims g.accepted whole part parts
    (parts-map _ _ window_days (λ w k. sound-days rates w k) b e part parts ps) (ap (λ (r : FileRun). r.study) (run-plain rates whole ok rest))
    (every_map _ _ (λ w k. ap (λ (r : FileRun). r.study) (run-plain rates w k rest)) part parts o) in
    record {
      same_end = every_map _ _ (λ w k. same_end rates rest w whole k ok) part parts o;
      sums = t;
      whole_study = has-study rates whole ok rest;
      part_studies = every_map _ _ (λ w k. has-study rates w k rest) part parts o;
    }
