-- The claims that the run of a file takes: each passes the checks 1 to 8, they are at most 500,000, and the study's sums are the sums of their shares.
-- Assumes nothing.
use Rattle.std.proofs.Common.{◌≡◌, ℕ, ◌+◌, ◌-◌, ◌<◌, ◌≤◌, true, ◌&&◌, eqb, ltb, List, [], ◌∷◌, length, get_or, take, ℤ, pos, ◌+ℤ◌, sym, refl, ap, ◌∙◌, subst, ltb-true, eq-eqb, eqb-true}
use mathlib.Core.Path.{subst⁻¹}
use lib.IntN.{+ℤ_idl, +ℤ_idr, +ℤ_assoc}
use borrow.Author.Tests.{eqb-false}
use Rattle.basics.specs.Pick.{pick}
use Rattle.basics.specs.Limits.{most_claims}
use Rattle.basics.specs.Checks.{check, ◌then◌}
use Rattle.basics.proofs.Tests.{tests, by, and_left}
use Rattle.basics.proofs.Checks.{check-passed, then-passed, then_next}
use Rattle.claim_months.specs.declared.Claim.{Claim}
use Rattle.claim_months.specs.declared.Window.{Window}
use Rattle.claim_months.specs.Claim.{claim_check}
use Rattle.claim_months.specs.Windows.{window_check}
use Rattle.claim_months.specs.Span.{exposure_check}
use Rattle.rates.specs.declared.Kind.{Kind}
use Rattle.rates.specs.design.Prepared.{table_check_of}
use Rattle.study.specs.declared.Study.{Study}
use Rattle.study.specs.Sums.{none, plus, within}
use Rattle.study.specs.Study.{fresh, sum_over, has_room, room_check}
use Rattle.study.specs.design.PreparedAdding.{share_with, add_check_with, added_with}
use Rattle.study.proofs.SumOver.{All}
use Rattle.study.proofs.Algebra.{each_at, none-at}
use Rattle.claim_file.specs.Runs.{FileRun}
use Rattle.claim_file.specs.Run.{started, stops, fed, ended, file_run_with}
use Rattle.claim_file.specs.Files.{file_claims}
use Rattle.claim_file.proofs.Runs.{fed-none}
use Rattle.by_duration.specs.DurationRuns.{taken_claims, run_for}
use Rattle.by_duration.proofs.Takes.{add, Adds, takes_one, adds-taken, taken_from, fed-split}

-- the end of a run keeps its study
pub ended-study : (r : FileRun) → (ended r).study ≡ r.study
unfolding ended stops
ended-study r = by (eqb r.refused 0 && eqb r.due 0) (λ t. (pick t (stops r r.study 11 0) r).study ≡ r.study) (λ q. refl) (λ q. refl)

module _ (kind : Kind) (table : List ℕ) where
  -- what a claim passes that is taken in a window
  pub record Passes (w : Window) (c : Claim) : Type 0 where
    pub exposed : exposure_check c w.first.0 w.last.0 ≡ 0
    pub rated : table_check_of kind table c.cell ≡ 0

  -- and what is left of the limit
  checks : (s : Study) (c : Claim) → (add kind table s c).refused ≡ 0 → Passes s.window c × (s.taken < most_claims)
  unfolding added_with add_check_with exposure_check room_check has_room
  checks s c h =
      let b = s.window.first.0 in
      let e = s.window.last.0 in
      let room = check (ltb s.taken most_claims && within s.sums) 9 in
      let p = then-passed (window_check b e) (claim_check c then table_check_of kind table c.cell then room) h in
      let q = then-passed (claim_check c) (table_check_of kind table c.cell then room) p.1 in
      let r = then-passed (table_check_of kind table c.cell) room q.1 in
      let t = check-passed (ltb s.taken most_claims && within s.sums) 9 (omega tests) r.1 in (
        record { exposed = then_next (window_check b e) (claim_check c) p.0 ∙ q.0; rated = r.0 },
        ltb-true s.taken most_claims (and_left (ltb s.taken most_claims) (within s.sums) t),
      )

  adds-pass : (w : Window) (cs : List Claim) (s t : Study) → s.window ≡ w → Adds kind table s cs t → All (Passes w) cs
  adds-pass w [] s t e a = tt
  adds-pass w (c ∷ cs) s t e a =
      (subst (λ (v : Window). Passes v c) e (checks s c a.0).0, adds-pass w cs (add kind table s c).study t ((takes_one kind table s c a.0).1 ∙ e) a.1)

  pub adds-limit : (cs : List Claim) (s t : Study) → Adds kind table s cs t → s.taken ≤ most_claims → t.taken ≤ most_claims
  adds-limit [] s t a h = let e = ap (λ (x : Study). x.taken) a in omega tests
  adds-limit (c ∷ cs) s t a h =
      adds-limit cs (add kind table s c).study t a.1 (let e = (takes_one kind table s c a.0).0 in let l = (checks s c a.0).1 in omega tests)

  -- the sums of their shares
  abbrev pub shares_at : Window → ℕ → List Claim → ℤ
  shares_at w k = sum_over ◌+ℤ◌ (pos 0) (λ c. get_or (share_with kind w table c) k (pos 0))

  one-share : (s : Study) (c : Claim) → (add kind table s c).refused ≡ 0 → (add kind table s c).study.sums ≡ plus s.sums (share_with kind s.window table c)
  unfolding added_with
  one-share s c h = rw (eq-eqb (add_check_with kind s c table) 0 h) refl

  adds-shares : (w : Window) (k : ℕ) → k < 80 → (cs : List Claim) (s t : Study) → s.window ≡ w → Adds kind table s cs t
      → get_or t.sums k (pos 0) ≡ get_or s.sums k (pos 0) +ℤ shares_at w k cs
  unfolding sum_over
  adds-shares w k l [] s t e a = ap (λ (x : Study). get_or x.sums k (pos 0)) a ∙ sym (+ℤ_idr (get_or s.sums k (pos 0)))
  adds-shares w k l (c ∷ cs) s t e a =
      let x = get_or s.sums k (pos 0) in
      let y = get_or (share_with kind w table c) k (pos 0) in
      adds-shares w k l cs (add kind table s c).study t ((takes_one kind table s c a.0).1 ∙ e) a.1
      ∙ ap (λ (z : ℤ). z +ℤ shares_at w k cs)
      (ap (λ (xs : List ℤ). get_or xs k (pos 0)) (one-share s c a.0) ∙ each_at ◌+ℤ◌ s.sums (share_with kind s.window table c) k l
      ∙ ap (λ (v : Window). x +ℤ get_or (share_with kind v table c) k (pos 0)) e)
      ∙ +ℤ_assoc x y (shares_at w k cs)

  -- ---- a whole file

  module _ (bytes : List ℕ) where
    abbrev last : FileRun
    last = fed started (add kind table) bytes

    begins-fresh : started.study ≡ fresh started.study.window
    unfolding started fresh
    begins-fresh = refl

    begins-due : started.due ≡ 0
    unfolding started
    begins-due = refl

    begins-none : started.study.taken ≡ 0
    unfolding started fresh
    begins-none = refl

    fed-adds : Adds kind table (fresh last.study.window) (taken_from kind table started bytes) last.study
    unfolding taken_from
    fed-adds =
        by (eqb (length bytes) 0) (λ _. Adds kind table (fresh last.study.window) (take (last.study.taken - started.study.taken) (file_claims bytes)) last.study)
        (λ q.
        let z : started.study.taken - started.study.taken ≡ 0 = omega tests in
        subst⁻¹ (λ (x : FileRun). Adds kind table (fresh x.study.window) (take (x.study.taken - started.study.taken) (file_claims bytes)) x.study)
        (fed-none started (add kind table) bytes (eqb-true (length bytes) 0 q))
        (subst⁻¹ (λ (m : ℕ). Adds kind table (fresh started.study.window) (take m (file_claims bytes)) started.study) z begins-fresh))
        (λ q.
        let some = eqb-false (length bytes) 0 q in
        (fed-split kind table started bytes (omega (tests, some)) (λ u d. begins-fresh)).adds begins-due begins-fresh)

    -- its run, with the claims taken
    pub taken-are : taken_claims bytes (run_for kind table bytes) ≡ taken_from kind table started bytes
    unfolding taken_claims taken_from file_run_with
    taken-are =
        let e : (run_for kind table bytes).study.taken ≡ last.study.taken - started.study.taken =
        omega (tests, ap (λ (s : Study). s.taken) (ended-study last), begins-none) in
        ap (λ (m : ℕ). take m (file_claims bytes)) e

    pub run-adds : Adds kind table (fresh (run_for kind table bytes).study.window) (taken_claims bytes (run_for kind table bytes)) (run_for kind table bytes).study
    unfolding file_run_with
    run-adds =
        subst⁻¹ (λ (cs : List Claim). Adds kind table (fresh (run_for kind table bytes).study.window) cs (run_for kind table bytes).study) taken-are
        (subst⁻¹ (λ (s : Study). Adds kind table (fresh s.window) (taken_from kind table started bytes) s) (ended-study last) fed-adds)

    abbrev pub claims : List Claim
    claims = taken_claims bytes (run_for kind table bytes)

    abbrev pub window : Window
    window = (run_for kind table bytes).study.window

    pub run-passes : All (Passes window) claims
    unfolding fresh
    run-passes = adds-pass window claims (fresh window) (run_for kind table bytes).study refl run-adds

    pub run-limit : length claims ≤ most_claims
    unfolding fresh
    run-limit =
        let n = adds-taken kind table (fresh window) (run_for kind table bytes).study claims run-adds in
        let l = adds-limit claims (fresh window) (run_for kind table bytes).study run-adds (omega tests) in
        omega tests

    pub run-shares : (k : ℕ) → k < 80 → get_or (run_for kind table bytes).study.sums k (pos 0) ≡ shares_at window k claims
    unfolding fresh
    run-shares k l =
        adds-shares window k l claims (fresh window) (run_for kind table bytes).study refl run-adds
        ∙ ap (λ (z : ℤ). z +ℤ shares_at window k claims) (none-at k l) ∙ +ℤ_idl (shares_at window k claims)
