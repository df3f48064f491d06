-- The lines of a run are what it prints; and each is put by one of the three functions.
-- Assumes nothing.
use Prim.Native.Nat.{ℕ, ◌≤◌, ◌<◌}
use mathlib.Core.Path.{◌≡◌, refl, sym, ap, ◌∙◌}
use mathlib.Core.Bool.{Bool, false}
use mathlib.Core.List.{List, [], ◌++◌, append-nil}
use lib.Dec.{leb, eqb}
use lib.IntN.{ℤ}
use native.Mathlib.Omega.{arith}
use borrow.Author.Tests.{le-leb, lt-leb, ne_eqb}
use Rattle.std.specs.Prelude.{Option, Some, None}
use Rattle.basics.specs.Pick.{pick}
use Rattle.basics.proofs.Tests.{by}
use Rattle.claim_file.specs.design.LentRuns.{with_sums}
use Rattle.claim_file.specs.declared.LentRun.{LentRun}
use Rattle.claim_file.specs.declared.Stop.{Stop}
use Rattle.basics.specs.Refused.{number_of}
use Rattle.basics.specs.declared.refusal.Refusal.{Refusal}
use Rattle.basics.proofs.Refused.{numbered-from-1}
use Rattle.report.specs.Text.{table_head, table_text, group_line, refusal_line, run_text, run_line}
use Rattle.report.specs.RunLines.{RunLines}

pub run-lines : RunLines
unfolding RunLines run_text run_line table_text
run-lines r =
    let line : Bool → ℕ → List ℕ =
    λ t k. pick t (pick (eqb k 0) table_head (pick (leb k 5) (group_line r.study.sums k) [])) (pick (eqb k 0) (refusal_line r.refused r.block r.place) []) in
    by (eqb r.refused 0)
    (λ t. pick t (table_text r.study.sums) (refusal_line r.refused r.block r.place) ≡ line t 0 ++ (line t 1 ++ (line t 2 ++ (line t 3 ++ (line t 4 ++ line t 5)))))
    (λ q. refl) (λ q. sym (append-nil (refusal_line r.refused r.block r.place)))

-- a refusal's number is none of a run that goes on
refused : (r : Refusal) → eqb (number_of r) 0 ≡ false
refused r = ne_eqb (number_of r) 0 (λ e. omega (arith, e, numbered-from-1 r))

-- which line a run has at a place: of one that stopped, and of one that went on
module _ (run : LentRun) (sums : List ℤ) (k : ℕ) where
  abbrev line : Option Stop → List ℕ
  line stop = run_line (with_sums (record run { stop = stop }) sums) k

  module _ (s : Stop) (e : run.stop ≡ Some s) where
    pub stopped-line : (n : ℕ) → n ≡ number_of s.refusal → k ≡ 0 → refusal_line n s.block s.place ≡ run_line (with_sums run sums) k
    unfolding run_line with_sums
    stopped-line n p z = ap (λ (m : ℕ). refusal_line m s.block s.place) p ∙ sym (ap line e ∙ rw (z, refused s.refusal) refl)

    pub stopped_none : (k ≡ 0 → ⊥) → [] ≡ run_line (with_sums run sums) k
    unfolding run_line with_sums
    stopped_none z = sym (ap line e ∙ rw (refused s.refusal, ne_eqb k 0 z) refl)

  module _ (e : run.stop ≡ None) where
    pub head-line : k ≡ 0 → table_head ≡ run_line (with_sums run sums) k
    unfolding run_line with_sums
    head-line z = sym (ap line e ∙ rw z refl)

    pub past-line : 5 < k → [] ≡ run_line (with_sums run sums) k
    unfolding run_line with_sums
    past-line z = sym (ap line e ∙ rw (ne_eqb k 0 (λ q. omega arith), lt-leb k 5 z) refl)

    pub group-line : (k ≡ 0 → ⊥) → k ≤ 5 → group_line sums k ≡ run_line (with_sums run sums) k
    unfolding run_line with_sums
    group-line z h = sym (ap line e ∙ rw (ne_eqb k 0 z, le-leb k 5 h) refl)
