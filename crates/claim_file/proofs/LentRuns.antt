-- A run whose sums are lent, as the code's loops go: what begins a block, and some bytes by what begins their first block and by its claims.
-- Assumes nothing.
use Prim.Native.Nat.{ℕ, ◌<◌}
use mathlib.Core.Path.{◌≡◌, refl, sym, ap, ◌∙◌}
use mathlib.Core.Bool.{Bool, true, false}
use mathlib.Core.List.{List}
use lib.ListN.{length, take, drop}
use lib.Dec.{eqb}
use lib.IntN.{ℤ}
use borrow.Author.Tests.{eq-eqb, eqb-true, eqb-false}
use Rattle.basics.specs.Pick.{pick}
use Rattle.basics.specs.declared.refusal.Refusal.{Refusal}
use Rattle.basics.specs.Refused.{number_of}
use Rattle.basics.proofs.Tests.{by}
use Rattle.claim_months.specs.Windows.{window_in}
use Rattle.claim_months.proofs.DateWindows.{window-refused}
use Rattle.study.specs.Answers.{Answer}
use Rattle.study.specs.Study.{fresh, first_day_alone, opened_with, opened}
use Rattle.study.specs.design.PreparedAdding.{lent_study}
use Rattle.claim_file.specs.Runs.{FileRun}
use Rattle.claim_file.specs.declared.LentRun.{LentRun}
use Rattle.claim_file.specs.Bytes.{date_from}
use Rattle.claim_file.specs.Block.{claim_count, block_sound}
use Rattle.claim_file.specs.Run.{Adding, begun, going_on, stops, claims_from, block_fed, fed}
use Rattle.claim_file.specs.design.LentRuns.{with_sums}
use Rattle.claim_file.specs.design.Private.{block_begun, lent_stops, lent_goes_on}
use Rattle.claim_file.proofs.Runs.{begun-sound, claims-due, fed-refused, fed-turn}
use Rattle.std.specs.Prelude.{Err}

-- what begins block 0 where its window is refused
pub begun-no-window : (r : FileRun) (bytes : List ℕ) → block_sound r.due bytes ≡ true → r.due ≡ 0 → (n : ℕ)
    → Err n ≡ window_in (date_from bytes 16) (date_from bytes 20) → stops r (fresh first_day_alone) n 0 ≡ block_begun r bytes
unfolding block_begun begun opened opened_with
begun-no-window r bytes e z n k = rw (e, eq-eqb _ _ z, ← k, (window-refused _ _ n k).1)

-- a block begun by an answer, as the test of the number refused comes out
abbrev begins : FileRun → Answer → Bool → FileRun
begins r a t = pick t (record { study = a.study; due = r.due; refused = 0; block = r.block; place = r.place }) (stops r a.study a.refused 0)

abbrev feeds : FileRun → Adding → List ℕ → Answer → Bool → FileRun
feeds r add bytes a t = pick t (claims_from r a.study add bytes 0 (claim_count bytes)) (stops r a.study a.refused 0)

-- a block that was begun: refused, or its claims taken
module _ (r : FileRun) (add : Adding) (bytes : List ℕ) (x : FileRun) (q : x ≡ block_begun r bytes) where
  abbrev answer : Answer
  answer = begun r.study r.due bytes

  begun-is : (t : Bool) → eqb answer.refused 0 ≡ t → x ≡ begins r answer t
  unfolding block_begun
  begun-is t e = q ∙ ap (begins r answer) e

  fed-is : (t : Bool) → eqb answer.refused 0 ≡ t → block_fed r add bytes ≡ feeds r add bytes answer t
  unfolding block_fed
  fed-is t e = ap (feeds r add bytes answer) e

  begun-refused : (x.refused ≡ 0 → ⊥) → x ≡ block_fed r add bytes
  begun-refused h =
      by (eqb answer.refused 0) (λ t. eqb answer.refused 0 ≡ t → x ≡ block_fed r add bytes)
      (λ _ e. absurd (h (ap (λ (y : FileRun). y.refused) (begun-is true e))))
      (λ _ e. begun-is false e ∙ sym (fed-is false e))
      refl

  module _ (h : x.refused ≡ 0) where
    none-refused : eqb answer.refused 0 ≡ true
    unfolding stops
    none-refused =
        by (eqb answer.refused 0) (λ t. eqb answer.refused 0 ≡ t → t ≡ true)
        (λ _ e. refl)
        (λ _ e. absurd (eqb-false _ _ e (sym (ap (λ (y : FileRun). y.refused) (begun-is false e)) ∙ h)))
        refl

    same-due : x.due ≡ r.due
    same-due = ap (λ (y : FileRun). y.due) (begun-is true none-refused)

    pub begun-claims-sound : block_sound x.due bytes ≡ true
    begun-claims-sound = rw same-due (begun-sound r.study r.due bytes (eqb-true _ _ none-refused))

    begun-claims : claims_from x x.study add bytes 0 (claim_count bytes) ≡ block_fed r add bytes
    begun-claims =
        claims-due x r x.study add bytes 0 (claim_count bytes) same-due
        ∙ ap (λ (y : FileRun). claims_from r y.study add bytes 0 (claim_count bytes)) (begun-is true none-refused)
        ∙ sym (fed-is true none-refused)

-- some bytes fed by their first block, as it was begun
module _ (r : FileRun) (add : Adding) (bytes part : List ℕ) (p : part ≡ take 512 bytes) (u : r.refused ≡ 0) (l : 0 < length bytes) (x : FileRun)
    (q : x ≡ block_begun r part) where
  pub fed-stops : (x.refused ≡ 0 → ⊥) → fed r add bytes ≡ x
  fed-stops h =
      fed-turn r add bytes part p u l ∙ ap (λ (y : FileRun). fed y add (drop 512 bytes)) (sym (begun-refused r add part x q h)) ∙ fed-refused x add (drop 512 bytes) h

  pub fed-claims : x.refused ≡ 0 → fed r add bytes ≡ fed (claims_from x x.study add part 0 (claim_count part)) add (drop 512 bytes)
  fed-claims h = fed-turn r add bytes part p u l ∙ ap (λ (y : FileRun). fed y add (drop 512 bytes)) (sym (begun-claims r add part x q h))

-- a run that stops or goes on, with the sums so far
module _ (r : LentRun) (from sums : List ℤ) (taken : ℕ) where
  pub stops-with : (refusal : Refusal) (place : ℕ)
      → with_sums (lent_stops r taken refusal place) sums ≡ stops (with_sums r from) (lent_study r.window.window taken sums) (number_of refusal) place
  unfolding with_sums lent_stops stops
  stops-with refusal place = refl

  pub goes-on-with : with_sums (lent_goes_on r taken) sums ≡ going_on (with_sums r from) (lent_study r.window.window taken sums)
  unfolding with_sums lent_goes_on going_on
  goes-on-with = refl
