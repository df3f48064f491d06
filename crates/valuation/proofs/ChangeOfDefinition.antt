-- A closed claim with code 6 has the share, the addition and the withdrawal of the same claim with code 1 (`DefinitionChange` of the study layer), so
-- what is formed of the sums is the same; and its one closing is one of C. Assumes nothing.
use Prim.Native.Nat.{ℕ, ◌+◌, ◌*◌, ◌≤◌, ◌<◌}
use mathlib.Core.Path.{◌≡◌, refl, ap, ◌∙◌}
use mathlib.Core.Bool.{Bool, true}
use mathlib.Core.List.{List}
use lib.Dec.{leb, eqb}
use lib.IntN.{ℤ, pos, ◌+ℤ◌}
use borrow.Author.Tests.{eq-eqb, ne_eqb}
use Rattle.basics.specs.Pick.{pick}
use Rattle.basics.proofs.Tests.{tests, by}
use Rattle.claim_months.specs.declared.Claim.{Claim}
use Rattle.claim_months.specs.declared.Window.{Window}
use Rattle.claim_months.specs.Claim.{category, claim_check}
use Rattle.claim_months.specs.Exposure.{closed_in}
use Rattle.claim_months.proofs.Sound.{sound}
use Rattle.claim_months.proofs.Closing.{closing_duration}
use Rattle.rates.specs.Rates.{group_of}
use Rattle.rates.proofs.Laws.{group-low, group-high}
use Rattle.study.specs.Answers.{Answer}
use Rattle.study.specs.Sums.{sum_at}
use Rattle.study.specs.Study.{share_of}
use Rattle.study.proofs.Closings.{share-count, no-group}
use Rattle.study.proofs.ChangeOfDefinition.{change-of-definition}
use Rattle.valuation.specs.Factor.{positive}
use Rattle.valuation.specs.StudyFactor.{terminations, study_factor}
use Rattle.valuation.specs.ChangeOfDefinition.{ChangeInC}

-- the group in which a claim closes
abbrev closing_group : Claim → ℕ
closing_group c = group_of (closing_duration c)

abbrev count_one : Bool → ℕ
count_one t = pick t 1 0

same-test : (g k : ℕ) → count_one (eqb k g) ≡ count_one (eqb g k)
same-test g k =
    by (eqb k g) (λ t. count_one t ≡ count_one (eqb g k)) (λ q. rw (eq-eqb g k (omega tests)) refl)
    (λ q. rw (ne_eqb g k (λ e. omega tests)) refl)

module _ (w : Window) (rates : List ℕ) (c : Claim) (p : claim_check c ≡ 0) (closed : closed_in c w.first.0 w.last.0 ≡ true) (recovered : category c ≡ 1) where
  -- its closing counts as a recovery, in its group, and as no death
  module _ (g : ℕ) (low : 1 ≤ g) (high : g ≤ 5) where
    recoveries : sum_at (share_of w rates c) g 1 ≡ pos (count_one (eqb (closing_group c) g))
    recoveries =
        rw (closed, recovered) at (share-count w rates c (sound c p) g 1 low high (omega tests) (omega tests))
        ∙ by (eqb (closing_group c) g) (λ t. pos (count_one t * 1) ≡ pos (count_one t)) (λ _. refl) (λ _. refl)

    deaths : sum_at (share_of w rates c) g 2 ≡ pos 0
    deaths =
        rw (closed, recovered) at (share-count w rates c (sound c p) g 2 low high (omega tests) (omega tests))
        ∙ by (eqb (closing_group c) g) (λ t. pos (count_one t * 0) ≡ pos 0) (λ _. refl) (λ _. refl)

    in-group : terminations (share_of w rates c) g ≡ count_one (eqb g (closing_group c))
    unfolding terminations positive
    in-group =
        rw (recoveries, deaths)
        (by (eqb (closing_group c) g) (λ t. positive (pos (count_one t) +ℤ pos 0) ≡ count_one t) (λ _. refl) (λ _. refl))
        ∙ same-test g (closing_group c)

  -- a number that is none of the five groups has no C
  elsewhere : (g : ℕ) → (1 ≤ g → 5 < g) → terminations (share_of w rates c) g ≡ count_one (eqb g (closing_group c))
  unfolding terminations positive
  elsewhere g out =
      let low = group-low (closing_duration c) in
      let high = group-high (closing_duration c) in
      let other : g ≡ closing_group c → ⊥ = λ e. let past : 5 < g = out (omega (tests, e, low)) in omega (tests, e, high, past) in
      rw (ne_eqb g (closing_group c) other, no-group (share_of w rates c) g 1 out, no-group (share_of w rates c) g 2 out) refl

  counted : (g : ℕ) → terminations (share_of w rates c) g ≡ count_one (eqb g (closing_group c))
  counted g =
      by (leb 1 g) (λ _. terminations (share_of w rates c) g ≡ count_one (eqb g (closing_group c)))
      (λ a.
      by (leb g 5) (λ _. terminations (share_of w rates c) g ≡ count_one (eqb g (closing_group c))) (λ b. in-group g (omega tests) (omega tests))
      (λ b. elsewhere g (λ _. omega tests)))
      (λ a. elsewhere g (λ low. absurd (omega tests)))

pub change-in-c : ChangeInC
change-in-c c z six =
    let same = change-of-definition c z six in
    record {
      shares = λ w rates g. ap (λ (s : List ℤ). terminations s g) (same.shares w rates);
      additions = λ kind s table g. ap (λ (a : Answer). terminations a.study.sums g) (same.prepared kind s table);
      withdrawals = λ kind s table g. ap (λ (a : Answer). terminations a.study.sums g) (same.prepared_withdrawals kind s table);
      factors_added = λ kind s table g. ap (λ (a : Answer). study_factor a.study.sums g) (same.prepared kind s table);
      factors_withdrawn = λ kind s table g. ap (λ (a : Answer). study_factor a.study.sums g) (same.prepared_withdrawals kind s table);
      one_more = λ w rates p closed recovered. (
        closing_group c,
        group-low (closing_duration c),
        group-high (closing_duration c),
        counted w rates c p closed recovered,
      );
    }
