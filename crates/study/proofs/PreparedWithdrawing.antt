-- Withdrawing with plain rates is document 02's, and withdrawing with a prepared table is withdrawing with the rates that were prepared.
-- Assumes nothing.
use Prim.Native.Nat.{ℕ, ◌-◌}
use mathlib.Core.Path.{◌≡◌, refl, sym, ap, ◌∙◌}
use mathlib.Core.Bool.{◌&&◌}
use mathlib.Core.List.{List}
use lib.Dec.{ltb, eqb}
use lib.IntN.{ℤ}
use borrow.Author.Tests.{eqb-true, ne_eqb}
use Rattle.basics.specs.Pick.{pick}
use Rattle.basics.specs.Checks.{check, ◌then◌, refuse_full, refuse_withdrawal}
use Rattle.basics.proofs.Tests.{tests, by}
use Rattle.basics.proofs.Checks.{then-passed, then-fails}
use Rattle.claim_months.specs.declared.Claim.{Claim}
use Rattle.claim_months.specs.Claim.{claim_check}
use Rattle.claim_months.specs.Windows.{window_check}
use Rattle.rates.specs.declared.Kind.TheVariants.{Plain, Prepared}
use Rattle.rates.specs.design.Prepared.{table_check_of, recovery_of, death_of, prepared_of}
use Rattle.rates.proofs.SameTable.{same-table}
use Rattle.study.specs.declared.Study.{Study}
use Rattle.study.specs.Answers.{Answer}
use Rattle.study.specs.Sums.{minus}
use Rattle.study.specs.Study.{share_of}
use Rattle.study.specs.design.PreparedAdding.{share_with, lent_study}
use Rattle.study.specs.Withdrawing.{withdraw_room, covers, can_withdraw, withdraw_check, without_claim, withdrawn}
use Rattle.study.specs.design.PreparedWithdrawing.{can_withdraw_with, withdraw_check_with, withdrawn_with, SameWithdrawing}
use Rattle.study.proofs.SameAdding.{prepared-share}

pub plain-withdrawn : (s : Study) (c : Claim) (rates : List ℕ) → withdrawn_with Plain s c rates ≡ withdrawn s c rates
unfolding withdrawn_with withdraw_check_with can_withdraw_with share_with withdrawn withdraw_check can_withdraw without_claim share_of table_check_of recovery_of death_of
plain-withdrawn s c rates = refl

pub ruleset plain_rates = (plain-withdrawn)

module _ (s : Study) (c : Claim) where
  -- the answer, where n is the number of the table's check and x the claim's share
  abbrev number_by : ℕ → List ℤ → ℕ
  number_by n x =
      window_check s.window.first.0 s.window.last.0 then claim_check c then n then check (withdraw_room s) refuse_full
      then check (ltb 0 s.taken && covers s.sums x) refuse_withdrawal

  abbrev answer_by : ℕ → List ℤ → Answer
  answer_by n x = record { refused = number_by n x; study = pick (eqb (number_by n x) 0) (lent_study s.window (s.taken - 1) (minus s.sums x)) s }

  -- where the table is refused, the share doesn't matter
  refused-by : (n : ℕ) (x : List ℤ) → (n ≡ 0 → ⊥)
      → answer_by n x ≡ record { refused = window_check s.window.first.0 s.window.last.0 then claim_check c then n; study = s }
  refused-by n x h =
      let f = window_check s.window.first.0 s.window.last.0 in
      let e : number_by n x ≡ (f then claim_check c then n) = ap (λ (k : ℕ). f then claim_check c then k) (then-fails n _ h) in
      let g : (f then claim_check c then n) ≡ 0 → ⊥ = λ z. h (then-passed (claim_check c) n (then-passed f (claim_check c then n) z).1).1 in
      rw (e, ne_eqb (f then claim_check c then n) 0 g) refl

  prepared-withdrawn : (rates : List ℕ) → withdrawn_with Prepared s c (prepared_of rates) ≡ withdrawn_with Plain s c rates
  unfolding withdrawn_with withdraw_check_with can_withdraw_with
  prepared-withdrawn rates =
      let n = table_check_of Plain rates c.cell in
      let before : List ℤ = share_with Prepared s.window (prepared_of rates) c in
      let after : List ℤ = share_with Plain s.window rates c in
      ap (λ (k : ℕ). answer_by k before) ((same-table rates).same_check c.cell)
      ∙ by (eqb n 0) (λ _. answer_by n before ≡ answer_by n after) (λ q. ap (answer_by n) (prepared-share s c rates (eqb-true n 0 q)))
      (λ q. let h : n ≡ 0 → ⊥ = λ (e : n ≡ 0). omega tests in refused-by n before h ∙ sym (refused-by n after h))

pub same-withdrawing : SameWithdrawing
same-withdrawing = record { plain = plain-withdrawn; prepared = λ s c rates. prepared-withdrawn s c rates ∙ plain-withdrawn s c rates }
