-- Code 6, change of definition, has the share of a recovery: checks and month records are the same, and nothing else of the claim has changed.
-- Assumes nothing.
use Rattle.claim_months.specs.ChangeOfDefinition.{with_code}
use Rattle.claim_months.proofs.ChangeOfDefinition as months
use Rattle.claim_months.specs.Claim.{weight}
use Rattle.study.specs.Study.{share_of, add_check, with_claim, added}
use Rattle.study.specs.design.PreparedAdding.{share_with, add_check_with, added_with}
use Rattle.study.specs.Withdrawing.{can_withdraw, withdraw_check, without_claim, withdrawn}
use Rattle.study.specs.design.PreparedWithdrawing.{can_withdraw_with, withdraw_check_with, withdrawn_with}
use Rattle.study.specs.ChangeOfDefinition.{ChangeOfDefinition}

pub change-of-definition : ChangeOfDefinition
unfolding with_code weight share_of add_check with_claim added share_with add_check_with added_with can_withdraw withdraw_check without_claim withdrawn can_withdraw_with withdraw_check_with withdrawn_with
change-of-definition c z six =
    let same = months.change-of-definition c z six in
    let checks = same.checks in
    let records = same.records in
    record {
      shares = λ w rates. rw (records _ _);
      additions = λ s rates. rw (checks, records _ _);
      prepared = λ kind s table. rw (checks, records _ _);
      withdrawals = λ s rates. rw (checks, records _ _);
      prepared_withdrawals = λ kind s table. rw (checks, records _ _);
    }
