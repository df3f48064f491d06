-- `small_company::small_company` meets its contract: the date, the list and its claims are checked in this order, and both counts decide.
-- Assumes nothing.
use mathlib.Core.Path.{◌≡◌, sym, ap, ◌∙◌}
use mathlib.Core.Bool.{true}
use Rattle.small_company.specs.Company.{company_by_number}
use Rattle.small_company.specs.SmallCompany.{list_sound, listed_claims}
use Rattle.small_company.specs.design.Private.{counted_of}
use Rattle.small_company.proofs.Days.{day-known, day-unknown}
use Rattle.small_company.proofs.Refusals.{passed_on, from-none}
use Rattle.small_company.proofs.Answers.{no-date, no-list, claim-refused, judged}
use Rattle.small_company.proofs.small_company.Goals as goal

pub returns-in_err-last : goal.returns-in_err-last
returns-in_err-last c =
    let n = from-none _ _ _ _ c.in_err-last.ensures.value c.from_residual.ensures in
    ap company_by_number n.1 ∙ no-date _ _ _ _ (day-unknown _ (sym n.0 ∙ c.day_number.ensures))

pub returns-then-not-is_list : goal.returns-then-not-is_list
returns-then-not-is_list c =
    let known = day-known _ c.in_ok-last.last (sym c.in_ok-last.ensures.ok_part ∙ c.day_number.ensures) in
    no-list _ _ _ _ known.0 (sym c.is_list.ensures ∙ c.if-not-is_list.true)

pub first_within-first-requires : goal.first_within-first-requires
first_within-first-requires c = (day-known _ c.in_ok-last.last (sym c.in_ok-last.ensures.ok_part ∙ c.day_number.ensures)).0

pub count_claims-requires : goal.count_claims-requires
count_claims-requires c = sym c.is_list.ensures ∙ c.if-not-is_list.false

pub returns-in_err-counts : goal.returns-in_err-counts
returns-in_err-counts c =
    let known = day-known _ c.in_ok-last.last (sym c.in_ok-last.ensures.ok_part ∙ c.day_number.ensures) in
    let listed : list_sound c.args.claims.now ≡ true = sym c.is_list.ensures ∙ c.if-not-is_list.false in
    ap company_by_number (passed_on _ _ c.from_residual-in_err-counts.ensures)
    ∙ claim-refused _ _ _ _ known.0 listed _
    (c.in_err-counts.ensures ∙ (λ i. counted_of (c.first_within-first.ensures i) (known.1 i) (listed_claims c.args.claims.now)))

pub returns : goal.returns
returns c =
    let known = day-known _ c.in_ok-last.last (sym c.in_ok-last.ensures.ok_part ∙ c.day_number.ensures) in
    let listed : list_sound c.args.claims.now ≡ true = sym c.is_list.ensures ∙ c.if-not-is_list.false in
    c.judged.ensures
    ∙ judged _ _ _ _ known.0 listed c.in_ok-counts.counts
    (c.in_ok-counts.ensures ∙ (λ i. counted_of (c.first_within-first.ensures i) (known.1 i) (listed_claims c.args.claims.now)))
