-- What a carrier is told, by number: a refusal has its number and zeros.
use Rattle.std.specs.Prelude.{ℕ, Bool, false, List, Result, Ok, Err}
use Rattle.basics.specs.declared.refusal.Refusal.{Refusal}
use Rattle.basics.specs.Refused.{number_of}
use Rattle.basics.specs.Tables.{table}
use Rattle.small_company.specs.declared.Company.{Company}

-- the number refused or 0, whether it is exempt, both counts, the first group that moved far or 0, and five T
pub record CompanyAnswer : Type 0 where
  pub refused : ℕ
  pub exempt : Bool
  pub recent : ℕ
  pub earlier : ℕ
  pub group : ℕ
  pub t : List ℕ

-- the answer that the code gives
abbrev pub company_by_number : Result Company Refusal → CompanyAnswer
company_by_number (Ok c) =
    record { refused = 0; exempt = c.exempt; recent = c.recent; earlier = c.earlier; group = c.group; t = c.t }
company_by_number (Err r) =
    record { refused = number_of r; exempt = false; recent = 0; earlier = 0; group = 0; t = table 5 (λ k. 0) }
