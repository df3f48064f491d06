-- The call for the small company rule: ltd_small_company.
use Rattle.std.specs.Prelude.{ℕ, Bool, ◌&&◌, List, ◌∷◌, length, leb, eqb}
use Rattle.std.proofs.lemmas.List.Edits.{sets}
use Rattle.basics.specs.Limits.{no_form}
use Rattle.basics.specs.Pick.{pick}
use Rattle.small_company.specs.Company.{CompanyAnswer}

-- both lists of T have five numbers, and there is room for nine
abbrev pub company_lent : List ℕ → List ℕ → List ℕ → Bool
company_lent new old out = eqb (length new) 5 && eqb (length old) 5 && leb 9 (length out)

abbrev pub company_answered : List ℕ → List ℕ → List ℕ → CompanyAnswer → ℕ
company_answered new old out a = pick (company_lent new old out) a.refused no_form

-- exempt (1 or 0), the recent and the earlier claims, the group and five T, or the list as it was
abbrev pub company_numbers : CompanyAnswer → List ℕ
company_numbers a = pick a.exempt 1 0 ∷ a.recent ∷ a.earlier ∷ a.group ∷ a.t

abbrev pub company_after : List ℕ → List ℕ → List ℕ → CompanyAnswer → List ℕ
company_after new old out a = pick (company_lent new old out && eqb a.refused 0) (sets out 0 (company_numbers a)) out
