-- A claim closes once at the most. So a study to which claims are only added, and the study of any list of accepted claims, has no more closings than
-- claims taken, those of all groups and categories together. `proofs/Closings.antt` proves it
use Rattle.std.specs.Prelude.{ℕ, ◌+◌, ◌≤◌, List, ℤ, nat_abs}
use Rattle.calendar.specs.declared.Date.{Date}
use Rattle.claim_months.specs.declared.Claim.{Claim}
use Rattle.claim_months.specs.declared.Window.{Window}
use Rattle.rates.specs.declared.Kind.{Kind}
use Rattle.study.specs.declared.Study.{Study}
use Rattle.study.specs.Sums.{sum_at}
use Rattle.study.specs.Study.{study_of, opened, accepted}
use Rattle.study.specs.design.PreparedAdding.{added_with}

-- the closings of a group under a category. (Handed in below 0, which no claims give, a count is taken by its size)
abbrev pub closed_under : List ℤ → ℕ → ℕ → ℕ
closed_under s g x = nat_abs (sum_at s g x)

-- under all five, and in all five groups
unfoldable pub group_closings : List ℤ → ℕ → ℕ
group_closings s g = closed_under s g 1 + closed_under s g 2 + closed_under s g 3 + closed_under s g 4 + closed_under s g 5

unfoldable pub all_closings : List ℤ → ℕ
all_closings s = group_closings s 1 + group_closings s 2 + group_closings s 3 + group_closings s 4 + group_closings s 5

abbrev pub ClosedOnce : Study → Type 0
ClosedOnce s = all_closings s.sums ≤ s.taken

pub record Closings : Type 0 where
  pub opening : (b e : Date) → ClosedOnce (opened b e).study
  pub adding : (kind : Kind) (s : Study) (c : Claim) (table : List ℕ) → ClosedOnce s → ClosedOnce (added_with kind s c table).study
  pub studies : (w : Window) (rates : List ℕ) (claims : List Claim) → ClosedOnce (study_of w rates (accepted rates claims))
