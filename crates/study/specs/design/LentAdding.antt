-- Adding to a study whose sums are lent, told whether they have room: what a run does for each claim.
use Rattle.std.specs.Prelude.{ℕ, suc, ◌+◌, ◌-◌, ◌*◌, ◌≤◌, ◌≡◌, Bool, true, ◌&&◌, List, get_or, leb, ltb, eqb, ℤ, pos, nat_abs, ◌+ℤ◌}
use Rattle.basics.specs.Pick.{pick}
use Rattle.basics.specs.Limits.{most_claims, most_thirtieths, most_expected, most_benefit}
use Rattle.basics.specs.Checks.{check, ◌then◌, refuse_full}
use Rattle.basics.specs.Tables.{table, all_at_most}
use Rattle.claim_months.specs.declared.Claim.{Claim}
use Rattle.claim_months.specs.Claim.{claim_check}
use Rattle.claim_months.specs.Windows.{window_check}
use Rattle.rates.specs.declared.Kind.{Kind}
use Rattle.rates.specs.design.Prepared.{table_check_of}
use Rattle.study.specs.declared.Study.{Study}
use Rattle.study.specs.Answers.{Answer}
use Rattle.study.specs.Sums.{is_count, times_at, all_in_bounds, within}
use Rattle.study.specs.Study.{study_answer}
use Rattle.study.specs.design.PreparedAdding.{share_with, lent_study, added_with}

-- Room for n claims more, whatever their shares: n claims take no sum past its bound. A claim has at most 1,800 months of 30 thirtieths, of
-- rates below 2³² in any list of 32-bit numbers, and one closing, and 200 times that in the weighted set. Room for none is check 9's
unfoldable pub spare_bound : ℕ → ℕ → ℕ
spare_bound n column =
    pick (is_count column) (most_claims - n) (pick (eqb column 0) (most_thirtieths - 54000 * n) (most_expected - 240000000000000 * n))

abbrev pub room_for : ℕ → List ℤ → Bool
room_for n = all_in_bounds (spare_bound n)

-- an amount added to the sum at place k; one past every bound of its set, which no study with room has, stays as it is
unfoldable pub guarded_sum : ℕ → ℤ → ℤ → ℤ
guarded_sum k x y = pick (leb (nat_abs x) (times_at most_benefit k * most_expected)) (x +ℤ y) x

-- a share added to sums so guarded
unfoldable pub guarded_plus : List ℤ → List ℤ → List ℤ
guarded_plus a b = table 80 (λ k. guarded_sum k (get_or a k (pos 0)) (get_or b k (pos 0)))

-- the checks 1 to 9 and 16, told whether the sums are within their bounds
unfoldable pub add_check_told : Bool → Kind → Study → Claim → List ℕ → ℕ
add_check_told room kind s c table =
    window_check s.window.first.0 s.window.last.0
    then claim_check c
    then table_check_of kind table c.cell
    then check (ltb s.taken most_claims && room) refuse_full

-- adding to a study whose sums are lent, told whether they are within their bounds
unfoldable pub added_to_lent : Bool → Kind → List ℕ → Claim → Study → Answer
added_to_lent room kind table c s =
    study_answer (add_check_told room kind s c table) s (lent_study s.window (s.taken + 1) (guarded_plus s.sums (share_with kind s.window table c)))

-- Told what is so, it is adding. Sums with room for a claim are within their bounds, and with room for one claim more before an addition with a
-- table of 32-bit numbers they have room for that many after it. `proofs/LentAdding.antt` proves it
pub record LentAdding : Type 0 where
  pub told : (kind : Kind) (table : List ℕ) (c : Claim) (s : Study) (room : Bool) → room ≡ within s.sums
      → added_to_lent room kind table c s ≡ added_with kind s c table
  pub room_none : (s : List ℤ) → room_for 0 s ≡ within s
  pub room_less : (n : ℕ) (s : List ℤ) → n ≤ 100 → room_for n s ≡ true → within s ≡ true
  pub room_kept : (kind : Kind) (table : List ℕ) (c : Claim) (s : Study) (n : ℕ) → suc n ≤ 100 → all_at_most 4294967295 table ≡ true
      → room_for (suc n) s.sums ≡ true → room_for n (added_with kind s c table).study.sums ≡ true
