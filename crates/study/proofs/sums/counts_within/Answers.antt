-- `study::sums::counts_within` meets its contract: the five numbers are those of the columns with counts.
-- Assumes nothing.
use Rattle.std.proofs.Common.{◌≡◌, ℕ, ◌+◌, ◌-◌, ◌≤◌, Bool, ◌&&◌, List, length, get_or, take, drop, ℤ, pos, nat_abs, sym, ap, ◌∙◌, arith, rules, length-drop, get_or-drop}
use mathlib.Core.Bool.{and-true}
use lib.Dec.{leb}
use lib.Signed.{non_neg}
use Rattle.std.specs.List.{list_all}
use Rattle.std.proofs.lemmas.Iterator.{YieldsList-from_slice}
use Rattle.std.proofs.lemmas.Iterator.Search.{all_from_yields_List}
use Rattle.basics.specs.Tables.{every_place}
use Rattle.basics.proofs.Tests.{tests}
use Rattle.basics.proofs.Tables.{every-same}
use Rattle.study.specs.Sums.{is_count, in_bounds}
use Rattle.study.specs.design.Private.{counts_in_bounds}
use Rattle.study.proofs.Listed.{all-placed}
use Rattle.study.proofs.sums.counts_within.Goals as goal

abbrev up_to : ℕ → ℤ → Bool
up_to n x = leb (nat_abs x) n && non_neg x

counted : (n : ℕ) (s : List ℤ) (first : ℕ) → first + 8 ≤ length s → list_all (up_to n) (take 5 (drop (first + 1) s)) ≡ counts_in_bounds n s first
unfolding counts_in_bounds every_place in_bounds is_count
counted n s first h =
    all-placed (up_to n) (drop (first + 1) s) (pos 0) 5 (grind (arith, length-drop))
    ∙ every-same 5 (λ k. up_to n (get_or (drop (first + 1) s) k (pos 0))) (λ k. up_to n (get_or s (first + (k + 1)) (pos 0)))
    (λ k l. ap (up_to n) (get_or-drop (first + 1) s k (pos 0) ∙ ap (λ (i : ℕ). get_or s i (pos 0)) (omega arith)))
    ∙ sym (and-true _ ∙ and-true _)

pub returns : goal.returns
returns c =
    let a = c.args in
    let five : a.at + 6 - (a.at + 1) ≡ 5 = omega arith in
    all_from_yields_List (up_to a.bound) _ _ _ c.all.ensures.ran (YieldsList-from_slice _ c.iter.ensures.rest) (λ x b q k. search (rules, tests))
    ∙ ap (λ (n : ℕ). list_all (up_to a.bound) (take n (drop (a.at + 1) a.sums.now))) five
    ∙ counted a.bound a.sums.now a.at (omega arith)
