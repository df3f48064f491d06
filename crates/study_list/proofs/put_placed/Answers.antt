-- `put_placed` meets its contract: number, block and place and the study behind them are one run of stores. Assumes nothing.
use mathlib.Core.Path.{◌≡◌, refl, ◌∙◌}
use mathlib.Core.List.{List, [], ◌∷◌}
use native.Mathlib.Omega.{arith}
use lib.IntN.{ℤ, pos}
use lib.Seq.{sets}
use Rattle.basics.proofs.Stores.{run}
use Rattle.study_list.specs.StudyList.{study_numbers, placed_numbers}
use Rattle.study_list.proofs.Lent.{long}
use Rattle.study_list.proofs.put_placed.Goals as goal

pub returns-clause-out_after : goal.returns-clause-out_after
unfolding placed_numbers
returns-clause-out_after c =
    let a = c.args in
    let numbers : List ℤ = pos a.refused ∷ pos a.block ∷ pos a.place ∷ [] in
    let three : c.store_three.new.out ≡ sets a.out.now 0 numbers = c.store_three.ensures ∙ (λ i. sets a.out.now 0 (pos (c.from.ensures i) ∷ pos a.block ∷ pos (c.from-2.ensures i) ∷ [])) in
    (long 86 a.out.now a.refused _ a.refused _ (omega arith) refl (run a.out.now c.store_three.new.out _ numbers (study_numbers a.study) 0 3 refl three c.store_study.ensures)).1
