-- `store_study` meets its contract: the sums behind the three numbers are one run of stores with them. Assumes nothing.
use Prim.Native.Nat.{◌+◌}
use mathlib.Core.Path.{◌≡◌, refl, ap, ◌∙◌}
use mathlib.Core.List.{List, [], ◌∷◌}
use native.Mathlib.Omega.{arith}
use lib.IntN.{ℤ, pos}
use lib.ListN.{length}
use lib.Seq.{length-sets}
use Rattle.basics.proofs.Stores.{run}
use Rattle.study_list.specs.StudyList.{study_numbers}
use Rattle.study_list.proofs.Copies.{copied}
use Rattle.study_list.proofs.store_study.Goals as goal

pub returns : goal.returns
unfolding study_numbers
returns c =
    let a = c.args in
    let three : List ℤ = pos a.study.window.first.0 ∷ pos a.study.window.last.0 ∷ pos a.study.taken ∷ [] in
    let long : length c.store_three.new.out ≡ length a.out.now = ap length c.store_three.ensures ∙ length-sets a.out.now a.at three in
    run a.out.now c.store_three.new.out _ three a.study.sums a.at (a.at + 3) refl c.store_three.ensures
    (copied _ _ _ _ _ c.copy_from_slice.ensures.after (omega arith) (omega (arith, long)))
