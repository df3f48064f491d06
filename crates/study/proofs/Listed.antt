-- A test of all elements of a list, as the test of its places.
-- Assumes nothing.
use Rattle.std.proofs.Common.{◌≡◌, ℕ, zero, suc, ◌≤◌, Bool, ◌&&◌, List, length, get_or, take, refl, sym, ap, ◌∙◌, arith, add-one}
use Rattle.std.specs.List.{list_all}
use Rattle.std.proofs.lemmas.List.Folds.{list_all_more}
use Rattle.basics.specs.Tables.{every_place}

pub all-placed : {X : Type 0} (p : X → Bool) (xs : List X) (d : X) (n : ℕ) → n ≤ length xs
    → list_all p (take n xs) ≡ every_place n (λ k. p (get_or xs k d))
unfolding every_place
all-placed p xs d zero h = refl
all-placed p xs d (suc n) h =
    ap (λ (m : ℕ). list_all p (take m xs)) (sym (add-one n)) ∙ list_all_more p xs n d (omega arith)
    ∙ ap (λ (t : Bool). t && p (get_or xs n d)) (all-placed p xs d n (omega arith))
