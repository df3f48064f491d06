-- `put_company` meets its contract: four numbers are stored one after the other, and the five T are copied behind them. Assumes nothing.
use Prim.Native.Nat.{◌+◌, ◌≤◌}
use mathlib.Core.Path.{◌≡◌, refl, ◌∙◌}
use mathlib.Core.Bool.{Bool, true, false}
use mathlib.Core.List.{◌∷◌}
use native.Mathlib.Omega.{arith}
use lib.ListN.{length, set, length-set}
use lib.Seq.{sets}
use mir.Val.{bool_byte}
use Rattle.basics.specs.Pick.{pick}
use Rattle.study_list.proofs.Copies.{copied}
use Rattle.c_abi.proofs.companies.put_company.Goals as goal

-- a bool is stored as 1 or 0
byte-is : (t : Bool) → bool_byte t ≡ pick t 1 0
byte-is true = refl
byte-is false = refl

pub returns : goal.returns
returns c =
    let s = c.args in
    let a = s.company in
    let five : length a.t ≡ 5 = omega arith in
    let room : 4 + length a.t ≤ length (set (set (set (set s.out.now 0 c.from.result) 1 a.recent) 2 a.earlier) 3 c.from-2.result) = simp length-set (omega (arith, five, c.requires)) in
    copied _ _ a.t 4 5 c.copy_from_slice.ensures.after (omega arith) room
    ∙ (λ i. sets s.out.now 0 ((c.from.ensures ∙ byte-is a.exempt) i ∷ a.recent ∷ a.earlier ∷ c.from-2.ensures i ∷ a.t))
