-- `small_company::first_moved` meets its contract: the first pair of T that moves far is the first group's. Assumes nothing.
use Prim.Native.Nat.{◌+◌}
use mathlib.Core.Path.{◌≡◌, sym, ap, ◌∙◌}
use native.Mathlib.Omega.{arith}
use Rattle.std.proofs.Common.{rules, tests}
use Rattle.std.specs.List.{zip}
use Rattle.std.proofs.lemmas.Iterator.{YieldsList-from_slice, YieldsList-from_zip}
use Rattle.std.proofs.lemmas.Iterator.Search.{position_from_yields_List}
use Rattle.small_company.specs.SmallCompany.{first_moved}
use Rattle.small_company.proofs.Moves.{pair_moves, place_in, told, all-pairs}
use Rattle.small_company.proofs.first_moved.Goals as goal
use Rattle.small_company.proofs.first_moved.Goals.{After-position}

told-so : (c : After-position) → told 0 c.position.result ≡ first_moved c.args.new c.args.old 0 5
told-so c =
    let place-so : c.position.result ≡ place_in (zip c.args.new c.args.old) =
    position_from_yields_List pair_moves c.position.new.self _ c.position.result c.position.ensures.ran
    (YieldsList-from_zip (YieldsList-from_slice c.args.new (cc)) (YieldsList-from_slice c.args.old (cc))) (λ x b q k. search (rules, tests)) in
    ap (told 0) place-so ∙ all-pairs c.args.new c.args.old (omega arith) (omega arith)

pub returns-in-Some : goal.returns-in-Some
returns-in-Some c =
    let t : 0 + c.in-Some.place + 1 ≡ first_moved c.args.new c.args.old 0 5 = ap (told 0) (sym c.in-Some.is) ∙ told-so (goal.at.returns-in-Some c).After-position in
    omega arith

pub returns-in-None : goal.returns-in-None
returns-in-None c = ap (told 0) (sym c.in-None.is) ∙ told-so (goal.at.returns-in-None c).After-position
