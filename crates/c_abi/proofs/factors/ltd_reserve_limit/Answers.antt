-- `ltd_reserve_limit` meets its contract: the set of T that the limit allows is copied to the start of a list with room for it. Assumes nothing.
use Prim.Native.Nat.{ℕ}
use mathlib.Core.Path.{◌≡◌, ap, ◌∙◌}
use mathlib.Core.List.{List}
use native.Mathlib.Omega.{arith}
use borrow.Author.Tests.{le-leb, eq-eqb}
use lib.Dec.{eqb}
use lib.ListN.{length}
use lib.Seq.{sets}
use Rattle.basics.specs.Pick.{pick}
use Rattle.valuation.specs.LimitAnswers.{LimitAnswer}
use Rattle.valuation.specs.ReserveLimit.{limit_of}
use Rattle.study_list.proofs.Copies.{copied}
use Rattle.c_abi.proofs.factors.ltd_reserve_limit.Goals as goal

pub returns-in-Ok-reserve_limit-clause-t_out_after : goal.returns-in-Ok-reserve_limit-clause-t_out_after
returns-in-Ok-reserve_limit-clause-t_out_after c =
    let s = c.args in
    let out : List ℕ = s.t_out.now in
    let limit = c.in-Ok-reserve_limit.limit in
    let five : length limit.t ≡ 5 = omega arith in
    let told : ◌≡◌ {A = LimitAnswer} (record { refused = 0; t = limit.t; given = limit.given; replaced = limit.replaced }) (limit_of s.rates.now s.open_claims.now s.t.now s.group_3_count s.v) = c.in-Ok-reserve_limit.ensures ∙ ap (λ (t : List ℕ). limit_of s.rates.now s.open_claims.now t s.group_3_count s.v) c.in-Ok.ensures.1.same in
    copied out _ limit.t 0 5 c.copy_from_slice.ensures.after (omega (arith, five)) (omega (arith, five))
    ∙ rw (eq-eqb (length s.t.now) 5 c.in-Ok.ensures.1.long, le-leb 5 (length out) (omega arith), le-leb 2 (length s.totals.now) (omega arith))
    (ap (λ (a : LimitAnswer). pick (eqb a.refused 0) (sets out 0 a.t) out) told)
