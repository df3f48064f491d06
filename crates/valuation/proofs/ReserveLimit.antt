-- The limit on reserves: no total is a NaN, and the set of T that is returned has a total no lower than the replaced one's. Assumes nothing.
use Prim.Native.Nat.{ℕ, zero, suc, ◌*◌}
use mathlib.Core.Path.{◌≡◌, refl}
use mathlib.Core.Bool.{true, false, ◌&&◌, ◌||◌}
use mathlib.Core.List.{List}
use borrow.Author.Tests.{eq-eqb, eqb-true}
use lib.Dec.{ltb, eqb}
use lib.Ieee.{Float, nan, inf, fin, up, down, of_int, lt, eq, le, is_nan}
use Rattle.basics.specs.Pick.{pick}
use Rattle.basics.specs.Checks.{check, refuse_open_claims}
use Rattle.basics.proofs.Checks.{then-passed}
use Rattle.basics.proofs.Tests.{tests, by}
use Rattle.valuation.specs.Reserve.{float}
use Rattle.valuation.specs.ReserveLimit.{
  claims_open_in,
  list_sound,
  open_claims_check,
  limit_check,
  reserve_total,
  replaced_t,
  given_total,
  replaced_total,
  judged_t,
  limit_of,
  ReserveLimit,
}
use Rattle.valuation.proofs.Laws.{clash}
use Rattle.valuation.proofs.Number.{NotNegative, number, add-not-negative, factor-not-negative}
use Rattle.valuation.proofs.LimitAnswers.{claim-passed}

at_least : (a b : ℕ) → ltb a b ≡ false → (ltb b a || (eqb b a && true)) ≡ true
at_least a b h =
    by (ltb b a) (λ s. (s || (eqb b a && true)) ≡ true) (λ q. refl) (λ q. rw (eq-eqb b a (omega tests)))

-- of two numbers that are not negative, one that is not below the other is at least it
not-below : (x y : Float) → NotNegative x → NotNegative y → lt x y ≡ false → le y x ≡ true
unfolding lt eq le
not-below nan y p q h = absurd p
not-below (inf true) y p q h = absurd p
not-below (inf false) nan p q h = absurd q
not-below (inf false) (inf true) p q h = absurd q
not-below (inf false) (inf false) p q h = refl
not-below (inf false) (fin true n d) p q h = absurd q
not-below (inf false) (fin false n d) p q h = refl
not-below (fin true m e) y p q h = absurd p
not-below (fin false m e) nan p q h = absurd q
not-below (fin false m e) (inf true) p q h = absurd q
not-below (fin false m e) (inf false) p q h = clash refl h
not-below (fin false m e) (fin true n d) p q h = absurd q
not-below (fin false m e) (fin false n d) p q h = at_least (m * up e * down d) (n * up d * down e) h

at-itself : (x : Float) → NotNegative x → le x x ≡ true
unfolding le
at-itself x p = by (lt x x) (λ s. lt x x ≡ s → (s || eq x x) ≡ true) (λ q u. refl) (λ q u. rw u at (not-below x x p p u)) refl

-- what passed its checks has a total that is not negative
total-not-negative :
    (rates list t : List ℕ) (v : Float) (n : ℕ) → open_claims_check rates list v n ≡ 0 → NotNegative (reserve_total rates list t v n)
unfolding open_claims_check reserve_total float of_int
total-not-negative rates list t v zero e = tt
total-not-negative rates list t v (suc n) e =
    let p = then-passed _ _ e in
    add-not-negative _ _ (total-not-negative rates list t v n p.0)
    (factor-not-negative _ _ _ t v (claim-passed rates list v n p.1).3 _)

module _ (rates list t : List ℕ) (v : Float) (passed : limit_check rates list v ≡ 0) where
  all-not-negative : NotNegative (given_total rates list t v)
  unfolding limit_check
  all-not-negative =
      total-not-negative rates list t v (claims_open_in list) (then-passed (check (list_sound list) refuse_open_claims) _ passed).1

pub reserve-limit : ReserveLimit
unfolding limit_of judged_t
reserve-limit rates list t count v len passed =
    let given = all-not-negative rates list t v passed in
    let replaced = all-not-negative rates list (replaced_t t count) v passed in
    let answered = eq-eqb (limit_check rates list v) 0 passed in
    record {
      given_number = simp answered (at-itself _ given);
      replaced_number = simp answered (at-itself _ replaced);
      never_below = simp answered
          (by (lt (given_total rates list t v) (replaced_total rates list t count v))
          (λ s. le (replaced_total rates list t count v) (reserve_total rates list (pick s (replaced_t t count) t) v (claims_open_in list)) ≡ true)
          (λ q. at-itself _ replaced) (λ q. not-below _ _ given replaced q));
    }

-- no answer of the call carries a NaN, refused or not
pub answer-numbers :
    (rates list t : List ℕ) (count : ℕ) (v : Float)
    → (is_nan (limit_of rates list t count v).given ≡ false) × (is_nan (limit_of rates list t count v).replaced ≡ false)
unfolding limit_of float of_int
answer-numbers rates list t count v =
    let k = limit_check rates list v in
    by (eqb k 0)
    (λ s. eqb k 0 ≡ s → (is_nan (limit_of rates list t count v).given ≡ false) × (is_nan (limit_of rates list t count v).replaced ≡ false))
    (λ q u.
    let passed = eqb-true k 0 u in
    simp u (number _ (all-not-negative rates list t v passed), number _ (all-not-negative rates list (replaced_t t count) v passed)))
    (λ q u. simp u (number (float 0) tt, number (float 0) tt)) refl
