-- Both totals claim by claim, and which tests lead to which answer of the call for the limit. Assumes nothing.
use Prim.Native.Nat.{ℕ, zero, suc, ◌+◌, ◌≤◌, ◌<◌}
use mathlib.Core.Path.{◌≡◌, refl, sym, ap, ◌∙◌}
use mathlib.Core.Bool.{true, false}
use mathlib.Core.List.{List}
use native.Mathlib.Numerals.{add-one}
use native.Mathlib.Omega.{arith}
use borrow.Author.Tests.{eqb-true, eqb-false, eq-eqb, ne_eqb, le-ltb, lt-ltb}
use lib.Dec.{eqb}
use lib.Ieee.{Float, binary64, add, lt}
use Rattle.basics.specs.Checks.{◌then◌}
use Rattle.basics.proofs.Checks.{then-passed, then_next, then-fails}
use Rattle.basics.proofs.Tests.{tests, by}
use Rattle.basics.specs.declared.refusal.Refusal.{Refusal}
use Rattle.basics.specs.declared.refusal.Refusal.TheVariants.{OpenClaims}
use Rattle.basics.specs.Refused.{number_of}
use Rattle.std.specs.Prelude.{Ok, Err}
use Rattle.rates.specs.Rates.{rate_check}
use Rattle.valuation.specs.Reserve.{reserve_of, discount_sound, reserve_check}
use Rattle.valuation.specs.ReserveLimit.{
  claim_cell,
  next_duration,
  months_left,
  claims_open_in,
  list_sound,
  open_claim_check,
  open_claims_check,
  limit_check,
  reserve_total,
  replaced_t,
  judged_t,
  limit_of,
}
use Rattle.valuation.specs.design.Private.{totals_of}
use Rattle.valuation.proofs.AnswerTests.{not-zero}
use Rattle.valuation.proofs.ReserveLaws.{reserve-passed}
use Rattle.valuation.specs.LimitAnswers.{limit_by_number}
use Rattle.valuation.specs.declared.reserve_limit.Totals.{Totals}

-- what a claim that passed its checks has
pub claim-passed :
    (rates list : List ℕ) (v : Float) (n : ℕ) → open_claim_check rates list v n ≡ 0
    → (rate_check rates (claim_cell list n) ≡ 0) × (next_duration list n ≤ 480) × (months_left list n ≤ 480) × (discount_sound v ≡ true)
unfolding open_claim_check
claim-passed rates list v n e =
    reserve-passed rates (claim_cell list n) (next_duration list n) (months_left list n) v (then-passed _ _ e).0

-- 17 answers a duration of 24 or less where the factor call refused nothing
module _ (rates list : List ℕ) (v : Float) (n : ℕ) where
  abbrev factor-check : ℕ
  factor-check = reserve_check rates (claim_cell list n) (next_duration list n) (months_left list n) v

  pub open-refused : (r : Refusal) → number_of r ≡ factor-check → number_of r ≡ open_claim_check rates list v n
  unfolding open_claim_check
  open-refused r e = e ∙ sym (then-fails factor-check _ (not-zero r factor-check e))

  pub open-short : 0 ≡ factor-check → next_duration list n ≤ 24 → 17 ≡ open_claim_check rates list v n
  unfolding open_claim_check
  open-short e l = rw (then_next factor-check _ (sym e), le-ltb 24 (next_duration list n) l)

  pub open-passed : 0 ≡ factor-check → 24 < next_duration list n → 0 ≡ open_claim_check rates list v n
  unfolding open_claim_check
  open-passed e l = rw (then_next factor-check _ (sym e), lt-ltb 24 (next_duration list n) l)

module _ (rates list t other : List ℕ) (v : Float) where
  abbrev checks : ℕ → ℕ
  checks = open_claims_check rates list v

  totals-refused : (n : ℕ) → (checks n ≡ 0 → ⊥) → totals_of rates list t other v n ≡ Err (checks n)
  unfolding totals_of
  totals-refused n h = simp (ne_eqb (checks n) 0 h)

  totals-passed :
      (n : ℕ) → checks n ≡ 0
      → totals_of rates list t other v n ≡ Ok (record { given = reserve_total rates list t v n; replaced = reserve_total rates list other v n })
  unfolding totals_of
  totals-passed n h = simp (eq-eqb (checks n) 0 h)

  -- totals are answered where every check passed, and else the number of the first that failed
  all-passed : (n : ℕ) (x : Totals) → Ok x ≡ totals_of rates list t other v n → checks n ≡ 0
  all-passed n x e =
      by (eqb (checks n) 0) (λ _. checks n ≡ 0) (eqb-true (checks n) 0)
      (λ q. let f = e ∙ totals-refused n (eqb-false (checks n) 0 q) in let z : ◌≡◌ {A = ℕ} 0 1 = cc in absurd (omega arith))

  one-failed : (n : ℕ) (r : Refusal) → Err (number_of r) ≡ totals_of rates list t other v n → number_of r ≡ checks n
  one-failed n r e =
      by (eqb (checks n) 0) (λ _. number_of r ≡ checks n)
      (λ q. let f = e ∙ totals-passed n (eqb-true (checks n) 0 q) in let z : ◌≡◌ {A = ℕ} 0 1 = cc in absurd (omega arith))
      (λ q. let f = e ∙ totals-refused n (eqb-false (checks n) 0 q) in cc)

  -- one that failed stays the first
  checks-stay : (m n : ℕ) → m ≤ n → (checks m ≡ 0 → ⊥) → checks n ≡ checks m
  unfolding open_claims_check
  checks-stay m zero l h = let e : 0 ≡ m = omega arith in ap checks e
  checks-stay m (suc n) l h =
      by (eqb m (suc n)) (λ _. checks (suc n) ≡ checks m) (λ q. ap checks (sym (eqb-true m (suc n) q)))
      (λ q. let i = checks-stay m n (omega tests) h in then-fails _ _ (λ z. h (sym i ∙ z)) ∙ i)

  pub totals-stay :
      (m n : ℕ) → m ≤ n → (r : Refusal) → Err (number_of r) ≡ totals_of rates list t other v m → Err (number_of r) ≡ totals_of rates list t other v n
  totals-stay m n l r e =
      let k = one-failed m r e in
      let s = checks-stay m n l (not-zero r (checks m) k) in
      ap Err (k ∙ sym s) ∙ sym (totals-refused n (λ z. not-zero r (checks m) k (sym s ∙ z)))

  -- one claim more
  module _ (n : ℕ) (x : Totals) (e : Ok x ≡ totals_of rates list t other v n) where
    next : checks (n + 1) ≡ open_claim_check rates list v n
    unfolding open_claims_check
    next = rw add-one (then_next (checks n) _ (all-passed n x e))

    pub claim-refused : (r : Refusal) → number_of r ≡ open_claim_check rates list v n → Err (number_of r) ≡ totals_of rates list t other v (n + 1)
    claim-refused r q =
        let k : number_of r ≡ checks (n + 1) = q ∙ sym next in
        ap Err k ∙ sym (totals-refused (n + 1) (not-zero r (checks (n + 1)) k))

    pub claim-added :
        0 ≡ open_claim_check rates list v n
        → Ok (record {
          given = add binary64 x.given (reserve_of rates (claim_cell list n) (next_duration list n) t (months_left list n) v);
          replaced = add binary64 x.replaced (reserve_of rates (claim_cell list n) (next_duration list n) other (months_left list n) v);
        })
        ≡ totals_of rates list t other v (n + 1)
    unfolding reserve_total
    claim-added q =
        let p = e ∙ totals-passed n (all-passed n x e) in
        let s : x ≡ record { given = reserve_total rates list t v n; replaced = reserve_total rates list other v n } = cc in
        rw (ap (λ (y : Totals). y.given) s, ap (λ (y : Totals). y.replaced) s, totals-passed (n + 1) (next ∙ sym q), add-one n)

-- the answers
module _ (rates list t : List ℕ) (count : ℕ) (v : Float) where
  refused : (r : Refusal) → number_of r ≡ limit_check rates list v → limit_by_number (Err r) ≡ limit_of rates list t count v
  unfolding limit_of
  refused r e = rw e (simp (ne_eqb (limit_check rates list v) 0 (not-zero r _ e)))

  pub list-refused : list_sound list ≡ false → limit_by_number (Err OpenClaims) ≡ limit_of rates list t count v
  unfolding limit_check ◌then◌
  list-refused f = refused OpenClaims (simp f)

  module _ (sound : list_sound list ≡ true) where
    claims-decide : limit_check rates list v ≡ open_claims_check rates list v (claims_open_in list)
    unfolding limit_check
    claims-decide = simp sound (then_next 0 _ refl)

    pub claims-refused :
        (r : Refusal) → Err (number_of r) ≡ totals_of rates list t (replaced_t t count) v (claims_open_in list)
        → limit_by_number (Err r) ≡ limit_of rates list t count v
    claims-refused r e = refused r (one-failed rates list t (replaced_t t count) v (claims_open_in list) r e ∙ sym claims-decide)

    module _ (x : Totals) (e : Ok x ≡ totals_of rates list t (replaced_t t count) v (claims_open_in list)) where
      all : open_claims_check rates list v (claims_open_in list) ≡ 0
      all = all-passed rates list t (replaced_t t count) v (claims_open_in list) x e

      answered : x ≡ record {
        given = reserve_total rates list t v (claims_open_in list);
        replaced = reserve_total rates list (replaced_t t count) v (claims_open_in list);
      }
      answered = let p = e ∙ totals-passed rates list t (replaced_t t count) v (claims_open_in list) all in cc

      pub judged-replaced :
          lt x.given x.replaced ≡ true
          → record { refused = 0; t = replaced_t t count; given = x.given; replaced = x.replaced } ≡ limit_of rates list t count v
      unfolding limit_of judged_t
      judged-replaced f =
          let g = ap (λ (y : Totals). y.given) answered in
          let r = ap (λ (y : Totals). y.replaced) answered in
          simp (claims-decide ∙ all, ← g, ← r, f)

      pub judged-given :
          lt x.given x.replaced ≡ false
          → record { refused = 0; t = t; given = x.given; replaced = x.replaced } ≡ limit_of rates list t count v
      unfolding limit_of judged_t
      judged-given f =
          let g = ap (λ (y : Totals). y.given) answered in
          let r = ap (λ (y : Totals). y.replaced) answered in
          simp (claims-decide ∙ all, ← g, ← r, f)
