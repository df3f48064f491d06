-- What the small company rule says of every answer that is not a refusal.
-- Assumes nothing.
use Prim.Native.Nat.{ℕ, zero, suc, ◌+◌, ◌<◌, ◌≤◌}
use mathlib.Core.Path.{◌≡◌, sym, ◌∙◌, subst⁻¹}
use mathlib.Core.Bool.{Bool, true, false, and-false}
use mathlib.Core.List.{List}
use borrow.Author.Tests.{lt-ltb, le-ltb, ltb-true, leb-true, eqb-true}
use lib.Dec.{leb, ltb, eqb}
use lib.ListN.{get_or}
use Rattle.basics.specs.Pick.{pick}
use Rattle.basics.proofs.Tests.{tests, by, and_left, and_right}
use Rattle.calendar.specs.declared.Date.{Date}
use Rattle.calendar.specs.Calendar.{day_number}
use Rattle.claim_months.specs.declared.Claim.{Claim}
use Rattle.small_company.specs.SmallCompany.{company_check, first_within, open_by, is_recent, is_earlier, recent_count, earlier_count, is_exempt, moves_far, first_moved, company_of}
use Rattle.small_company.specs.SmallCompanyRule.{SmallCompanyRule}

-- an answer that is not a refusal
module _ (d : Date) (bytes new old : List ℕ) (z : company_check d bytes ≡ 0) where
  exempt-is : (company_of d bytes new old).exempt ≡ is_exempt d bytes
  unfolding company_of
  exempt-is = rw z

  group-is : (company_of d bytes new old).exempt ≡ false → (company_of d bytes new old).group ≡ first_moved new old 0 5
  unfolding company_of
  group-is f = let e : is_exempt d bytes ≡ false = sym exempt-is ∙ f in rw (z, e)

  exempt_where : recent_count d bytes < 50 → earlier_count d bytes < 200 → (company_of d bytes new old).exempt ≡ true
  unfolding is_exempt
  exempt_where r a = exempt-is ∙ rw (lt-ltb (recent_count d bytes) 50 r, lt-ltb (earlier_count d bytes) 200 a)

  exempt_only : (company_of d bytes new old).exempt ≡ true → (recent_count d bytes < 50) × (earlier_count d bytes < 200)
  unfolding is_exempt
  exempt_only h =
      let e = sym exempt-is ∙ h in
      let r = and_left (ltb (recent_count d bytes) 50) (ltb (earlier_count d bytes) 200) e in
      let a = and_right (ltb (recent_count d bytes) 50) (ltb (earlier_count d bytes) 200) e in
      (ltb-true (recent_count d bytes) 50 r, ltb-true (earlier_count d bytes) 200 a)

-- a claim disabled on the first day within two years or later is not disabled before it
one_count : (d : Date) (c : Claim) → is_recent d c ≡ true → is_earlier d c ≡ false
unfolding is_recent is_earlier
one_count d c h =
    let w = and_right (open_by d c) (leb (first_within d) (day_number c.disability)) h in
    rw (le-ltb (day_number c.disability) (first_within d) (leb-true (first_within d) (day_number c.disability) w)) (and-false (open_by d c))

-- the first of n groups from place k on that moved far
pub record First (new old : List ℕ) (k n i : ℕ) : Type 0 where
  pub low : k ≤ i
  pub high : i < k + n
  pub moved : moves_far (get_or new i 0) (get_or old i 0) ≡ true
  pub before : (j : ℕ) → k ≤ j → j < i → moves_far (get_or new j 0) (get_or old j 0) ≡ false

-- whether group i + 1 did
abbrev moves : List ℕ → List ℕ → ℕ → Bool
moves new old i = moves_far (get_or new i 0) (get_or old i 0)

module _ (new old : List ℕ) where
  -- what holds at place k, and from the next place on, holds from place k on
  next : (P : ℕ → Type 0) (k i : ℕ) → P k → ((j : ℕ) → suc k ≤ j → j < i → P j) → (j : ℕ) → k ≤ j → j < i → P j
  next P k i p f j l h = by (eqb j k) (λ t. P j) (λ q. subst⁻¹ P (eqb-true j k q) p) (λ q. f j (omega tests) h)

  first : (k n i : ℕ) → first_moved new old k n ≡ suc i → First new old k n i
  unfolding first_moved
  first k zero i e = absurd (omega tests)
  first k (suc n) i e =
      by (moves new old k) (λ t. pick t (suc k) (first_moved new old (suc k) n) ≡ suc i → First new old k (suc n) i)
      (λ q s.
      let u : i ≡ k = omega tests in
      rw u (record { low = omega tests; high = omega tests; moved = q; before = λ j l h. absurd (omega tests) }))
      (λ q s.
      let g = first (suc k) n i s in
      record {
        low = omega (tests, g.low);
        high = omega (tests, g.high);
        moved = g.moved;
        before = next (λ j. moves new old j ≡ false) k i q g.before;
      })
      e

  none : (k n : ℕ) → first_moved new old k n ≡ 0 → (j : ℕ) → k ≤ j → j < k + n → moves new old j ≡ false
  unfolding first_moved
  none k zero e = λ j l h. absurd (omega tests)
  none k (suc n) e =
      by (moves new old k) (λ t. pick t (suc k) (first_moved new old (suc k) n) ≡ 0 → (j : ℕ) → k ≤ j → j < k + suc n → moves new old j ≡ false)
      (λ q s. absurd (omega tests))
      (λ q s. next (λ j. moves new old j ≡ false) k (k + suc n) q (λ j l h. none (suc k) n s j l (omega tests)))
      e

pub small-company-rule : SmallCompanyRule
small-company-rule =
    record {
      exempt_where = λ d bytes new old z r a. exempt_where d bytes new old z (omega tests) (omega tests);
      exempt_only = λ d bytes new old z h. let p = exempt_only d bytes new old z h in (omega tests, omega tests);
      one_count = one_count;
      group_first =
          λ d bytes new old k z f e.
          let g = first new old 0 5 k (sym (group-is d bytes new old z f) ∙ e) in
          (omega (tests, g.high), g.moved, λ i h. g.before i (omega tests) h);
      group_none =
          λ d bytes new old i z f e h.
          none new old 0 5 (sym (group-is d bytes new old z f) ∙ e) i (omega tests) (omega tests);
    }
