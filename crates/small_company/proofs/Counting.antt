-- Both counts of the claims passed so far, one claim more, and the claims all counted.
-- Assumes nothing.
use Prim.Native.Nat.{ℕ, ◌+◌, ◌*◌, ◌<◌, ◌≤◌}
use mathlib.Core.Path.{◌≡◌, refl, sym, ap, ◌∙◌}
use mathlib.Core.Bool.{Bool, true, false, ◌&&◌, and-false}
use mathlib.Core.List.{List, ◌∷◌}
use borrow.Author.Tests.{eq-eqb, ne_eqb, le-leb, lt-leb, lt-ltb, le-ltb}
use lib.ListN.{length}
use Rattle.basics.specs.Pick.{pick}
use Rattle.basics.specs.Checks.{◌then◌}
use Rattle.basics.specs.declared.refusal.Refusal.{Refusal}
use Rattle.basics.specs.Refused.{number_of}
use Rattle.std.specs.Prelude.{Ok, Err}
use Rattle.basics.proofs.Tests.{tests, by, and_left, and_right}
use Rattle.basics.proofs.Checks.{then_next, then-fails}
use Rattle.calendar.specs.Calendar.{day_number}
use Rattle.claim_months.specs.declared.Claim.{Claim}
use Rattle.claim_months.specs.Claim.{claim_check}
use Rattle.claim_file.specs.Record.{claim_from, record_padded}
use Rattle.small_company.specs.declared.Counts.{Counts}
use Rattle.small_company.specs.SmallCompany.{listed_claims, claims_check, those}
use Rattle.small_company.specs.design.Private.{recent_in, earlier_in, counts_of, with_one, counted_of}
use Rattle.small_company.proofs.Refusals.{not-zero}
use Rattle.small_company.proofs.Listing.{records, claims_left, padded_left, claims-all, claims-at, padded-at, claims-end}

-- the claims of a list with a property, of which n stand before its record k
pub record Passed (p : Claim → Bool) (bytes : List ℕ) (k n : ℕ) : Type 0 where
  pub total : length (those p (listed_claims bytes)) ≡ n + length (those p (claims_left bytes k))
  pub high : n ≤ k

module _ (p : Claim → Bool) (bytes : List ℕ) where
  pub none_passed : Passed p bytes 0 0
  none_passed = let e = ap (λ (cs : List Claim). length (those p cs)) (claims-all bytes) in record { total = omega tests; high = omega tests }

  one : (c : Claim) (cs : List Claim) → length (those p (c ∷ cs)) ≡ pick (p c) 1 0 + length (those p cs)
  unfolding those
  one c cs = by (p c) (λ t. length (pick t (c ∷ those p cs) (those p cs)) ≡ pick t 1 0 + length (those p cs)) (λ q. omega tests) (λ q. omega tests)

  pub one-passed : (k n : ℕ) → k < records bytes → Passed p bytes k n → Passed p bytes (k + 1) (n + pick (p (claim_from bytes (32 * k))) 1 0)
  one-passed k n h a =
      let s : length (those p (claims_left bytes k)) ≡ pick (p (claim_from bytes (32 * k))) 1 0 + length (those p (claims_left bytes (k + 1)))
      = ap (λ (cs : List Claim). length (those p cs)) (claims-at bytes k h) ∙ one (claim_from bytes (32 * k)) (claims_left bytes (k + 1)) in
      let u : pick (p (claim_from bytes (32 * k))) 1 0 ≤ 1
      = by (p (claim_from bytes (32 * k))) (λ t. pick t 1 0 ≤ 1) (λ q. omega tests) (λ q. omega tests) in
      record { total = omega (tests, a.total); high = omega (tests, a.high) }

  pub all-passed : (k n : ℕ) → records bytes ≤ k → Passed p bytes k n → length (those p (listed_claims bytes)) ≡ n
  unfolding those
  all-passed k n h a =
      let z : length (those p (claims_left bytes k)) ≡ 0 = ap (λ (cs : List Claim). length (those p cs)) (claims-end bytes k h) in
      omega (tests, a.total)

-- both counts before record k, the checks of its claims and of those after it, and their zero bytes
pub record Walked (b e : ℕ) (bytes : List ℕ) (k : ℕ) (n : Counts) : Type 0 where
  pub place-high : k ≤ records bytes
  pub padded : padded_left bytes k ≡ true
  pub check-is : claims_check (listed_claims bytes) ≡ claims_check (claims_left bytes k)
  pub recents : Passed (recent_in b e) bytes k n.recent
  pub earliers : Passed (earlier_in b e) bytes k n.earlier

module _ (b e : ℕ) (bytes : List ℕ) where
  pub begins : padded_left bytes 0 ≡ true → Walked b e bytes 0 (record { recent = 0; earlier = 0 })
  begins s =
      record {
        place-high = omega tests;
        padded = s;
        check-is = ap claims_check (claims-all bytes);
        recents = none_passed (recent_in b e) bytes;
        earliers = none_passed (earlier_in b e) bytes;
      }

  module _ (k : ℕ) (n : Counts) (w : Walked b e bytes k n) (h : k < records bytes) where
    check-at : claims_check (listed_claims bytes) ≡ (claim_check (claim_from bytes (32 * k)) then claims_check (claims_left bytes (k + 1)))
    unfolding claims_check
    check-at = w.check-is ∙ ap claims_check (claims-at bytes k h)

    both : (record_padded bytes (32 * k) && padded_left bytes (k + 1)) ≡ true
    both = sym (padded-at bytes k h) ∙ w.padded

    pub is-padded : record_padded bytes (32 * k) ≡ true
    is-padded = and_left (record_padded bytes (32 * k)) (padded_left bytes (k + 1)) both

    pub refused : (r : Refusal) → number_of r ≡ claim_check (claim_from bytes (32 * k)) → Err (number_of r) ≡ counted_of b e (listed_claims bytes)
    unfolding counted_of
    refused r q =
        let f = not-zero r (claim_check (claim_from bytes (32 * k))) q in
        let s = check-at ∙ then-fails (claim_check (claim_from bytes (32 * k))) (claims_check (claims_left bytes (k + 1))) f in
        rw (q, s) (simp (ne_eqb (claim_check (claim_from bytes (32 * k))) 0 f))

    pub walks-on : (m : Counts) → claim_check (claim_from bytes (32 * k)) ≡ 0 → m ≡ with_one b e n (claim_from bytes (32 * k)) → Walked b e bytes (k + 1) m
    unfolding with_one
    walks-on m z s =
        rw s
        (record {
          place-high = omega tests;
          padded = and_right (record_padded bytes (32 * k)) (padded_left bytes (k + 1)) both;
          check-is = check-at ∙ then_next (claim_check (claim_from bytes (32 * k))) (claims_check (claims_left bytes (k + 1))) z;
          recents = one-passed (recent_in b e) bytes k n.recent h w.recents;
          earliers = one-passed (earlier_in b e) bytes k n.earlier h w.earliers;
        })

  pub ends : (k : ℕ) (n : Counts) → records bytes ≤ k → Walked b e bytes k n
      → Ok n ≡ counted_of b e (listed_claims bytes)
  unfolding counted_of counts_of claims_check
  ends k n h w =
      let z : claims_check (listed_claims bytes) ≡ 0 = w.check-is ∙ ap claims_check (claims-end bytes k h) in
      let r = all-passed (recent_in b e) bytes k n.recent h w.recents in
      let a = all-passed (earlier_in b e) bytes k n.earlier h w.earliers in
      rw z (λ i. Ok (record { recent = sym r i; earlier = sym a i }))

-- one claim more, by the day of its disability
module _ (b e : ℕ) (n : Counts) (c : Claim) where
  more : (r a : Bool) (m : Counts) → recent_in b e c ≡ r → earlier_in b e c ≡ a → m.recent ≡ n.recent + pick r 1 0
      → m.earlier ≡ n.earlier + pick a 1 0 → m ≡ with_one b e n c
  unfolding with_one
  more r a m p q u v = rw (p, q) (λ i. record { recent = u i; earlier = v i })

  pub closed : (c.status ≡ 0 → ⊥) → n ≡ with_one b e n c
  unfolding recent_in earlier_in
  closed f = let s = ne_eqb c.status 0 f in more false false n (simp s) (simp s) (omega tests) (omega tests)

  module _ (x : ℕ) (k : x ≡ day_number c.disability) where
    pub later : e < x → n ≡ with_one b e n c
    unfolding recent_in earlier_in
    later l =
        let s = lt-leb (day_number c.disability) e (omega tests) in
        more false false n (simp (s, and-false)) (simp (s, and-false)) (omega tests) (omega tests)

    module _ (z : c.status ≡ 0) (l : x ≤ e) where
      pub before : x < b → ◌≡◌ {A = Counts} (record { recent = n.recent; earlier = n.earlier + 1 }) (with_one b e n c)
      unfolding recent_in earlier_in
      before h =
          more false true (record { recent = n.recent; earlier = n.earlier + 1 })
          (simp (lt-leb b (day_number c.disability) (omega tests), and-false))
          (simp (eq-eqb c.status 0 z, le-leb (day_number c.disability) e (omega tests), lt-ltb (day_number c.disability) b (omega tests)))
          (omega tests) refl

      pub within : b ≤ x → ◌≡◌ {A = Counts} (record { recent = n.recent + 1; earlier = n.earlier }) (with_one b e n c)
      unfolding recent_in earlier_in
      within h =
          more true false (record { recent = n.recent + 1; earlier = n.earlier })
          (simp (eq-eqb c.status 0 z, le-leb (day_number c.disability) e (omega tests), le-leb b (day_number c.disability) (omega tests)))
          (simp (le-ltb (day_number c.disability) b (omega tests), and-false))
          refl (omega tests)
