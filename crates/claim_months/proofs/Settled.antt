-- A claim month s..p seen from a boundary day x: the thirtieths of it that are settled before x. In every window b..e the month's
-- thirtieths are what is settled before e + 1 less what is settled before b, whether or not the month has a record there.
-- Assumes nothing.
use Prim.Native.Nat.{ℕ, ◌+◌, ◌-◌, ◌≤◌, ◌<◌, min, max}
use mathlib.Core.Path.{◌≡◌, refl}
use mathlib.Core.Bool.{Bool, true, false, ◌&&◌, and-false}
use borrow.Author.Tests.{le-leb, lt-leb, lt-ltb, le-ltb}
use lib.Dec.{leb, ltb}
use native.Mathlib.Nat.{min-eq_left}
use Rattle.basics.specs.Pick.{pick}
use Rattle.basics.proofs.Tests.{tests, by, pick_is, is-pick, and-false-cases}
use mathlib.Core.Logic.{◌⊎◌, inl, inr, ⊎_elim}

-- thirtieths of the month before day x, of a claim exposed all the while
abbrev pub before : ℕ → ℕ → ℕ → ℕ
before s p x = pick (leb x s) 0 (pick (leb x p) (30 - (p + 1 - x)) 30)

-- the same of a claim that is closed (z) on day t, with a as the closing month's U
abbrev pub settled : Bool → ℕ → ℕ → ℕ → ℕ → ℕ → ℕ
settled z t a s p x = pick (z && ltb t x) (pick (ltb t s) 0 (pick (leb t p) a 30)) (before s p x)

-- the definitions of the specification, over what they see of the claim
abbrev pub last_day : Bool → ℕ → ℕ → ℕ
last_day z t e = pick z (min e t) e

abbrev pub meet : Bool → ℕ → ℕ → ℕ → ℕ → ℕ → ℕ → Bool
meet z t bcd s p b e = leb (max bcd b) (last_day z t e) && leb s (last_day z t e) && leb (max bcd b) p

abbrev pub upper : Bool → ℕ → ℕ → ℕ → ℕ → ℕ → ℕ → ℕ
upper z t a s p b e =
    pick (ltb p (last_day z t e)) 30 (pick (z && leb b t && leb t e) a (30 - (p - last_day z t e)))

module _ (t a bcd s p b e : ℕ) (sp : s ≤ p) (ps : p ≤ s + 30) (be : b ≤ e) (bs : bcd ≤ s) where
  -- of an open claim, or one that is not closed before e + 1: what is settled before e + 1 in a month that starts by e
  before-end : s ≤ e → before s p (e + 1) ≡ pick (ltb p e) 30 (30 - (p - e))
  before-end h =
      is-pick (ltb p e) (λ q1. pick_is (leb (e + 1) s) (λ q2. omega tests) (λ q3. pick_is (leb (e + 1) p) (λ q4. omega tests) (λ q5. omega tests)))
      (λ q6. pick_is (leb (e + 1) s) (λ q7. omega tests) (λ q8. pick_is (leb (e + 1) p) (λ q9. omega tests) (λ q10. omega tests)))

  -- what is settled before b in a month that ends on b or later
  before-start : b ≤ p → before s p b ≡ pick (leb b s) 0 (30 - (p - b + 1))
  before-start h =
      is-pick (leb b s) (λ q11. pick_is (leb b s) (λ q12. omega tests) (λ q13. pick_is (leb b p) (λ q14. omega tests) (λ q15. omega tests)))
      (λ q16. pick_is (leb b s) (λ q17. omega tests) (λ q18. pick_is (leb b p) (λ q19. omega tests) (λ q20. omega tests)))

  -- in a month that meets f..l, U is what is settled before e + 1 ..
  pub upper-settled : (z : Bool) → max bcd b ≤ pick z (min e t) e → s ≤ pick z (min e t) e → settled z t a s p (e + 1) ≡ upper z t a s p b e
  upper-settled false h1 h2 = before-end h2
  upper-settled true h1 h2 =
      let g1 : max bcd b ≤ min e t = h1 in
      let g2 : s ≤ min e t = h2 in
      pick_is (ltb t (e + 1))
      (λ q1.
      rw (le-leb b t (omega tests), le-leb t e (omega tests))
      (pick_is (ltb t s) (λ q2. absurd (omega tests))
      (λ q2.
      pick_is (leb t p) (λ q3. is-pick (ltb p (min e t)) (λ q4. absurd (omega tests)) (λ q4. refl))
      (λ q3. is-pick (ltb p (min e t)) (λ q4. refl) (λ q4. absurd (omega tests))))))
      (λ q1.
      rw (lt-leb t e (omega tests), and-false, min-eq_left {n = e} {m = t} (omega tests))
      (before-end (omega tests)))

  -- .. and B what is settled before b
  pub lower-settled : (z : Bool) → max bcd b ≤ pick z (min e t) e → max bcd b ≤ p → settled z t a s p b ≡ pick (leb b s) 0 (30 - (p - b + 1))
  lower-settled false h1 h3 = before-start (omega tests)
  lower-settled true h1 h3 =
      let g1 : max bcd b ≤ min e t = h1 in
      pick_is (ltb t b) (λ q1. absurd (omega tests)) (λ q1. before-start (omega tests))

  -- a month that doesn't meet f..l starts after l or ends before b, unless l is before b
  unmet : (l : ℕ) → (leb (max bcd b) l && leb s l && leb (max bcd b) p) ≡ false → (l < s) ⊎ ((p < b) ⊎ (l < b))
  unmet l m =
      ⊎_elim
      (λ m1.
      ⊎_elim
      (λ q. by (ltb l s) (λ _. (l < s) ⊎ ((p < b) ⊎ (l < b))) (λ k. inl (omega tests)) (λ k. inr (inr (omega tests))))
      (λ q. inl (omega tests)) (and-false-cases (leb (max bcd b) l) (leb s l) m1))
      (λ q. inr (inl (omega tests)))
      (and-false-cases (leb (max bcd b) l && leb s l) (leb (max bcd b) p) m)

  before_same : (e < s) ⊎ ((p < b) ⊎ (e < b)) → before s p (e + 1) ≡ before s p b
  before_same w =
      ⊎_elim (λ k. rw (le-leb (e + 1) s (omega tests), le-leb b s (omega tests)))
      (λ w2.
      ⊎_elim (λ k. rw (lt-leb (e + 1) s (omega tests), lt-leb (e + 1) p (omega tests), lt-leb b s (omega tests), lt-leb b p (omega tests)))
      (λ k. absurd (omega tests)) w2)
      w

  -- where the month doesn't meet f..l, as much is settled before b as before e + 1
  pub unmet-settled : (z : Bool) → (z ≡ true → bcd ≤ t) → meet z t bcd s p b e ≡ false → settled z t a s p (e + 1) ≡ settled z t a s p b
  unmet-settled false h m = before_same (unmet e m)
  unmet-settled true h m =
      let ht : bcd ≤ t = h refl in
      by (ltb t b) (λ y. pick (ltb t (e + 1)) inner (before s p (e + 1)) ≡ pick y inner (before s p b))
      (λ q1. rw (lt-ltb t (e + 1) (omega tests)))
      (λ q1.
      pick_is (ltb t (e + 1))
      (λ q2.
      ⊎_elim (λ k. rw (lt-ltb t s (omega tests), le-leb b s (omega tests)))
      (λ w2.
      ⊎_elim
      (λ k. rw (le-ltb t s (omega tests), lt-leb t p (omega tests), lt-leb b s (omega tests), lt-leb b p (omega tests)))
      (λ k. absurd (omega tests)) w2)
      (unmet (min e t) m))
      (λ q2. before_same (unmet e (rw (min-eq_left {n = e} {m = t} (omega tests)) at m))))
    where
      inner : ℕ
      inner = pick (ltb t s) 0 (pick (leb t p) a 30)
