-- The laws of the rate table, which this crate's proofs and the crates above cite.
-- Assumes nothing.
use Prim.Native.Nat.{ℕ, zero, suc, ◌+◌, ◌*◌, ◌≤◌, ◌<◌, max}
use mathlib.Core.Path.{◌≡◌, refl, ap, subst}
use mathlib.Core.Bool.{true, false}
use mathlib.Core.List.{List}
use mathlib.Core.Logic.{⊎_elim}
use native.Mathlib.Nat.{not-suc-le-zero, le_of_suc-le-suc, eq-or-lt_of_le}
use native.Mathlib.Omega.{arith}
use borrow.Author.Tests.{leb-true, le-leb, lt-leb}
use lib.ListN.{get_or}
use lib.Dec.{leb, ltb}
use lib.IntN.{ℤ, ◌+ℤ◌}
use Rattle.basics.specs.Pick.{pick}
use Rattle.basics.specs.Checks.{check}
use Rattle.basics.specs.Series.{sum_to}
use Rattle.basics.proofs.Checks.{check-passed, then-passed}
use Rattle.basics.proofs.Tests.{tests, by, and_left, and_right}
use Rattle.rates.specs.Rates.{place, recovery_rate, death_rate, table_sound, rates_sound_to, rates_sound, cells, rate_check, group_of, last_of, group_last}
use Rattle.rates.specs.design.Prepared.{rates_over}

-- recovery and death rate of a cell together
abbrev pub both_rates : List ℕ → ℕ → ℕ → ℕ
both_rates rates cell d = recovery_rate rates cell d + death_rate rates cell d

-- where the first m durations from 2 on are sound, each of them is
pub sound-at :
    (rates : List ℕ) (cell m k : ℕ) → rates_sound_to rates cell m ≡ true → k < m → both_rates rates cell (k + 2) ≤ 1000000
unfolding rates_sound_to
sound-at rates cell zero k e h = absurd (not-suc-le-zero h)
sound-at rates cell (suc m) k e h =
    ⊎_elim
    (λ (q : k ≡ m). rw q (leb-true _ _ (and_right (rates_sound_to rates cell m) _ e)))
    (λ (l : k < m). sound-at rates cell m k (and_left (rates_sound_to rates cell m) _ e) l)
    (eq-or-lt_of_le (le_of_suc-le-suc h))

-- what passing the checks 6 to 8 says
pub all-passed :
    (rates : List ℕ) (cell : ℕ) → rate_check rates cell ≡ 0
    → (table_sound rates ≡ true) × (ltb cell (cells rates) ≡ true) × (rates_sound rates cell ≡ true)
unfolding rate_check
all-passed rates cell e =
    let p = then-passed (check (table_sound rates) 6) _ e in
    let q = then-passed (check (ltb cell (cells rates)) 7) _ p.1 in (
      check-passed (table_sound rates) 6 (omega arith) p.0,
      check-passed (ltb cell (cells rates)) 7 (omega arith) q.0,
      check-passed (rates_sound rates cell) 8 (omega arith) q.1,
    )

-- every duration has the place of one of the 479 that the check looks at
place-again : (d : ℕ) → place (place d + 2) ≡ place d
unfolding place
place-again d = omega arith

pub place-below : (d : ℕ) → place d < 479
unfolding place
place-below d = omega arith

module _ (rates : List ℕ) (cell d : ℕ) (passed : rate_check rates cell ≡ 0) where
  pub rates-bound : recovery_rate rates cell d + death_rate rates cell d ≤ 1000000
  unfolding rates_sound recovery_rate death_rate
  rates-bound =
      subst (λ (p : ℕ). get_or rates (cell * 958 + p) 0 + get_or rates (cell * 958 + 479 + p) 0 ≤ 1000000) (place-again d)
      (sound-at rates cell 479 (place d)
      (all-passed rates cell passed).2 (place-below d))

  pub recovery-bound : recovery_rate rates cell d ≤ 1000000
  recovery-bound = omega (arith, rates-bound)

  pub death-bound : death_rate rates cell d ≤ 1000000
  death-bound = omega (arith, rates-bound)

-- the five groups of a duration with their last durations, each with the durations it has
module _ (d : ℕ) (P : ℕ → ℕ → Type 0) where
  pub by-group :
      (d ≤ 3 → P 1 3) → (3 < d → d ≤ 24 → P 2 24) → (24 < d → d ≤ 60 → P 3 60) → (60 < d → d ≤ 120 → P 4 120)
      → (120 < d → P 5 4294967295) → P (group_of d) (group_last d)
  unfolding group_of group_last
  by-group p1 p2 p3 p4 p5 =
      at 3 1 (λ e. p1 (omega tests)) (λ a.
      at 24 2 (λ e. p2 (omega tests) (omega tests)) (λ b.
      at 60 3 (λ e. p3 (omega tests) (omega tests)) (λ c.
      at 120 4 (λ e. p4 (omega tests) (omega tests)) (λ e. p5 (omega tests)))))
    where
      at : {g l : ℕ} (cut k : ℕ) → (leb d cut ≡ true → P k cut) → (leb d cut ≡ false → P g l) → P (pick (leb d cut) k g) (pick (leb d cut) cut l)
      at {g} {l} cut k = by (leb d cut) (λ t. P (pick t k g) (pick t cut l))

-- the last duration of a duration's group is that group's last
pub last-of-group : (d : ℕ) → last_of (group_of d) ≡ group_last d
unfolding last_of
last-of-group d = by-group d (λ g l. last_of g ≡ l) (λ _. refl) (λ _ _. refl) (λ _ _. refl) (λ _ _. refl) (λ _. refl)

-- what holds of each of the five groups holds of a duration's
pub each-group : (P : ℕ → Type 0) → P 1 → P 2 → P 3 → P 4 → P 5 → (d : ℕ) → P (group_of d)
each-group P p1 p2 p3 p4 p5 d = by-group d (λ g _. P g) (λ _. p1) (λ _ _. p2) (λ _ _. p3) (λ _ _. p4) (λ _. p5)

pub group-low : (d : ℕ) → 1 ≤ group_of d
group-low = each-group (λ g. 1 ≤ g) (omega arith) (omega arith) (omega arith) (omega arith) (omega arith)

pub group-high : (d : ℕ) → group_of d ≤ 5
group-high = each-group (λ g. g ≤ 5) (omega arith) (omega arith) (omega arith) (omega arith) (omega arith)

-- the durations from one to the last of its group are in that group, and it is one of them
pub last-from : (d : ℕ) → d ≤ 4294967295 → d ≤ group_last d
last-from d h = by-group d (λ _ l. d ≤ l) (λ p. p) (λ _ p. p) (λ _ p. p) (λ _ p. p) (λ _. h)

pub group-same : (d e : ℕ) → d ≤ e → e ≤ group_last d → group_of e ≡ group_of d
unfolding group_of
group-same d e h =
    by-group d (λ g l. e ≤ l → group_of e ≡ g)
    (λ p q. simp (le-leb e 3 (omega arith)))
    (λ o p q. simp (lt-leb e 3 (omega arith), le-leb e 24 (omega arith)))
    (λ o p q. simp (lt-leb e 3 (omega arith), lt-leb e 24 (omega arith), le-leb e 60 (omega arith)))
    (λ o p q. simp (lt-leb e 3 (omega arith), lt-leb e 24 (omega arith), lt-leb e 60 (omega arith), le-leb e 120 (omega arith)))
    (λ o q. simp (lt-leb e 3 (omega arith), lt-leb e 24 (omega arith), lt-leb e 60 (omega arith), lt-leb e 120 (omega arith)))

-- a duration past the last of a group is in a later group
past : (e k : ℕ) → (e ≤ 3 → k < 1) → (e ≤ 24 → k < 2) → (e ≤ 60 → k < 3) → (e ≤ 120 → k < 4) → k < 5 → k < group_of e
past e k p1 p2 p3 p4 p5 = by-group e (λ g _. k < g) p1 (λ _. p2) (λ _. p3) (λ _. p4) (λ _. p5)

pub group-next : (d e : ℕ) → group_last d < e → e ≤ 4294967295 → group_of d < group_of e
group-next d e =
    by-group d (λ g l. l < e → e ≤ 4294967295 → g < group_of e)
    (λ p q h. past e 1 (λ x. omega arith) (λ x. omega arith) (λ x. omega arith) (λ x. omega arith) (omega arith))
    (λ o p q h. past e 2 (λ x. omega arith) (λ x. omega arith) (λ x. omega arith) (λ x. omega arith) (omega arith))
    (λ o p q h. past e 3 (λ x. omega arith) (λ x. omega arith) (λ x. omega arith) (λ x. omega arith) (omega arith))
    (λ o p q h. past e 4 (λ x. omega arith) (λ x. omega arith) (λ x. omega arith) (λ x. omega arith) (omega arith))
    (λ o q h. absurd (omega arith))

-- the rates over n durations from one on that isn't before 2: each adds its own
module _ (rate : ℕ → ℤ) (d n : ℕ) (h : 2 ≤ d) where
  from_itself : max d 2 ≡ d
  from_itself = omega arith

  pub over-is : rates_over rate d n ≡ sum_to (λ j. rate (d + j)) n
  unfolding rates_over
  over-is = rw from_itself

  pub over-more : rates_over rate d (suc n) ≡ rates_over rate d n +ℤ rate (d + n)
  unfolding rates_over sum_to
  over-more = ap (λ (x : ℕ). rates_over rate d n +ℤ rate (x + n)) from_itself
