-- Running sums in place, and sums of rates as differences of running sums.
-- Assumes nothing.
use Prim.Native.Nat.{ℕ, zero, suc, ◌+◌, ◌-◌, ◌*◌, ◌≤◌, ◌<◌}
use mathlib.Core.Path.{◌≡◌, refl, sym, ap, ap₂, ◌∙◌}
use mathlib.Core.List.{List, [], ◌∷◌, ◌++◌, append_assoc, append-nil}
use native.Mathlib.Omega.{arith}
use native.Mathlib.Nat.{zero-add, add-zero, add-suc, add_comm, mul_comm, mul-le-mul_right}
use native.Mathlib.Numerals.{add-one}
use lib.ListN.{length, get_or, set, take, drop, length-set, drop_of_length-le}
use lib.Seq.{drop-cons, drop-set-lt, take-suc-set, take_all}
use lib.IntN.{ℤ, pos, nat_abs, neg_ℤ, ◌+ℤ◌, ◌-ℤ◌, ◌*ℤ◌, +ℤ_idr, +ℤ_assoc, +ℤ_comm, +ℤ_invr, -ℤ-+ℤ_cancel}
use Rattle.basics.specs.Series.{sum_to}
use Rattle.basics.proofs.Integers.{sub_is, size-sub, size-product, plus-minus}
use Rattle.rates.specs.Rates.{place}
use Rattle.rates.proofs.Laws.{place-below, over-more}
use Rattle.rates.specs.design.Prepared.{running_from, sum_before, prepared_rate, rates_over}

-- what stands at a place of running sums
pub running-length : (s : ℕ) (xs : List ℕ) → length (running_from s xs) ≡ length xs
unfolding running_from
running-length s [] = refl
running-length s (x ∷ xs) = ap suc (running-length (s + x) xs)

pub running-first : (s : ℕ) (xs : List ℕ) → 0 < length xs → get_or (running_from s xs) 0 0 ≡ s + get_or xs 0 0
unfolding running_from
running-first s [] h = absurd (omega arith)
running-first s (x ∷ xs) h = refl

pub running-next :
    (s : ℕ) (xs : List ℕ) (i : ℕ) → suc i < length xs → get_or (running_from s xs) (suc i) 0 ≡ get_or xs (suc i) 0 + get_or (running_from s xs) i 0
unfolding running_from
running-next s [] i h = absurd (omega arith)
running-next s (x ∷ xs) zero h = running-first (s + x) xs (omega arith) ∙ add_comm (s + x) (get_or xs 0 0)
running-next s (x ∷ xs) (suc i) h = running-next (s + x) xs i (omega arith)

-- the rates of a table that has the running sums of some numbers from a place on are these numbers
pub running-rates :
    (table : List ℕ) (at : ℕ) (xs : List ℕ) → length xs ≡ 479 → ((i : ℕ) → i < 479 → get_or table (at + i) 0 ≡ get_or (running_from 0 xs) i 0)
    → (d : ℕ) → prepared_rate table at d ≡ pos (get_or xs (place d) 0)
unfolding prepared_rate sum_before
running-rates table at xs len same d = step (place d) (place-below d)
  where
    step : (p : ℕ) → p < 479 → pos (get_or table (at + p) 0) -ℤ sum_before table at p ≡ pos (get_or xs p 0)
    step zero h =
        ap (λ (x : ℕ). pos x -ℤ pos 0) (same 0 h ∙ running-first 0 xs (omega arith) ∙ zero-add (get_or xs 0 0)) ∙ +ℤ_idr (pos (get_or xs 0 0))
    step (suc p) h =
        ap₂ (λ (x y : ℕ). pos x -ℤ pos y) (same (suc p) h ∙ running-next 0 xs p (omega arith)) (same p (omega arith))
        ∙ plus-minus (pos (get_or xs (suc p) 0)) (pos (get_or (running_from 0 xs) p 0))

-- the first i of some numbers l₀ replaced by their running sums, the last of which is s
pub record Summed (l₀ l : List ℕ) (s i : ℕ) : Type 0 where
  pub size : length l ≡ length l₀
  pub bound : s ≤ 1000000 * i
  pub rest : drop i l ≡ drop i l₀
  pub done : take i l ++ running_from s (drop i l₀) ≡ running_from 0 l₀

pub summed-none : (l₀ : List ℕ) (s i : ℕ) → s ≡ 0 → i ≡ 0 → Summed l₀ l₀ s i
summed-none l₀ s i e f = record { size = refl; bound = omega arith; rest = refl; done = rw (e, f) }

module _ (l₀ l : List ℕ) (s i : ℕ) (z : Summed l₀ l s i) where
  pub summed-all : length l₀ ≤ i → l ≡ running_from 0 l₀
  unfolding running_from
  summed-all h =
      let a = take_all i l (omega (arith, z.size)) in
      let b = drop_of_length-le l₀ h in
      sym (append-nil l) ∙ rw (a, b) at z.done

  module _ (h : i < length l₀) where
    first : drop i l ≡ get_or l i 0 ∷ drop (suc i) l
    first = drop-cons l i 0 (omega (arith, z.size))

    pub summed-next : get_or l i 0 ≡ get_or l₀ i 0
    summed-next = let b = drop-cons l₀ i 0 h in let r = z.rest in cc first

    pub summed-more : ((k : ℕ) → get_or l₀ k 0 ≤ 1000000) → Summed l₀ (set l i (s + get_or l i 0)) (s + get_or l i 0) (i + 1)
    unfolding running_from
    summed-more small =
        let len : i < length l = omega (arith, z.size) in
        record {
          size = simp length-set z.size;
          bound = omega (arith, small i, summed-next, z.bound);
          rest = let b = drop-cons l₀ i 0 h in let r = z.rest in rw (add-one, drop-set-lt (suc i) l i (s + get_or l i 0) (omega arith)) (cc first);
          done =
              rw (add-one, take-suc-set l i (s + get_or l i 0) len, append_assoc, summed-next)
              (rw (drop-cons l₀ i 0 h) at z.done);
        }

-- the running sum before a place
pub before-first : (table : List ℕ) (at place : ℕ) → place ≡ 0 → pos 0 ≡ sum_before table at place
unfolding sum_before
before-first table at zero e = refl
before-first table at (suc p) e = absurd (omega arith)

pub before-next : (table : List ℕ) (at place r : ℕ) → 0 < place → r ≡ get_or table (at + place - 1) 0 → pos r ≡ sum_before table at place
unfolding sum_before
before-next table at zero r h e = absurd (omega arith)
before-next table at (suc p) r h e =
    let q : at + suc p - 1 ≡ at + p = omega arith in
    ap pos (rw q at e)

-- a difference of two numbers of the table, and one taken several times
pub difference-size : (a b : ℕ) → a ≤ 4294967295 → b ≤ 4294967295 → nat_abs (pos a -ℤ pos b) ≤ 4294967295
difference-size a b h k = rw (← sub_is a b) (size-sub a b 4294967295 h k)

pub times-size : (n : ℕ) (z : ℤ) → nat_abs z ≤ 4294967295 → nat_abs (pos n *ℤ z) ≤ 4294967295 * n
times-size n z h = rw (size-product (pos n) z, mul_comm n (nat_abs z)) (mul-le-mul_right n h)

-- differences over neighbouring stretches add up
chain : (a b c : ℤ) → (b -ℤ a) +ℤ (c -ℤ b) ≡ c -ℤ a
chain a b c = +ℤ_comm (b -ℤ a) (c -ℤ b) ∙ sym (+ℤ_assoc (c -ℤ b) b (neg_ℤ a)) ∙ ap (λ (x : ℤ). x +ℤ neg_ℤ a) (-ℤ-+ℤ_cancel c b)

-- the rates of running sums at n places from p on are one difference
module _ (table : List ℕ) (at p : ℕ) where
  abbrev before : ℕ → ℤ
  before = sum_before table at

  rate-after : (n : ℕ) → p + n < 479 → prepared_rate table at (p + 2 + n) ≡ before (suc (p + n)) -ℤ before (p + n)
  unfolding prepared_rate sum_before place
  rate-after n h = let e : place (p + 2 + n) ≡ p + n = omega arith in rw e

  over-running : (n : ℕ) → p + n ≤ 479 → rates_over (prepared_rate table at) (p + 2) n ≡ before (p + n) -ℤ before p
  unfolding rates_over sum_to
  over-running zero h = rw (add-zero p) (sym (+ℤ_invr (before p)))
  over-running (suc n) h =
      over-more (prepared_rate table at) (p + 2) n (omega arith)
      ∙ rw (over-running n (omega arith), rate-after n (omega arith), add-suc p n) (chain (before p) (before (p + n)) (before (suc (p + n))))

  -- the difference of the numbers before the last place and before the first
  pub difference-is : (n : ℕ) (s : ℤ) (x y : ℕ) → p + n ≤ 479 → s ≡ pos x -ℤ pos y → pos x ≡ before (p + n) → pos y ≡ before p
      → s ≡ rates_over (prepared_rate table at) (p + 2) n
  difference-is n s x y h e f g = e ∙ ap₂ (λ (u v : ℤ). u -ℤ v) f g ∙ sym (over-running n h)
