-- A number's digits: their number is the fewest that hold it, and at most 20 where the number has 64 bits, 19 where it is a sum's size, 10 where it has 32 bits.
-- Assumes nothing.
use Prim.Native.Nat.{ℕ, zero, suc, ◌-◌, ◌/◌, ◌^◌, ◌≤◌, ◌<◌}
use mathlib.Core.Path.{◌≡◌, refl, ap, ◌∙◌}
use mathlib.Core.List.{List, [], ◌∷◌}
use native.Mathlib.Omega.{arith}
use native.Mathlib.Numerals.{unary_clauses}
use native.Mathlib.Nat.{pow-succ', one-le-pow}
use lib.ListN.{length, length-append}
use lib.Dec.{ltb}
use lib.IntN.{negsuc}
use Rattle.report.specs.Digits.{last_digits, IsDigitCount}
use Rattle.basics.specs.Pick.{pick}
use Rattle.basics.proofs.Tests.{tests, by, is-pick}
use Rattle.report.specs.Text.{places_up_to, places, number_text, signed_text}

digits-length : (b k n : ℕ) → length (last_digits b k n) ≡ k
digits-length b zero n = refl
digits-length b (suc k) n = length-append (last_digits b k (n / b)) _ ∙ let h = digits-length b k (n / b) in omega arith

-- a number below ten has one digit
one-digit : (n k : ℕ) → n < 10 → IsDigitCount 10 1 n k → k ≡ 1
one-digit n zero h f = absurd (omega (arith, f.0))
one-digit n (suc zero) h f = refl
one-digit n (suc (suc j)) h f =
    let p = pow-succ' 10 j in
    let q = one-le-pow j 10 (omega arith) in
    let l = simp unary_clauses at (f.2 (omega arith)) in
    absurd (omega arith)

-- a larger one has one more than its tenth
tenth : (n j : ℕ) → IsDigitCount 10 1 n (suc (suc j)) → IsDigitCount 10 1 (n / 10) (suc j)
tenth n j f =
    let p = pow-succ' 10 (suc j) in
    let l = simp unary_clauses at (f.2 (omega arith)) in
    let q = pow-succ' 10 j in
    let u : n < 10 ^ suc (suc j) = f.1 in
    let d : suc j - 1 ≡ j = omega arith in
    let g : 10 ^ (suc j - 1) ≡ 10 ^ j = ap (λ (k : ℕ). 10 ^ k) d in
    (omega arith, omega arith, λ h. omega arith)

fewest-up-to : (more n k : ℕ) → n < 10 ^ suc more → IsDigitCount 10 1 n k → k ≡ places_up_to more n
unfolding places_up_to
fewest-up-to zero n k h f = one-digit n k (omega (arith, h, pow-succ' 10 0)) f
fewest-up-to (suc more) n zero h f = absurd (omega (arith, f.0))
fewest-up-to (suc more) n (suc zero) h f =
    is-pick (ltb n 10) (λ q. refl) (λ q. absurd (let u : n < 10 ^ 1 = f.1 in omega tests))
fewest-up-to (suc more) n (suc (suc j)) h f =
    let p = pow-succ' 10 (suc more) in
    is-pick (ltb n 10) (λ q. one-digit n (suc (suc j)) (omega tests) f)
    (λ q. ap suc (fewest-up-to more (n / 10) (suc j) (omega arith) (tenth n j f)))

pub fewest-places : (n k : ℕ) → n < 18446744073709551616 → IsDigitCount 10 1 n k → k ≡ places n
unfolding places
fewest-places n k h f = fewest-up-to 19 n k (omega (arith, h)) f

-- as the code's digits give it
pub number_digits : (n k : ℕ) (text : List ℕ) → n < 18446744073709551616 → IsDigitCount 10 1 n k → text ≡ last_digits 10 k n → text ≡ number_text n
unfolding number_text
number_digits n k text h f e = e ∙ ap (λ (j : ℕ). last_digits 10 j n) (fewest-places n k h f)

-- how long the text is
up-to-most : (more n : ℕ) → places_up_to more n ≤ suc more
unfolding places_up_to
up-to-most zero n = omega arith
up-to-most (suc more) n =
    let r = up-to-most more (n / 10) in
    by (ltb n 10) (λ t. pick t 1 (suc (places_up_to more (n / 10))) ≤ suc (suc more)) (λ q. omega arith) (λ q. omega arith)

pub fewest-most : (n k : ℕ) → n < 18446744073709551616 → IsDigitCount 10 1 n k → k ≤ 20
unfolding places
fewest-most n k h f = let e = fewest-places n k h f in let m = up-to-most 19 n in omega arith

up-to-short : (more less n : ℕ) → n < 10 ^ suc less → places_up_to more n ≤ suc less
unfolding places_up_to
up-to-short zero less n h = omega arith
up-to-short (suc more) zero n h =
    by (ltb n 10) (λ t. pick t 1 (suc (places_up_to more (n / 10))) ≤ 1) (λ q. omega arith) (λ q. absurd (omega (tests, h, pow-succ' 10 0)))
up-to-short (suc more) (suc less) n h =
    let p = pow-succ' 10 (suc less) in
    let r = up-to-short more less (n / 10) (omega arith) in
    by (ltb n 10) (λ t. pick t 1 (suc (places_up_to more (n / 10))) ≤ suc (suc less)) (λ q. omega arith) (λ q. omega arith)

text-length : (less n : ℕ) → n < 10 ^ suc less → length (number_text n) ≤ suc less
unfolding number_text places
text-length less n h = let e = digits-length 10 (places_up_to 19 n) n in let m = up-to-short 19 less n h in omega arith

pub short-length : (n : ℕ) → n < 4294967296 → length (number_text n) ≤ 10
short-length n h = text-length 9 n (omega (arith, h))

-- the size of a sum
pub size-length : (n : ℕ) → n ≤ 9223372036854775808 → length (number_text n) ≤ 19
size-length n h = text-length 18 n (omega (arith, h))

-- 0, 1027931, the largest number of 64 bits, and −30
number-examples : (number_text 0 ≡ 48 ∷ []) × (number_text 1027931 ≡ 49 ∷ 48 ∷ 50 ∷ 55 ∷ 57 ∷ 51 ∷ 49 ∷ []) × (places 18446744073709551615 ≡ 20)
    × (signed_text (negsuc 29) ≡ 45 ∷ 51 ∷ 48 ∷ [])
unfolding number_text signed_text places places_up_to
number-examples = (refl, refl, refl, refl)
