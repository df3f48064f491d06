-- A table by its places: its length, what stands at a place, and tests of all its entries; a test at every place.
-- Assumes nothing.
use Prim.Native.Nat.{ℕ, zero, suc, zero-le, ◌+◌, ◌≤◌, ◌<◌}
use mathlib.Core.Path.{◌≡◌, refl, sym, ap, ap₂, ◌∙◌}
use mathlib.Core.Bool.{Bool, true, ◌&&◌}
use mathlib.Core.List.{List, [], ◌∷◌}
use lib.ListN.{length, get_or, set}
use lib.Dec.{leb, eqb}
use lib.IntN.{ℤ, pos, nat_abs}
use borrow.Author.Tests.{le-leb, leb-true}
use lib.Seq.{ext_get_or, get_or-set_same, get_or-set_other}
use Rattle.basics.proofs.Tests.{tests, by, and_left, and_right}
use Rattle.basics.specs.Tables.{table, all_within, all_at_most, every_place}

pub table-length : {A : Type 0} (n : ℕ) (f : ℕ → A) → length (table n f) ≡ n
unfolding table
table-length zero f = refl
table-length (suc n) f = ap suc (table-length n (λ k. f (suc k)))

pub table_at : {A : Type 0} (n : ℕ) (f : ℕ → A) (k : ℕ) (z : A) → k < n → get_or (table n f) k z ≡ f k
unfolding table
table_at zero f k z h = absurd (omega tests)
table_at (suc n) f zero z h = refl
table_at (suc n) f (suc k) z h = table_at n (λ k. f (suc k)) k z (omega tests)

pub table-past : {A : Type 0} (n : ℕ) (f : ℕ → A) (k : ℕ) (z : A) → n ≤ k → get_or (table n f) k z ≡ z
unfolding table
table-past zero f k z h = refl
table-past (suc n) f zero z h = absurd (omega tests)
table-past (suc n) f (suc k) z h = table-past n (λ k. f (suc k)) k z (omega tests)

-- two tables with the same entries, and a list with a table's entries
pub table_same : {A : Type 0} (n : ℕ) (f g : ℕ → A) → ((k : ℕ) → k < n → f k ≡ g k) → table n f ≡ table n g
unfolding table
table_same zero f g h = refl
table_same {A = A} (suc n) f g h =
    ap₂ (λ (x : A) (xs : List A). x ∷ xs) (h zero (omega tests)) (table_same n (λ k. f (suc k)) (λ k. g (suc k)) (λ k q. h (suc k) (omega tests)))

pub list-table : {A : Type 0} (n : ℕ) (f : ℕ → A) (z : A) (l : List A) → length l ≡ n → ((k : ℕ) → k < n → get_or l k z ≡ f k) → l ≡ table n f
list-table n f z l e h = ext_get_or z l (table n f) (e ∙ sym (table-length n f)) (λ k q. h k (omega (tests, e)) ∙ sym (table_at n f k z (omega (tests, e))))

-- all entries of a list pass where each does
pub within-list : (m : ℕ) (l : List ℤ) → ((k : ℕ) → k < length l → nat_abs (get_or l k (pos 0)) ≤ m) → all_within m l ≡ true
unfolding all_within
within-list m [] h = refl
within-list m (x ∷ xs) h = rw (le-leb (nat_abs x) m (h zero (omega tests))) (within-list m xs (λ k q. h (suc k) (omega tests)))

pub at-most-list : (m : ℕ) (l : List ℕ) → ((k : ℕ) → k < length l → get_or l k 0 ≤ m) → all_at_most m l ≡ true
unfolding all_at_most
at-most-list m [] h = refl
at-most-list m (x ∷ xs) h = rw (le-leb x m (h zero (omega tests))) (at-most-list m xs (λ k q. h (suc k) (omega tests)))

-- no entry of a list is beyond a bound that all are held to
pub within-at : (m : ℕ) (l : List ℤ) (k : ℕ) → all_within m l ≡ true → nat_abs (get_or l k (pos 0)) ≤ m
unfolding all_within
within-at m [] k h = zero-le
within-at m (x ∷ l) zero h = let s = and_left (leb (nat_abs x) m) (all_within m l) h in omega tests
within-at m (x ∷ l) (suc k) h = within-at m l k (and_right (leb (nat_abs x) m) (all_within m l) h)

pub at-most-at : (m : ℕ) (l : List ℕ) (k : ℕ) → all_at_most m l ≡ true → get_or l k 0 ≤ m
unfolding all_at_most
at-most-at m [] k e = omega tests
at-most-at m (x ∷ xs) zero e = leb-true x m (and_left (leb x m) (all_at_most m xs) e)
at-most-at m (x ∷ xs) (suc k) e = at-most-at m xs k (and_right (leb x m) (all_at_most m xs) e)

-- a list that is filled place by place: with the entry of place k stored, its first k + 1 entries are right
pub filled_more : {A : Type 0} (f : ℕ → A) (z : A) (l : List A) (k : ℕ) (v : A) → k < length l → ((i : ℕ) → i < k → get_or l i z ≡ f i) → v ≡ f k
    → (i : ℕ) → i < k + 1 → get_or (set l k v) i z ≡ f i
filled_more f z l k v h p e i q =
    by (eqb i k) (λ _. get_or (set l k v) i z ≡ f i)
    (λ y. let s : i ≡ k = omega tests in rw s (get_or-set_same l k v z h ∙ e))
    (λ y. get_or-set_other l k i v z (λ (s : i ≡ k). omega tests) ∙ p i (omega tests))

-- a test of each two consecutive entries of a list and the place of the first, counted from i: computed over the whole list, it holds at every place
abbrev pub all_steps : {A : Type 0} → (ℕ → A → A → Bool) → ℕ → List A → Bool
all_steps f i [] = true
all_steps f i (x ∷ []) = true
all_steps f i (x ∷ y ∷ l) = f i x y && all_steps f (suc i) (y ∷ l)

steps-from : {A : Type 0} (f : ℕ → A → A → Bool) (z : A) (l : List A) (i : ℕ) → all_steps f i l ≡ true → (k : ℕ) → suc k < length l
    → f (i + k) (get_or l k z) (get_or l (suc k) z) ≡ true
steps-from f z [] i e k h = absurd (omega tests)
steps-from f z (x ∷ []) i e k h = absurd (omega tests)
steps-from f z (x ∷ y ∷ l) i e zero h =
    let p : i + 0 ≡ i = omega tests in
    rw p (and_left (f i x y) (all_steps f (suc i) (y ∷ l)) e)
steps-from f z (x ∷ y ∷ l) i e (suc k) h =
    let p : i + suc k ≡ suc i + k = omega tests in
    rw p (steps-from f z (y ∷ l) (suc i) (and_right (f i x y) (all_steps f (suc i) (y ∷ l)) e) k (omega tests))

pub step-at : {A : Type 0} (f : ℕ → A → A → Bool) (z : A) (l : List A) → all_steps f 0 l ≡ true → (k : ℕ) → suc k < length l
    → f k (get_or l k z) (get_or l (suc k) z) ≡ true
step-at f z l e k h = let p : 0 + k ≡ k = omega tests in rw p at (steps-from f z l 0 e k h)

-- a test that holds at every place below n holds at each of them, and the other way; and two that come out alike do so together
pub every-at : (n : ℕ) (f : ℕ → Bool) → every_place n f ≡ true → (k : ℕ) → k < n → f k ≡ true
unfolding every_place
every-at zero f e k h = absurd (omega tests)
every-at (suc n) f e k h =
    by (eqb k n) (λ _. f k ≡ true)
    (λ q. let s : k ≡ n = omega tests in ap f s ∙ and_right (every_place n f) (f n) e)
    (λ q. every-at n f (and_left (every_place n f) (f n) e) k (omega tests))

pub every-is : (n : ℕ) (f : ℕ → Bool) → ((k : ℕ) → k < n → f k ≡ true) → every_place n f ≡ true
unfolding every_place
every-is zero f h = refl
every-is (suc n) f h = rw (every-is n f (λ k q. h k (omega tests)), h n (omega tests))

pub every-same : (n : ℕ) (f g : ℕ → Bool) → ((k : ℕ) → k < n → f k ≡ g k) → every_place n f ≡ every_place n g
unfolding every_place
every-same zero f g h = refl
every-same (suc n) f g h = ap₂ (λ (s t : Bool). s && t) (every-same n f g (λ k q. h k (omega tests))) (h n (omega tests))
