-- Lists by their places, and tests of every entry of a list.
use Rattle.std.specs.Prelude.{ℕ, zero, suc, Bool, true, ◌&&◌, List, [], ◌∷◌, leb, ℤ, nat_abs}

-- f 0, f 1, .. f (n − 1) as a list
unfoldable pub table : {A : Type 0} → ℕ → (ℕ → A) → List A
table zero f = []
table (suc n) f = f zero ∷ table n (λ k. f (suc k))

-- every number of a list is at most n, signed ones from −n to n
unfoldable pub all_within : ℕ → List ℤ → Bool
all_within n [] = true
all_within n (x ∷ xs) = leb (nat_abs x) n && all_within n xs

unfoldable pub all_at_most : ℕ → List ℕ → Bool
all_at_most n [] = true
all_at_most n (x ∷ xs) = leb x n && all_at_most n xs

-- a test holds at every place below n
unfoldable pub every_place : ℕ → (ℕ → Bool) → Bool
every_place zero f = true
every_place (suc n) f = every_place n f && f n
