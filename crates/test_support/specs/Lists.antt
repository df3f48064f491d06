-- Lists of numbers compared and filled.
use Rattle.std.specs.Prelude.{ℕ, zero, suc, ◌+◌, ◌-◌, ◌%◌, ◌^◌, min, Bool, not, List, ℤ, nat_eq, nat_lt, slice_set}
use Rattle.std.specs.List.{zip, count_by, list_all}
use Rattle.std.specs.Ordering.{int_eq}
use lib.Pointwise.{pointwise}
use Rattle.basics.specs.Pick.{pick}

-- equally long, and equal place by place
abbrev pub same_list : List ℕ → List ℕ → Bool
same_list a b = pointwise nat_eq a b

-- the places, up to the shorter one's end, at which two lists differ, counted
abbrev pub places_unlike : List ℕ → List ℕ → ℕ
places_unlike a b = count_by (λ p. not (nat_eq p.0 p.1)) (zip a b)

-- one number throughout
abbrev pub all_are : ℤ → List ℤ → Bool
all_are z l = list_all (λ x. int_eq x z) l

-- the number that follows another one: a step more in 32 bits, less the limit once it comes to it
abbrev pub step_to : ℕ → ℕ → ℕ → ℕ
step_to step limit n = let next = (n + step) % 2 ^ 32 in pick (nat_lt next limit) next (next - limit)

-- a list with some places from i on filled, the first with n
unfoldable pub filled_from : ℕ → ℕ → ℕ → List ℕ → ℕ → ℕ → List ℕ
filled_from step limit zero l i n = l
filled_from step limit (suc k) l i n = filled_from step limit k (slice_set l i n) (suc i) (step_to step limit n)

-- a table of 1,916 numbers with its places from one to another filled
abbrev pub filled_table : List ℕ → ℕ → ℕ → ℕ → ℕ → ℕ → List ℕ
filled_table l from to first step limit = filled_from step limit (min to 1916 - from) l from first
