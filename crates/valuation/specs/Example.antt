-- The values of document 01's example of a reserve factor: g 500,000 throughout and V 0.5 give, over two months, the factor 0.3125.
use Rattle.std.specs.Prelude.{ℕ, false, List, [], ◌∷◌, ◌++◌, replicate, negsuc, Float}
use Rattle.std.specs.Float.{fin}

-- 0.5 is 1 × 2 ^ −1, and 0.3125 is 5 × 2 ^ −4
abbrev pub half : Float
half = fin false 1 (negsuc 0)

abbrev pub figure : Float
figure = fin false 5 (negsuc 3)

-- one cell, recovery rates 300,000 and death rates 200,000, and each T 1,000,000 give this g
abbrev pub half_table : List ℕ
half_table = replicate 479 300000 ++ replicate 479 200000

abbrev pub even : List ℕ
even = 1000000 ∷ 1000000 ∷ 1000000 ∷ 1000000 ∷ 1000000 ∷ []
