-- Sums over claims, in any commutative sum: they depend on no order, those over two lists add up, and a sum over parts of a sum over claims may be
-- taken either way.
-- Assumes nothing.
use Prim.Native.Nat.{ℕ, zero, suc, ◌+◌, ◌≤◌, ◌<◌}
use mathlib.Core.Path.{◌≡◌, refl, sym, ap, ap₂, ◌∙◌}
use mathlib.Core.List.{List, [], ◌∷◌, ◌++◌}
use lib.ListN.{length}
use lib.Dec.{ltb, eqb}
use lib.IntN.{◌+ℤ◌}
use native.Mathlib.Nat.{add_assoc, add_comm, zero-add}
use borrow.Author.Tests.{eq-eqb, ne_eqb, lt-ltb, le-ltb}
use Rattle.basics.specs.Pick.{pick}
use Rattle.basics.proofs.Tests.{tests, by}
use Rattle.claim_months.specs.declared.Claim.{Claim}
use Rattle.claim_months.specs.Windows.{total}
use Rattle.study.specs.Sums.{none, plus}
use Rattle.study.specs.Study.{sum_over, accepted, own_refusal}
use Rattle.study.proofs.Algebra.{Shaped, plus_comm, plus_assoc, plus_none, none-shaped, each-shaped}
use Rattle.study.specs.Demand3.{occurrences, IsOrder, nth_claim}

-- each claim of a list has a property
abbrev pub All : (Claim → Type 0) → List Claim → Type 0
All P [] = Unit {0}
All P (c ∷ cs) = P c × All P cs

-- the claims that a run has taken after an order, the last one first, where it had taken acc before
unfoldable pub taken_after : List ℕ → List Claim → List ℕ → List Claim → List Claim
taken_after rates cs [] acc = acc
taken_after rates cs (x ∷ xs) acc =
    taken_after rates cs xs (pick (eqb (own_refusal rates (nth_claim cs x)) 0) (nth_claim cs x ∷ acc) acc)

-- what makes a sum commutative, on the values that are good
pub record Commutes {A : Type 0} (add : A → A → A) (none : A) (Good : A → Type 0) : Type 0 where
  pub assoc : (x y z : A) → add (add x y) z ≡ add x (add y z)
  pub comm : (x y : A) → add x y ≡ add y x
  pub left : (x : A) → Good x → add none x ≡ x
  pub good_none : Good none
  pub good-add : (x y : A) → Good (add x y)

abbrev pub AnyCount : ℕ → Type 0
AnyCount n = Unit {0}

pub counts : Commutes ◌+◌ 0 AnyCount
counts = record { assoc = add_assoc; comm = add_comm; left = λ x g. zero-add x; good_none = tt; good-add = λ x y. tt }

pub sums : Commutes plus none Shaped
sums = record { assoc = plus_assoc; comm = plus_comm; left = plus_none; good_none = none-shaped; good-add = each-shaped ◌+ℤ◌ }

module _ {A : Type 0} (add : A → A → A) (zero-sum : A) (Good : A → Type 0) (laws : Commutes add zero-sum Good) where
  pub swap : (a b c d : A) → add (add a b) (add c d) ≡ add (add a c) (add b d)
  swap a b c d =
      laws.assoc a b (add c d)
      ∙ ap (add a) (sym (laws.assoc b c d) ∙ ap (λ (x : A). add x d) (laws.comm b c) ∙ laws.assoc c b d)
      ∙ sym (laws.assoc a c (add b d))

  pub swap-front : (a b c : A) → add a (add b c) ≡ add b (add a c)
  swap-front a b c = sym (laws.assoc a b c) ∙ ap (λ (x : A). add x c) (laws.comm a b) ∙ laws.assoc b a c

  -- the sum of f over the places below n, and over the places of an order
  sum_below : (ℕ → A) → ℕ → A
  sum_below f zero = zero-sum
  sum_below f (suc n) = add (f n) (sum_below f n)

  sum_places : (ℕ → A) → List ℕ → A
  sum_places f [] = zero-sum
  sum_places f (x ∷ xs) = add (f x) (sum_places f xs)

  -- n occurrences a
  repeat : ℕ → A → A
  repeat zero a = zero-sum
  repeat (suc n) a = add a (repeat n a)

  below-same : (f g : ℕ → A) (n : ℕ) → ((i : ℕ) → i < n → f i ≡ g i) → sum_below f n ≡ sum_below g n
  unfolding sum_below
  below-same f g zero h = refl
  below-same f g (suc n) h = ap₂ add (h n (omega tests)) (below-same f g n (λ i q. h i (omega tests)))

  below-add : (f g : ℕ → A) (n : ℕ) → sum_below (λ i. add (f i) (g i)) n ≡ add (sum_below f n) (sum_below g n)
  unfolding sum_below
  below-add f g zero = sym (laws.left zero-sum laws.good_none)
  below-add f g (suc n) = ap (add (add (f n) (g n))) (below-add f g n) ∙ swap (f n) (g n) (sum_below f n) (sum_below g n)

  below_none : (n : ℕ) → sum_below (λ i. zero-sum) n ≡ zero-sum
  unfolding sum_below
  below_none zero = refl
  below_none (suc n) = ap (add zero-sum) (below_none n) ∙ laws.left zero-sum laws.good_none

  pub right : (x : A) → Good x → add x zero-sum ≡ x
  right x g = laws.comm x zero-sum ∙ laws.left x g

  -- only place x counts
  below-absent : (f : ℕ → A) (x n : ℕ) → n ≤ x → sum_below (λ i. pick (eqb x i) (f i) zero-sum) n ≡ zero-sum
  below-absent f x n h = below-same _ _ n (λ i q. rw (ne_eqb x i (λ e. omega tests))) ∙ below_none n

  below_one : (f : ℕ → A) → ((i : ℕ) → Good (f i)) → (x n : ℕ) → x < n → sum_below (λ i. pick (eqb x i) (f i) zero-sum) n ≡ f x
  unfolding sum_below
  below_one f g x zero h = absurd (omega tests)
  below_one f g x (suc n) h =
      by (eqb x n) (λ y. add (pick y (f n) zero-sum) (sum_below (λ i. pick (eqb x i) (f i) zero-sum) n) ≡ f x)
      (λ q.
      let e : n ≡ x = omega tests in
      ap (add (f n)) (below-absent f x n (omega tests)) ∙ right (f n) (g n) ∙ ap f e)
      (λ q. ap (add zero-sum) (below_one f g x n (omega tests)) ∙ laws.left (f x) (g x))

  -- the sum over an order counts each place as often as the order has it
  good-repeat : (n : ℕ) (a : A) → Good (repeat n a)
  unfolding repeat
  good-repeat zero a = laws.good_none
  good-repeat (suc n) a = laws.good-add a (repeat n a)

  times-here : (f : ℕ → A) (x i t : ℕ) → repeat (pick (eqb x i) 1 0 + t) (f i) ≡ add (pick (eqb x i) (f i) zero-sum) (repeat t (f i))
  unfolding repeat
  times-here f x i t =
      let e1 : 1 + t ≡ suc t = omega tests in
      let e0 : 0 + t ≡ t = omega tests in
      by (eqb x i) (λ y. repeat (pick y 1 0 + t) (f i) ≡ add (pick y (f i) zero-sum) (repeat t (f i)))
      (λ q. rw e1) (λ q. rw e0 (sym (laws.left (repeat t (f i)) (good-repeat t (f i)))))

  places-times : (f : ℕ → A) → ((i : ℕ) → Good (f i)) → (n : ℕ) (xs : List ℕ) → ((i : ℕ) → n ≤ i → occurrences i xs ≡ 0) → sum_places f xs ≡ sum_below (λ i. repeat (occurrences i xs) (f i)) n
  unfolding sum_places occurrences repeat
  places-times f g n [] h = sym (below_none n)
  places-times f g n (x ∷ xs) h =
      let low : x < n =
      by (ltb x n) (λ _. x < n) (λ q. omega tests)
      (λ q. let z : 1 + occurrences x xs ≡ 0 = rw (eq-eqb x x refl) at (h x (omega tests)) in absurd (omega tests)) in
      let rest = places-times f g n xs (λ i q. let z = h i q in omega tests) in
      ap₂ add (sym (below_one f g x n low)) rest ∙ sym (below-add _ _ n)
      ∙ sym (below-same _ _ n (λ i q. times-here f x i (occurrences i xs)))

  -- the sum over an order of n places is the sum over the places
  order-sum : (f : ℕ → A) → ((i : ℕ) → Good (f i)) → (n : ℕ) (xs : List ℕ) → IsOrder n xs → sum_places f xs ≡ sum_below f n
  unfolding repeat
  order-sum f g n xs h =
      places-times f g n xs (λ i q. h i ∙ rw (le-ltb i n q))
      ∙ below-same _ _ n (λ i q. rw (h i, lt-ltb i n q) (right (f i) (g i)))

  -- from the first place
  below-front : (f : ℕ → A) (n : ℕ) → sum_below f (suc n) ≡ add (f 0) (sum_below (λ i. f (suc i)) n)
  unfolding sum_below
  below-front f zero = refl
  below-front f (suc n) =
      ap (add (f (suc n))) (below-front f n) ∙ swap-front (f (suc n)) (f 0) (sum_below (λ i. f (suc i)) n)

  -- what a claim adds: nothing where it isn't accepted
  abbrev pub own_share : List ℕ → (Claim → A) → Claim → A
  own_share rates f c = pick (eqb (own_refusal rates c) 0) (f c) zero-sum

  module _ (rates : List ℕ) (f : Claim → A) (good : (c : Claim) → Good (f c)) where
    good-share : (c : Claim) → Good (own_share rates f c)
    good-share c = by (eqb (own_refusal rates c) 0) (λ y. Good (pick y (f c) zero-sum)) (λ q. good c) (λ q. laws.good_none)

    pub good-sum : (cs : List Claim) → Good (sum_over add zero-sum f cs)
    unfolding sum_over
    good-sum [] = laws.good_none
    good-sum (c ∷ cs) = laws.good-add (f c) (sum_over add zero-sum f cs)

    -- the sum over one list after another
    pub sum-append : (xs ys : List Claim) → sum_over add zero-sum f (xs ++ ys) ≡ add (sum_over add zero-sum f xs) (sum_over add zero-sum f ys)
    unfolding sum_over
    sum-append [] ys = sym (laws.left (sum_over add zero-sum f ys) (good-sum ys))
    sum-append (x ∷ xs) ys = ap (add (f x)) (sum-append xs ys) ∙ sym (laws.assoc (f x) (sum_over add zero-sum f xs) (sum_over add zero-sum f ys))

    -- the sum over the accepted claims is the sum over the list's places
    accepted-sum : (cs : List Claim) → sum_over add zero-sum f (accepted rates cs) ≡ sum_below (λ i. own_share rates f (nth_claim cs i)) (length cs)
    unfolding sum_over accepted sum_below nth_claim
    accepted-sum [] = refl
    accepted-sum (c ∷ cs) =
        by (eqb (own_refusal rates c) 0)
        (λ y. sum_over add zero-sum f (pick y (c ∷ accepted rates cs) (accepted rates cs)) ≡ add (pick y (f c) zero-sum) (sum_over add zero-sum f (accepted rates cs)))
        (λ q. refl) (λ q. sym (laws.left _ (good-sum (accepted rates cs))))
        ∙ ap (add (own_share rates f c)) (accepted-sum cs) ∙ sym (below-front (λ i. own_share rates f (nth_claim (c ∷ cs) i)) (length cs))

    -- a sum over the claims taken
    taken-sum : (cs : List Claim) (xs : List ℕ) (acc : List Claim)
        → sum_over add zero-sum f (taken_after rates cs xs acc) ≡ add (sum_places (λ i. own_share rates f (nth_claim cs i)) xs) (sum_over add zero-sum f acc)
    unfolding sum_places taken_after sum_over
    taken-sum cs [] acc = sym (laws.left _ (good-sum acc))
    taken-sum cs (x ∷ xs) acc =
        let c = nth_claim cs x in
        let s = sum_places (λ i. own_share rates f (nth_claim cs i)) xs in
        let a = sum_over add zero-sum f acc in
        taken-sum cs xs (pick (eqb (own_refusal rates c) 0) (c ∷ acc) acc)
        ∙ ap (add s)
        (by (eqb (own_refusal rates c) 0) (λ y. sum_over add zero-sum f (pick y (c ∷ acc) acc) ≡ add (pick y (f c) zero-sum) a) (λ q. refl)
        (λ q. sym (laws.left a (good-sum acc))))
        ∙ sym (laws.assoc s (own_share rates f c) a) ∙ ap (λ (y : A). add y a) (laws.comm s (own_share rates f c))

    good-places : (g : ℕ → A) → ((i : ℕ) → Good (g i)) → (xs : List ℕ) → Good (sum_places g xs)
    unfolding sum_places
    good-places g h [] = laws.good_none
    good-places g h (x ∷ xs) = laws.good-add (g x) (sum_places g xs)

    -- whatever its order, a run has taken claims with the sums of the accepted claims
    pub run-sum : (cs : List Claim) (xs : List ℕ) → IsOrder (length cs) xs
        → sum_over add zero-sum f (taken_after rates cs xs []) ≡ sum_over add zero-sum f (accepted rates cs)
    unfolding sum_over
    run-sum cs xs h =
        let g : ℕ → A = λ i. own_share rates f (nth_claim cs i) in
        let k : (i : ℕ) → Good (g i) = λ i. good-share (nth_claim cs i) in
        taken-sum cs xs [] ∙ right _ (good-places g k xs) ∙ order-sum g k (length cs) xs h ∙ sym (accepted-sum cs)

  -- sums of claims that agree on each claim with a property
  pub sum_same : (P : Claim → Type 0) (f g : Claim → A) → ((c : Claim) → P c → f c ≡ g c) → (cs : List Claim) → All P cs → sum_over add zero-sum f cs ≡ sum_over add zero-sum g cs
  unfolding sum_over
  sum_same P f g h [] a = refl
  sum_same P f g h (c ∷ cs) a = ap₂ add (h c a.0) (sum_same P f g h cs a.1)

  sum-add : (f g : Claim → A) (cs : List Claim) → sum_over add zero-sum (λ c. add (f c) (g c)) cs ≡ add (sum_over add zero-sum f cs) (sum_over add zero-sum g cs)
  unfolding sum_over
  sum-add f g [] = sym (laws.left zero-sum laws.good_none)
  sum-add f g (c ∷ cs) = ap (add (add (f c) (g c))) (sum-add f g cs) ∙ swap (f c) (g c) (sum_over add zero-sum f cs) (sum_over add zero-sum g cs)

  -- the total over parts of sums over claims is the sum over claims of totals over parts
  pub total-sums : {R : Type 0} (f : Claim → R → A) (cs : List Claim) (r : R) (rs : List R)
      → total add (λ q. sum_over add zero-sum (λ c. f c q) cs) r rs ≡ sum_over add zero-sum (λ c. total add (f c) r rs) cs
  unfolding total
  total-sums f cs r [] = refl
  total-sums f cs r (q ∷ rs) = ap (add (sum_over add zero-sum (λ c. f c r) cs)) (total-sums f cs q rs) ∙ sym (sum-add (λ c. f c r) (λ c. total add (f c) q rs) cs)

-- an order of n places has n places
places_count : (xs : List ℕ) → sum_places ◌+◌ 0 AnyCount counts (λ i. 1) xs ≡ length xs
unfolding sum_places
places_count [] = refl
places_count (x ∷ xs) = let i = places_count xs in omega tests

below-count : (n : ℕ) → sum_below ◌+◌ 0 AnyCount counts (λ i. 1) n ≡ n
unfolding sum_below
below-count zero = refl
below-count (suc n) = let i = below-count n in omega tests

pub order-length : (n : ℕ) (xs : List ℕ) → IsOrder n xs → length xs ≡ n
order-length n xs h = sym (places_count xs) ∙ order-sum ◌+◌ 0 AnyCount counts (λ i. 1) (λ i. tt) n xs h ∙ below-count n

-- the number of claims as a sum
pub length-sum : (cs : List Claim) → sum_over ◌+◌ 0 (λ c. 1) cs ≡ length cs
unfolding sum_over
length-sum [] = refl
length-sum (c ∷ cs) = let i = length-sum cs in omega tests

-- two lists over which every commutative sum is the same; so are their lengths
abbrev pub SameSums : List Claim → List Claim → Type 1
SameSums xs ys =
    (A : Type 0) (add : A → A → A) (zero-sum : A) (Good : A → Type 0) → Commutes add zero-sum Good → (f : Claim → A) → ((c : Claim) → Good (f c))
    → sum_over add zero-sum f xs ≡ sum_over add zero-sum f ys

pub same_length : (xs ys : List Claim) → SameSums xs ys → length xs ≡ length ys
same_length xs ys same = sym (length-sum xs) ∙ same ℕ ◌+◌ 0 AnyCount counts (λ c. 1) (λ c. tt) ∙ length-sum ys

-- the claims that a run has taken, whatever its order, and the accepted claims
pub run-same : (rates : List ℕ) (cs : List Claim) (xs : List ℕ) → IsOrder (length cs) xs → SameSums (taken_after rates cs xs []) (accepted rates cs)
run-same rates cs xs h A add zero-sum Good laws f good = run-sum add zero-sum Good laws rates f good cs xs h
