-- The claims of a list: which it has, and that a sum over them depends on these alone.
-- Assumes nothing.
use Prim.Native.Nat.{ℕ, suc, ◌+◌, ◌≤◌, ◌<◌}
use mathlib.Core.Path.{◌≡◌, refl, sym, ap, ◌∙◌, subst}
use mathlib.Core.Bool.{true, and-eq-true_iff}
use mathlib.Core.List.{List, [], ◌∷◌, ◌++◌}
use lib.ListN.{length}
use lib.Dec.{eqb}
use borrow.Author.Tests.{eqb-true, eq-eqb}
use Rattle.basics.specs.Pick.{pick}
use Rattle.basics.proofs.Tests.{tests, by}
use Rattle.calendar.specs.declared.Date.{Date}
use Rattle.claim_months.specs.declared.Claim.{Claim}
use Rattle.study.specs.Study.{sum_over}
use Rattle.study.specs.Moves.{same_date, same_claim, times_in, without}
use Rattle.study.specs.Joining.{SameClaims}
use Rattle.study.proofs.SumOver.{All, AnyCount, counts, swap-front, sum-append, SameSums}

-- `same_claim` decides whether two claims are one
same-date : (a b : Date) → same_date a b ≡ true → a ≡ b
unfolding same_date
same-date a b h =
    let t = simp and-eq-true_iff at h in
    let y : a.year ≡ b.year = omega tests in
    let m : a.month ≡ b.month = omega tests in
    let d : a.day ≡ b.day = omega tests in
    λ i. record { year = y i; month = m i; day = d i }

pub same-claim : (a b : Claim) → same_claim a b ≡ true → a ≡ b
unfolding same_claim
same-claim a b h =
    let ((((((((n, d), e), t), m), s), k), l), g) = simp and-eq-true_iff at h in
    λ i. record {
      number = eqb-true a.number b.number n i;
      disability = same-date a.disability b.disability d i;
      bcd = same-date a.bcd b.bcd e i;
      termination = same-date a.termination b.termination t i;
      maximum = same-date a.maximum b.maximum m i;
      status = eqb-true a.status b.status s i;
      code = eqb-true a.code b.code k i;
      cell = eqb-true a.cell b.cell l i;
      benefit = eqb-true a.benefit b.benefit g i;
    }

eqb-self : (n : ℕ) → eqb n n ≡ true
eqb-self n = eq-eqb n n refl

pub claim-self : (c : Claim) → same_claim c c ≡ true
unfolding same_claim same_date
claim-self c = simp eqb-self

-- a claim that is among a list can be moved to its front
pub to_front : (c : Claim) (cs : List Claim) → 0 < times_in c cs → SameSums cs (c ∷ without c cs)
unfolding times_in without sum_over
to_front c [] h A add z Good laws f good = absurd (omega tests)
to_front c (x ∷ xs) h A add z Good laws f good =
    let sum : List Claim → A = sum_over add z f in
    by (same_claim x c) (λ y. 0 < pick y 1 0 + times_in c xs → add (f x) (sum xs) ≡ add (f c) (sum (pick y xs (x ∷ without c xs))))
    (λ q u. ap (λ (e : Claim). add (f e) (sum xs)) (same-claim x c q))
    (λ q u.
    ap (add (f x)) (to_front c xs (omega tests) A add z Good laws f good) ∙ swap-front add z Good laws (f x) (f c) (sum (without c xs)))
    h

pub front : (xs : List Claim) (c : Claim) (ys : List Claim) → SameSums (xs ++ (c ∷ ys)) (c ∷ (xs ++ ys))
unfolding sum_over
front [] c ys A add z Good laws f good = refl
front (x ∷ xs) c ys A add z Good laws f good =
    ap (add (f x)) (front xs c ys A add z Good laws f good) ∙ swap-front add z Good laws (f x) (f c) (sum_over add z f (xs ++ ys))

-- one list after another may stand before it
pub other-order : (xs ys : List Claim) → SameSums (xs ++ ys) (ys ++ xs)
other-order xs ys A add z Good laws f good =
    sum-append add z Good laws [] f good xs ys ∙ laws.comm (sum_over add z f xs) (sum_over add z f ys) ∙ sym (sum-append add z Good laws [] f good ys xs)

-- lists with the same claims, up to order, have the same sums: how often a claim stands in a list is itself a sum
times-sum : (d : Claim) (cs : List Claim) → times_in d cs ≡ sum_over ◌+◌ 0 (λ x. pick (same_claim x d) 1 0) cs
unfolding times_in sum_over
times-sum d [] = refl
times-sum d (x ∷ xs) = ap (λ (n : ℕ). pick (same_claim x d) 1 0 + n) (times-sum d xs)

times-same : (d : Claim) (cs ds : List Claim) → SameSums cs ds → times_in d cs ≡ times_in d ds
times-same d cs ds same = times-sum d cs ∙ same ℕ ◌+◌ 0 AnyCount counts (λ x. pick (same_claim x d) 1 0) (λ x. tt) ∙ sym (times-sum d ds)

times-first : (c : Claim) (cs : List Claim) → times_in c (c ∷ cs) ≡ 1 + times_in c cs
unfolding times_in
times-first c cs = rw (claim-self c)

-- a list with the same claims as another has that one's first claim, and without it those of the rest
rest-same : (c : Claim) (cs ds : List Claim) → SameClaims (c ∷ cs) ds → (0 < times_in c ds) × SameClaims cs (without c ds)
unfolding times_in
rest-same c cs ds same =
    let here = times-first c cs in
    let all = same c in
    let among : 0 < times_in c ds = omega tests in
    (among, λ d. let s = same d in let t = times-same d ds (c ∷ without c ds) (to_front c ds among) in omega tests)

pub same-sums : (cs ds : List Claim) → SameClaims cs ds → SameSums cs ds
unfolding times_in sum_over
same-sums [] [] same A add z Good laws f good = refl
same-sums [] (d ∷ ds) same A add z Good laws f good = let t = times-first d ds in let s = same d in absurd (omega tests)
same-sums (c ∷ cs) ds same A add z Good laws f good =
    let (among, rest) = rest-same c cs ds same in
    ap (add (f c)) (same-sums cs (without c ds) rest A add z Good laws f good) ∙ sym (to_front c ds among A add z Good laws f good)

-- what holds of every claim of a list holds of one that is among it, and of those that remain without it
pub all_in : (P : Claim → Type 0) (c : Claim) (cs : List Claim) → All P cs → 0 < times_in c cs → P c
unfolding times_in
all_in P c [] a h = absurd (omega tests)
all_in P c (x ∷ xs) a h =
    by (same_claim x c) (λ y. 0 < pick y 1 0 + times_in c xs → P c) (λ q u. subst P (same-claim x c q) a.0)
    (λ q u. all_in P c xs a.1 (omega tests)) h

pub all_without : (P : Claim → Type 0) (c : Claim) (cs : List Claim) → All P cs → All P (without c cs)
unfolding without
all_without P c [] a = a
all_without P c (x ∷ xs) a =
    by (same_claim x c) (λ y. All P (pick y xs (x ∷ without c xs))) (λ q. a.1) (λ q. (a.0, all_without P c xs a.1))

-- and of every claim of a list with the same claims
pub all_same : (P : Claim → Type 0) (cs ds : List Claim) → SameClaims cs ds → All P ds → All P cs
all_same P [] ds same a = tt
all_same P (c ∷ cs) ds same a =
    let (among, rest) = rest-same c cs ds same in
    (all_in P c ds a among, all_same P cs (without c ds) rest (all_without P c ds a))

pub length_without : (c : Claim) (cs : List Claim) → length (without c cs) ≤ length cs
unfolding without
length_without c [] = omega tests
length_without c (x ∷ xs) =
    let h = length_without c xs in
    by (same_claim x c) (λ y. length (pick y xs (x ∷ without c xs)) ≤ suc (length xs)) (λ q. omega tests) (λ q. omega tests)

pub all_append : (P : Claim → Type 0) (xs ys : List Claim) → All P xs → All P ys → All P (xs ++ ys)
all_append P [] ys a b = b
all_append P (x ∷ xs) ys a b = (a.0, all_append P xs ys a.1 b)
