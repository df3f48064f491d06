-- A block's places filled claim by claim: the first k have the claims of as many steps, and the claim of the next one is due.
-- Assumes nothing.
use Prim.Native.Nat.{ℕ, ◌+◌, ◌<◌}
use mathlib.Core.Path.{◌≡◌, refl, sym, ap, ◌∙◌}
use mathlib.Core.List.{List, ◌++◌}
use native.Mathlib.Omega.{arith}
use native.Mathlib.Numerals.{add-one}
use lib.ListN.{length, get_or, set}
use lib.Seq.{ext_get_or, get_or-set_same, get_or-set_other, take_at}
use lib.Dec.{eqb}
use Rattle.basics.proofs.Tests.{tests, by}
use Rattle.claim_months.specs.declared.Claim.{Claim}
use Rattle.claim_file.specs.BlockAnswers.{no_claim}
use Rattle.load.specs.declared.LoadedClaim.{LoadedClaim}
use Rattle.load.specs.Load.{drawn, load_claim, load_from, seed_at}
use Rattle.load.proofs.Seeds.{seed-at, claim-from, load-length}
use Rattle.ltd_load.specs.design.Private.{Due, count_from, BlockFrom}

pub record Filled (x number : ℕ) (claims : List Claim) (reached k : ℕ) : Type 0 where
  pub reached-so : reached ≡ seed_at x k
  pub claims_so : (i : ℕ) → i < k → get_or claims i no_claim ≡ load_claim (seed_at x i) (number + i)

pub none_filled : (x number : ℕ) (claims : List Claim) → Filled x number claims x 0
unfolding seed_at
none_filled x number claims = record { reached-so = refl; claims_so = λ i l. absurd (omega arith) }

pub next-due : (x size number k reached : ℕ) → Due x size number → k < count_from size number → reached ≡ seed_at x k → Due reached size (number + k)
unfolding count_from
next-due x size number k reached d h e =
    rw e (record { seed_so = seed-at k x d.seed_so; size_so = d.size_so; number_low = omega (arith, d.number_low); number_high = omega (arith, d.number_high) })

pub more-filled : (x number : ℕ) (claims : List Claim) (reached k : ℕ) (step : LoadedClaim) → Filled x number claims reached k → k < length claims
    → step ≡ record { claim = load_claim reached (number + k); x = drawn 5 reached } → Filled x number (set claims k step.claim) step.x (k + 1)
unfolding seed_at
more-filled x number claims reached k step f h e =
    let c : step.claim ≡ load_claim (seed_at x k) (number + k) =
    ap (λ (s : LoadedClaim). s.claim) e ∙ ap (λ (r : ℕ). load_claim r (number + k)) f.reached-so in
    record {
      reached-so = ap (λ (s : LoadedClaim). s.x) e ∙ ap (drawn 5) f.reached-so ∙ sym (ap (seed_at x) (add-one k));
      claims_so =
          λ i l.
          by (eqb i k) (λ _. get_or (set claims k step.claim) i no_claim ≡ load_claim (seed_at x i) (number + i))
          (λ q. let j : i ≡ k = omega tests in rw j (get_or-set_same claims k step.claim no_claim (omega arith) ∙ c))
          (λ q. get_or-set_other claims k i step.claim no_claim (λ j. omega tests) ∙ f.claims_so i (omega tests));
    }

pub all-filled : (x size number : ℕ) (items rest : List Claim) (reached count : ℕ) → count ≡ count_from size number → length items ≡ count
    → Filled x number items reached count → BlockFrom x size number (record { block = record { count = count; claims = items ++ rest }; x = reached })
all-filled x size number items rest reached count e l f =
    record {
      count_so = e;
      claims_so =
          take_at items rest count l
          ∙ ext_get_or no_claim items (load_from x number count) (l ∙ sym (load-length count x number))
          (λ i h. f.claims_so i (omega (arith, l)) ∙ sym (claim-from count x number i (omega (arith, l))))
          ∙ ap (load_from x number) e;
      reached = f.reached-so ∙ ap (seed_at x) e;
    }
