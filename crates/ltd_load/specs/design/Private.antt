-- Only for the contracts of private functions: the claims of one block.
use Rattle.std.specs.Prelude.{ℕ, suc, ◌-◌, ◌≤◌, min, ◌≡◌, true, take}
use Rattle.basics.specs.Limits.{most_claims}
use Rattle.load.specs.Load.{seed_sound, load_from, seed_at}
use Rattle.ltd_load.specs.declared.LoadedBlock.{LoadedBlock}

-- a claim of a load is due
pub record Due (x size number : ℕ) : Type 0 where
  pub seed_so : seed_sound x ≡ true
  pub size_so : size ≤ most_claims
  pub number_low : 1 ≤ number
  pub number_high : number ≤ size

-- how many claims the block has that starts with the claim due
unfoldable pub count_from : ℕ → ℕ → ℕ
count_from size number = min 15 (suc size - number)

pub record BlockFrom (x size number : ℕ) (r : LoadedBlock) : Type 0 where
  pub count_so : r.block.count ≡ count_from size number
  pub claims_so : take r.block.count r.block.claims ≡ load_from x number (count_from size number)
  pub reached : r.x ≡ seed_at x (count_from size number)
