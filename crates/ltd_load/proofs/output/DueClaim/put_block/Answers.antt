-- `put_block` meets its contract: the claims of `block_from` are few enough for a block, and there is room for its bytes. Assumes nothing.
use Prim.Native.Nat.{ℕ, ◌≤◌}
use mathlib.Core.Path.{◌≡◌, ap, ◌∙◌}
use mathlib.Core.Bool.{Bool, true}
use mathlib.Core.List.{List}
use native.Mathlib.Omega.{arith}
use lib.ListN.{length, take}
use borrow.Author.Tests.{le-leb, eq-eqb}
use Rattle.basics.specs.Pick.{pick}
use Rattle.claim_file.specs.Block.{bytes_of_block}
use Rattle.claim_file.specs.BlockAnswers.{write_sound, bytes_after}
use Rattle.load.specs.Load.{load_from, seed_at}
use Rattle.ltd_load.specs.declared.LoadedBlock.{LoadedBlock}
use Rattle.ltd_load.specs.design.Private.{count_from, BlockFrom}
use Rattle.ltd_load.proofs.output.DueClaim.put_block.Goals as goal

module _ (due x size number : ℕ) (old : List ℕ) (low : 1 ≤ due) (high : due ≤ 65535) (room : length old ≡ 512) (r : LoadedBlock) (made : BlockFrom x size number r) where
  writes : write_sound due r.block.count (length old) ≡ true
  unfolding write_sound count_from
  writes =
      simp (le-leb 1 due low, le-leb due 65535 high, le-leb r.block.count 15 (omega (arith, made.count_so)), eq-eqb (length old) 512 room)

  stored : (new : List ℕ) → new ≡ bytes_after due r.block old
      → (r.x ≡ seed_at x (count_from size number)) × (new ≡ bytes_of_block due (load_from x number (count_from size number)))
  unfolding bytes_after
  stored new q = (
    made.reached,
    q ∙ ap (λ (t : Bool). pick t (bytes_of_block due (take r.block.count r.block.claims)) old) writes ∙ ap (bytes_of_block due) made.claims_so,
  )

pub returns : goal.returns
returns c =
    let rest = stored c.args.number _ _ _ c.args.bytes.now c.requires.0 c.requires.1 c.told-bytes c.block-made.result c.block-made.ensures _ c.write.ensures.bytes_after in
    record { value = rest.0; bytes_after = rest.1 }
