-- The loop that writes the blocks of claims: what it has come to, and that the block which it makes is the file's.
-- Assumes nothing.
use Prim.Native.Nat.{ℕ, zero, suc, ◌+◌, ◌-◌, ◌*◌, ◌<◌, min}
use mathlib.Core.Path.{◌≡◌, sym, ap, ◌∙◌}
use mathlib.Core.Bool.{Bool}
use mathlib.Core.List.{List}
use native.Mathlib.Omega.{arith}
use lib.ListN.{length}
use borrow.Author.Tests.{eq-eqb}
use Rattle.basics.specs.Pick.{pick}
use Rattle.claim_file.specs.declared.WindowDates.{WindowDates}
use Rattle.claim_file.specs.Block.{window_bytes, bytes_of_block}
use Rattle.claim_file.specs.BlockAnswers.{window_after}
use Rattle.load.specs.Load.{drawn, load_from, seed_at}
use Rattle.load.proofs.Seeds.{seed-at}
use Rattle.load.proofs.FileBlocks.{window-block, block-after}
use Rattle.ltd_load.specs.declared.Asked.{Asked}
use Rattle.ltd_load.specs.Asked.{LoadAsked, file_asked, block_asked}
use Rattle.ltd_load.specs.design.Private.{Due, count_from}

seed-sum : (s a b : ℕ) → seed_at (seed_at s a) b ≡ seed_at s (a + b)
unfolding seed_at
seed-sum s a zero = let e : a ≡ a + 0 = omega arith in ap (seed_at s) e
seed-sum s a (suc b) = let e : suc (a + b) ≡ a + suc b = omega arith in ap (drawn 5) (seed-sum s a b) ∙ ap (seed_at s) e

-- the x that the claims of the first k blocks reached
abbrev pub Come : Asked → ℕ → ℕ → Type 0
Come a x k = x ≡ seed_at a.seed (min (15 * k) a.size)

pub none_written : (a : Asked) → Come a a.seed 0
unfolding seed_at
none_written a = let e : 0 ≡ min (15 * 0) a.size = omega arith in ap (seed_at a.seed) e

-- one block more is due, with the claim behind those of the first k blocks first
module _ (a : Asked) (ok : LoadAsked a) (x k : ℕ) (come : Come a x k) (more : 15 * k < a.size) where
  before : x ≡ seed_at a.seed (15 * k)
  before = let e : min (15 * k) a.size ≡ 15 * k = omega arith in come ∙ ap (seed_at a.seed) e

  pub is-due : Due x a.size (15 * k + 1)
  is-due =
      record { seed_so = rw before (seed-at (15 * k) a.seed ok.seed_so); size_so = ok.size_so; number_low = omega arith; number_high = omega arith }

  -- its bytes are those of the file
  pub is_block : (bytes : List ℕ) → bytes ≡ bytes_of_block (k + 1) (load_from x (15 * k + 1) (count_from a.size (15 * k + 1))) → bytes ≡ block_asked a (k + 1)
  unfolding block_asked file_asked count_from
  is_block bytes q =
      let w : WindowDates = record { first = a.first; last = a.last } in
      let d : k + 1 ≡ 1 + k = omega arith in
      let s : suc k ≡ k + 1 = omega arith in
      let n : 15 * k + 1 ≡ 1 + 15 * k = omega arith in
      let m : min 15 (suc a.size - (15 * k + 1)) ≡ min 15 (a.size - 15 * k) = omega arith in
      q
      ∙ (λ i. bytes_of_block (d i) (load_from (before i) (n i) (m i)))
      ∙ sym (block-after w a.seed a.size k ok.size_so (omega arith))
      ∙ ap (block_asked a) s

  pub one_more : (y : ℕ) → y ≡ seed_at x (count_from a.size (15 * k + 1)) → Come a y (k + 1)
  unfolding count_from
  one_more y q =
      let e : 15 * k + min 15 (suc a.size - (15 * k + 1)) ≡ min (15 * (k + 1)) a.size = omega arith in
      q ∙ ap (λ (s : ℕ). seed_at s (min 15 (suc a.size - (15 * k + 1)))) before ∙ seed-sum a.seed (15 * k) (min 15 (suc a.size - (15 * k + 1)))
      ∙ ap (seed_at a.seed) e

-- block 0
pub is-window : (a : Asked) (old bytes : List ℕ) → length old ≡ 512 → bytes ≡ window_after a.first a.last old → bytes ≡ block_asked a 0
unfolding block_asked file_asked window_after
is-window a old bytes h q =
    let w : WindowDates = record { first = a.first; last = a.last } in
    q ∙ ap (λ (t : Bool). pick t (window_bytes a.first a.last) old) (eq-eqb (length old) 512 h) ∙ sym (window-block w a.seed a.size)
