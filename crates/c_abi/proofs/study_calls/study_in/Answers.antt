-- `study_in` meets its contract: days and claims taken are read up to their limits, and the sums as they stand. Assumes nothing.
use Prim.Native.Nat.{ℕ}
use mathlib.Core.Path.{◌≡◌, ap, ◌∙◌}
use native.Mathlib.Omega.{arith}
use lib.IntN.{ℤ, pos}
use lib.ListN.{get_or}
use mir.Syntax.{w64}
use mir.Val.{SFits, to_z, of_z}
use mir.Facts.{to_z-of_z}
use Rattle.c_abi.specs.StudyCalls.{held_up_to, study_in}
use borrow.Author.Rules.{rules}
use Rattle.c_abi.proofs.study_calls.study_in.Goals as goal

-- a number that is read back from its bits
read : (most n : ℕ) (z : ℤ) → SFits w64 z → n ≡ held_up_to most (to_z w64 (of_z w64 z)) → n ≡ held_up_to most z
read most n z f e = e ∙ ap (held_up_to most) (to_z-of_z f)

pub returns : goal.returns
unfolding study_in
returns c =
    let list = c.args.list.now in
    λ i.
    record {
      window =
          record {
            first = record { 0 = read _ _ (get_or list 0 (pos 0)) (record { sfits = search rules }) c.held_up_to.ensures i };
            last = record { 0 = read _ _ (get_or list 1 (pos 0)) (record { sfits = search rules }) c.held_up_to-2.ensures i };
          };
      taken = read _ _ (get_or list 2 (pos 0)) (record { sfits = search rules }) c.held_up_to-3.ensures i;
      sums = c.sums_in.ensures i;
    }

pub bounds-list-0 : goal.bounds-list-0
bounds-list-0 c = omega (arith, c.requires)

pub bounds-list-1 : goal.bounds-list-1
bounds-list-1 c = omega (arith, c.requires)

pub bounds-list-2 : goal.bounds-list-2
bounds-list-2 c = omega (arith, c.requires)

pub sums_in-requires : goal.sums_in-requires
sums_in-requires c = c.requires
