-- A lent list: one that is too short is answered 255 and keeps what it holds, and one that is long enough gets the answer.
-- Assumes nothing.
use Prim.Native.Nat.{ℕ, ◌≤◌, ◌<◌}
use mathlib.Core.Path.{◌≡◌, sym, ap, ◌∙◌}
use mathlib.Core.Bool.{Bool}
use mathlib.Core.List.{List}
use lib.ListN.{length}
use borrow.Author.Tests.{lt-ltb, le-ltb}
use Rattle.basics.specs.Pick.{pick}
use Rattle.study_list.specs.Lent.{answered, stored}

module _ {A : Type 0} (asked : ℕ) (old : List A) (n : ℕ) (new : List A) where
  pub short : length old < asked → (255 ≡ answered asked old n) × (old ≡ stored asked old new)
  short h =
      let t = sym (lt-ltb (length old) asked h) in
      (ap (λ (b : Bool). pick b 255 n) t, ap (λ (b : Bool). pick b old new) t)

  pub long : (r : ℕ) (l : List A) → asked ≤ length old → r ≡ n → l ≡ new → (r ≡ answered asked old n) × (l ≡ stored asked old new)
  long r l h e f =
      let t = sym (le-ltb (length old) asked h) in
      (e ∙ ap (λ (b : Bool). pick b 255 n) t, f ∙ ap (λ (b : Bool). pick b old new) t)
