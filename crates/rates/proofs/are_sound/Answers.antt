-- `rates::are_sound` meets its contract. Assumes nothing.
use Prim.Native.Nat.{ℕ, ◌+◌, ◌-◌}
use mathlib.Core.Path.{◌≡◌, sym}
use mathlib.Core.Bool.{◌&&◌}
use lib.Dec.{leb}
use borrow.Author.Tests.{le-leb, lt-leb}
use Rattle.basics.proofs.Tests.{tests, by}
use Rattle.rates.proofs.are_sound.Goals as goal

-- two rates by what the first leaves of a million
by_left : (r d l : ℕ) → l ≡ 1000000 - r → (leb r 1000000 && leb d l) ≡ leb (r + d) 1000000
by_left r d l e =
    by (leb r 1000000) (λ t. (t && leb d l) ≡ leb (r + d) 1000000)
    (λ p. by (leb (r + d) 1000000) (λ t. leb d l ≡ t) (λ q. le-leb d l (omega tests)) (λ q. lt-leb d l (omega tests)))
    (λ p. sym (lt-leb (r + d) 1000000 (omega tests)))

pub returns : goal.returns
returns c = let a = c.args in by_left a.recovery a.death _ c.saturating_sub.ensures
