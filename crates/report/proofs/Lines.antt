-- A line put into a lent list.
-- Assumes nothing.
use Prim.Native.Nat.{ℕ, ◌+◌, ◌≤◌, ◌<◌}
use mathlib.Core.Path.{◌≡◌, refl, sym, ap, ◌∙◌}
use mathlib.Core.Bool.{Bool}
use mathlib.Core.List.{List, [], ◌++◌}
use native.Mathlib.Omega.{arith}
use lib.ListN.{length, drop}
use lib.Seq.{sets-eq, length-sets, length-take-le}
use lib.Dec.{ltb}
use borrow.Author.Tests.{lt-ltb, le-ltb}
use Rattle.report.specs.Counts.{IsPrefixLen}
use Rattle.basics.specs.Pick.{pick}
use Rattle.basics.proofs.Tests.{is-pick}
use Rattle.report.specs.Text.{line_answer, line_after}
use Rattle.report.specs.design.Private.{Put}

-- the answer, the list at exit, and that the answer counts bytes of it
abbrev pub Answered : ℕ → List ℕ → List ℕ → ℕ → List ℕ → Type 0
Answered asked old line r new = (r ≡ line_answer asked old line) × ((new ≡ line_after asked old line) × IsPrefixLen r new)

counts : (r : ℕ) (l : List ℕ) → r ≤ length l → IsPrefixLen r l
counts r l h = (h, sym (length-take-le r l h))

pub short : (asked : ℕ) (old line : List ℕ) → length old < asked → Answered asked old line 0 old
unfolding line_answer line_after
short asked old line h =
    let t = sym (lt-ltb (length old) asked h) in
    (ap (λ (b : Bool). pick b 0 (length line)) t, (ap (λ (b : Bool). pick b old (line ++ drop (length line) old)) t, counts 0 old (omega arith)))

pub long : (asked : ℕ) (old line : List ℕ) (r : ℕ) (new : List ℕ) (most : ℕ) → asked ≤ length old → most ≤ asked → Put most old 0 line new r
    → Answered asked old line r new
unfolding line_answer line_after
long asked old line r new most h m p =
    let t = sym (le-ltb (length old) asked h) in
    let e : r ≡ length line = omega (arith, p.behind) in
    let z : 0 + length line ≡ length line = omega arith in
    let n = ap length p.stored ∙ length-sets old 0 line in (
      e ∙ ap (λ (b : Bool). pick b 0 (length line)) t,
      (
        p.stored ∙ sets-eq line old 0 (omega (arith, p.within)) ∙ ap (λ (k : ℕ). line ++ drop k old) z ∙ ap (λ (b : Bool). pick b old (line ++ drop (length line) old)) t,
        counts r new (omega (arith, p.within)),
      ),
    )

-- the same of a line that is another, and of a list that is longer than asked for
pub for-line : (asked : ℕ) (old line other : List ℕ) (r : ℕ) (new : List ℕ) → line ≡ other → Answered asked old line r new
    → Answered asked old other r new
for-line asked old line other r new e p = rw e at p

pub asked-more : (less asked : ℕ) (old line : List ℕ) (r : ℕ) (new : List ℕ) → less ≤ asked → asked ≤ length old → Answered less old line r new
    → Answered asked old line r new
unfolding line_answer line_after
asked-more less asked old line r new l h p =
    let s = le-ltb (length old) less (omega arith) in
    let t = sym (le-ltb (length old) asked h) in (
      p.0 ∙ ap (λ (b : Bool). pick b 0 (length line)) (s ∙ t),
      (p.1.0 ∙ ap (λ (b : Bool). pick b old (line ++ drop (length line) old)) (s ∙ t), p.1.1),
    )

-- no line
pub no_line : (asked : ℕ) (old : List ℕ) → Answered asked old [] 0 old
unfolding line_answer line_after
no_line asked old =
    (is-pick (ltb (length old) asked) (λ q. refl) (λ q. refl), (is-pick (ltb (length old) asked) (λ q. refl) (λ q. refl), counts 0 old (omega arith)))
