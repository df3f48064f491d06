-- The lines of a run put one behind another are its text.
-- Assumes nothing.
use Prim.Native.Nat.{ℕ, zero, suc, ◌+◌, ◌-◌, ◌*◌, ◌≤◌}
use mathlib.Core.Path.{◌≡◌, sym, ap, ◌∙◌}
use mathlib.Core.Bool.{Bool}
use mathlib.Core.List.{List, [], ◌++◌, append_assoc}
use native.Mathlib.Omega.{arith}
use native.Mathlib.Numerals.{add-one}
use lib.ListN.{length, take, drop, take-append-drop, length-drop}
use lib.Seq.{sets-eq, length-take-le, drop-append-le, drop-drop}
use borrow.Rule.Slice.PartMut.{mid_of, put_mid, mid_len}
use borrow.Author.Tests.{le-ltb}
use Rattle.basics.specs.Pick.{pick}
use Rattle.claim_file.specs.Runs.{FileRun}
use Rattle.report.specs.Text.{run_text, run_line, line_answer, line_after}
use Rattle.report.specs.RunLines.{RunLines}
use Rattle.report.specs.design.Private.{Put}
use Rattle.report.proofs.Texts.{and_then, shorter, nothing}
use Rattle.report.proofs.Lines.{Answered}
use Rattle.report.proofs.RunLines.{run-lines}

-- the first n lines of a run
unfoldable pub first_lines : FileRun → ℕ → List ℕ
first_lines r zero = []
first_lines r (suc n) = first_lines r n ++ run_line r n

pub no_lines : (r : FileRun) (l : List ℕ) → Put 0 l 0 (first_lines r 0) l 0
unfolding first_lines
no_lines r l = nothing l 0 0

pub all_lines : (r : FileRun) → first_lines r 6 ≡ run_text r
unfolding first_lines RunLines
all_lines r = simp append_assoc (sym (run-lines r))

-- what stands behind the first n entries of a list, cut at m
cut : (l : List ℕ) (n m : ℕ) → n ≤ m → m ≤ length l → drop n (take m l) ++ drop m l ≡ drop n l
cut l n m h g =
    sym (drop-append-le n (take m l) (drop m l) (omega (arith, length-take-le m l g))) ∙ ap (drop n) (take-append-drop m l)

-- a line put into 200 bytes of a list from a place on
module _ (t line ys : List ℕ) (at k : ℕ) (g : at + 200 ≤ length t) (q : length ys ≡ length (mid_of at (at + 200 - at) t))
    (a : Answered 200 (mid_of at (at + 200 - at) t) line k ys) where
  abbrev w : ℕ
  w = at + 200 - at

  abbrev mid : List ℕ
  mid = mid_of at w t

  mid-length : length mid ≡ 200
  mid-length = mid_len at (at + 200) t g ∙ omega arith

  count-is : k ≡ length line
  unfolding line_answer
  count-is = a.0 ∙ ap (λ (b : Bool). pick b 0 (length line)) (le-ltb (length mid) 200 (omega (arith, mid-length)))

  ys-are : ys ≡ line ++ drop (length line) mid
  unfolding line_after
  ys-are = a.1.0 ∙ ap (λ (b : Bool). pick b mid (line ++ drop (length line) mid)) (le-ltb (length mid) 200 (omega (arith, mid-length)))

  line-length : length line ≤ 200
  line-length = omega (arith, a.1.1.0, count-is, q, mid-length)

  pub line-put : Put 200 t at line (put_mid at w t ys) (at + k)
  line-put =
      let d = drop at t in
      record {
        stored =
            ap (λ (l : List ℕ). take at t ++ (l ++ drop w d)) ys-are
            ∙ ap (λ (l : List ℕ). take at t ++ l) (append_assoc line (drop (length line) mid) (drop w d))
            ∙ ap (λ (l : List ℕ). take at t ++ (line ++ l)) (cut d (length line) w (omega (arith, line-length)) (omega (arith, length-drop at t)) ∙ drop-drop (length line) at t)
            ∙ sym (append_assoc (take at t) line (drop (at + length line) t)) ∙ sym (sets-eq line t at (omega (arith, line-length)));
        behind = omega (arith, count-is);
        within = line-length;
      }

-- one line more
pub lines_more : (r : FileRun) (l t b : List ℕ) (n at next : ℕ) → Put (200 * n) l 0 (first_lines r n) t at → Put 200 t at (run_line r n) b next
    → Put (200 * (n + 1)) l 0 (first_lines r (n + 1)) b next
unfolding first_lines
lines_more r l t b n at next p q =
    let s = and_then p q in
    rw (add-one n) (shorter (200 * suc n) s (omega (arith, s.within)))
