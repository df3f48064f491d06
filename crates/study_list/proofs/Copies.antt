-- A list copied over a part of another: one run of stores. Assumes nothing.
use Prim.Native.Nat.{ℕ, ◌+◌, ◌≤◌}
use mathlib.Core.Path.{◌≡◌, sym, ap, ◌∙◌}
use mathlib.Core.List.{List, ◌++◌, append_assoc}
use lib.ListN.{length, take, drop}
use lib.Seq.{sets, sets-eq, drop-drop}
use borrow.Rule.Slice.PartMut.{put_mid}

pub copied : {A : Type 0} (l ys vs : List A) (at k : ℕ) → ys ≡ vs → k ≡ length vs → at + length vs ≤ length l → put_mid at k l ys ≡ sets l at vs
copied {A} l ys vs at k e q h =
    (λ i. take at l ++ (e i ++ drop (q i) (drop at l))) ∙ ap (λ (d : List A). take at l ++ (vs ++ d)) (drop-drop (length vs) at l)
    ∙ sym (append_assoc (take at l) vs (drop (at + length vs) l)) ∙ sym (sets-eq vs l at h)
