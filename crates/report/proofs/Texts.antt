-- Texts put one behind another are one text put.
-- Assumes nothing.
use Prim.Native.Nat.{ℕ, ◌+◌, ◌-◌, ◌≤◌}
use mathlib.Core.Path.{◌≡◌, refl, sym, ap, ◌∙◌}
use mathlib.Core.List.{List, [], ◌++◌, append_assoc}
use native.Mathlib.Omega.{arith}
use lib.ListN.{length, take, drop, length-append}
use lib.Seq.{sets, sets-eq, length-sets, drop-drop}
use borrow.Rule.Slice.PartMut.{put_mid}
use Rattle.basics.proofs.Stores.{run}
use Rattle.report.specs.design.Private.{Put}

module _ {l a : List ℕ} {at : ℕ} where
  -- a text, and another behind it
  pub and_then : {b xs ys : List ℕ} {j r m n : ℕ} → Put m l at xs a j → Put n a j ys b r → Put (m + n) l at (xs ++ ys) b r
  and_then {b} {xs} {ys} {j} {r} {m} {n} p q =
      let k = length-append xs ys in
      record { stored = run l a b xs ys at j p.behind p.stored q.stored; behind = omega arith; within = omega arith }

  -- a text that is another
  pub renamed : {xs ys : List ℕ} {r m : ℕ} → Put m l at xs a r → xs ≡ ys → Put m l at ys a r
  renamed p e =
      record {
        stored = p.stored ∙ ap (sets l at) e;
        behind = p.behind ∙ ap (λ (t : List ℕ). at + length t) e;
        within = rw e at p.within;
      }

  -- a text of at most so many bytes
  pub shorter : {xs : List ℕ} {r m : ℕ} (n : ℕ) → Put m l at xs a r → length xs ≤ n → Put n l at xs a r
  shorter n p h = record { stored = p.stored; behind = p.behind; within = h }

-- a text copied over a part of a list
pub copied : (l ys text : List ℕ) (at : ℕ) → at + length text ≤ length l → ys ≡ text
    → Put (length text) l at text (put_mid at (at + length text - at) l ys) (at + length text)
copied l ys text at h e =
    let w : at + length text - at ≡ length text = omega arith in
    record {
      stored =
          (λ i. take at l ++ (e i ++ drop (w i) (drop at l))) ∙ ap (λ (d : List ℕ). take at l ++ (text ++ d)) (drop-drop (length text) at l)
          ∙ sym (append_assoc (take at l) text (drop (at + length text) l)) ∙ sym (sets-eq text l at h);
      behind = refl;
      within = omega arith;
    }

-- no list becomes longer or shorter
pub length-kept : {l a xs : List ℕ} {at r m : ℕ} → Put m l at xs a r → length a ≡ length l
length-kept {l} {a} {xs} {at} p = ap length p.stored ∙ length-sets l at xs

-- nothing
pub nothing : (l : List ℕ) (at n : ℕ) → Put n l at [] l at
nothing l at n = record { stored = refl; behind = omega arith; within = omega arith }
