-- Request No. 8, the proof. A tree of joins is the study of all claims remaining in its leaves, one list after the other; sums over them depend neither on
-- the order nor on the grouping of the lists, and a fresh study adds none.
-- Assumes nothing.
use Prim.Native.Nat.{ℕ, ◌≤◌}
use mathlib.Core.Path.{◌≡◌, refl, sym, ap, ◌∙◌}
use mathlib.Core.List.{List, [], ◌++◌, append-nil, append_assoc}
use lib.ListN.{length, length-append}
use Rattle.basics.proofs.Tests.{tests}
use Rattle.basics.proofs.Checks.{then_next}
use Rattle.claim_months.specs.declared.Claim.{Claim}
use Rattle.claim_months.proofs.Parts.{parts-map, parts-every, every_map}
use Rattle.study.specs.Answers.{Answer}
use Rattle.study.specs.Study.{study_of}
use Rattle.study.specs.Moves.{remaining_after, allowed_after, moved_all, Dates, dates_of, Accepted}
use Rattle.study.specs.Joining.{joined}
use Rattle.study.specs.PoolTrees.{PoolTree, leaf, join, tree_claims, pooled, pool_refusal, AllowedTree, Pools, TreeIn, tree_window, PoolsSame, pooled_in}
use Rattle.study.specs.AnyGrouping.{AnyGrouping}
use Rattle.study.proofs.Built.{study-same}
use Rattle.study.proofs.Totals.{built-total}
use Rattle.study.proofs.Members.{other-order, same-sums}
use Rattle.study.proofs.Demand3.{opens-window}
use Rattle.study.proofs.TakenBack.{Kept, remaining-kept, accepted-window, moved-study}
use Rattle.study.proofs.Pooling.{both-kept, joined-built}

-- what a tree of joins comes to
record TreeBuilt (rates : List ℕ) (d : Dates) (t : PoolTree) : Type 0 where
  kept : Kept rates (tree_claims rates t)
  study : pooled rates d t ≡ study_of (dates_of d) rates (tree_claims rates t)
  number : pool_refusal rates d t ≡ 0

module _ (rates : List ℕ) (d : Dates) (ok : Accepted d) where
  joins : (t u : PoolTree) → TreeBuilt rates d t → TreeBuilt rates d u → length (tree_claims rates t ++ tree_claims rates u) ≤ 500000
      → TreeBuilt rates d (join t u)
  unfolding tree_claims pooled pool_refusal
  joins t u p q h =
      let xs = tree_claims rates t in
      let ys = tree_claims rates u in
      let e : joined (pooled rates d t) (pooled rates d u) ≡ record { refused = 0; study = study_of (dates_of d) rates (xs ++ ys) } =
      (λ i. joined (p.study i) (q.study i)) ∙ joined-built (dates_of d) rates xs ys p.kept q.kept (accepted-window d ok) h in
      record {
        kept = both-kept rates xs ys p.kept q.kept h;
        study = ap (λ (a : Answer). a.study) e;
        number =
            then_next (pool_refusal rates d t) _ p.number ∙ then_next (pool_refusal rates d u) _ q.number ∙ ap (λ (a : Answer). a.refused) e;
      }

  tree-built : (t : PoolTree) → AllowedTree rates t → length (tree_claims rates t) ≤ 500000 → TreeBuilt rates d t
  unfolding tree_claims pooled pool_refusal AllowedTree
  tree-built (leaf ms) a h = record { kept = remaining-kept rates ms; study = moved-study rates ms a d ok; number = refl }
  tree-built (join t u) a h =
      let l = length-append (tree_claims rates t) (tree_claims rates u) in
      joins t u (tree-built t a.0 (omega tests)) (tree-built u a.1 (omega tests)) h

built : (rates : List ℕ) (d : Dates) (t : PoolTree) → Pools rates d t → TreeBuilt rates d t
built rates d t (ok, a, h) = tree-built rates d ok t a h

-- trees of one window whose claims are the same list have the same study
same-study : (rates : List ℕ) (d : Dates) (t u : PoolTree) → Pools rates d t → Pools rates d u → tree_claims rates t ≡ tree_claims rates u
    → pooled rates d t ≡ pooled rates d u
same-study rates d t u p q e = (built rates d t p).study ∙ ap (study_of (dates_of d) rates) e ∙ sym (built rates d u q).study

-- two joined trees the other way round, and three grouped the other way
turned : (rates : List ℕ) (d : Dates) (t u : PoolTree) → Pools rates d (join t u) → Pools rates d (join u t)
unfolding tree_claims AllowedTree
turned rates d t u (ok, a, h) =
    let x = length-append (tree_claims rates t) (tree_claims rates u) in
    let y = length-append (tree_claims rates u) (tree_claims rates t) in
    (ok, (a.1, a.0), omega tests)

regrouped : (rates : List ℕ) (d : Dates) (t u v : PoolTree) → Pools rates d (join (join t u) v) → Pools rates d (join t (join u v))
unfolding tree_claims AllowedTree
regrouped rates d t u v (ok, a, h) = (ok, (a.0.0, (a.0.1, a.1)), rw append_assoc at h)

-- a fresh study joined on either side
with-fresh : (rates : List ℕ) (d : Dates) (t : PoolTree) → Pools rates d t → Pools rates d (join t (leaf [])) × Pools rates d (join (leaf []) t)
unfolding tree_claims AllowedTree remaining_after allowed_after
with-fresh rates d t (ok, a, h) = ((ok, (a, refl), rw append-nil h), (ok, (refl, a), h))

-- a tree with the claims of another pool up to order
tree-same : (rates : List ℕ) (cs : List Claim) (p : TreeIn) → PoolsSame rates cs p → pooled_in rates p ≡ study_of (tree_window p) rates cs
tree-same rates cs p (ok, same) =
    (built rates p.dates p.tree ok).study
    ∙ study-same (tree_window p) rates (tree_claims rates p.tree) cs (same-sums (tree_claims rates p.tree) cs same)

pub any-grouping : AnyGrouping
unfolding tree_claims pooled moved_all remaining_after
any-grouping =
    record {
      accepted = λ rates d t p. (built rates d t p).number;
      study = λ rates d t p. (built rates d t p).study;
      same = λ rates d t u p q same.
          tree-same rates (tree_claims rates u) (record { dates = d; tree = t }) (p, same) ∙ sym (built rates d u q).study;
      order = λ rates d t u p.
          (built rates d (join t u) p).study ∙ study-same (dates_of d) rates _ _ (other-order (tree_claims rates t) (tree_claims rates u))
          ∙ sym (built rates d (join u t) (turned rates d t u p)).study;
      grouping = λ rates d t u v p.
          same-study rates d (join (join t u) v) (join t (join u v)) p (regrouped rates d t u v p)
          (append_assoc (tree_claims rates t) (tree_claims rates u) (tree_claims rates v));
      neutral = λ rates d t p.
          let f = with-fresh rates d t p in
          (same-study rates d (join t (leaf [])) t f.0 p (append-nil (tree_claims rates t)), same-study rates d (join (leaf []) t) t f.1 p refl);
      fresh_leaf = λ rates d ok. (opens-window d.first d.last ok).1;
      parts_total = λ rates whole part parts p ps.
          let cs = tree_claims rates whole.tree in
          let b = (tree_window whole).first.0 in
          let e = (tree_window whole).last.0 in
          let w = built rates whole.dates whole.tree p in
          built-total tree_window (pooled_in rates) rates cs w.kept.accepted whole part parts
          (parts-map _ _ tree_window (λ r q. accepted-window r.dates q.0.0) b e part parts ps) w.study
          (every_map _ _ (tree-same rates cs) part parts (parts-every (PoolsSame rates cs) tree_window b e part parts ps));
    }
