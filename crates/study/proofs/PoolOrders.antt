-- Request No. 8 by the leaves, the proof: leaves in another order, with fresh studies among them, have claims with the same sums.
-- Assumes nothing.
use Prim.Native.Nat.{ℕ}
use mathlib.Core.Path.{◌≡◌, refl, sym, ap, ap₂, ◌∙◌, subst}
use mathlib.Core.List.{List, [], ◌∷◌, ◌++◌, append-nil, append_assoc}
use mathlib.Core.Logic.{⊎_elim}
use lib.ListN.{length}
use Rattle.basics.proofs.Tests.{tests}
use Rattle.claim_months.specs.declared.Claim.{Claim}
use Rattle.study.specs.Study.{sum_over, study_of}
use Rattle.study.specs.Moves.{Move, remaining_after, remaining, allowed_after, Allowed, dates_of}
use Rattle.study.specs.PoolTrees.{PoolTree, leaf, join, leaves, tree_claims, AllowedTree, Pools}
use Rattle.study.specs.PoolOrders.{claims_of, AllAllowed, Arranged, AnyOrder}
use Rattle.study.proofs.SumOver.{SameSums, swap-front, sum-append, same_length}
use Rattle.study.proofs.Built.{study-same}
use Rattle.study.proofs.AnyGrouping.{any-grouping}

module _ (rates : List ℕ) where
  claims-append : (xs ys : List (List Move)) → claims_of rates (xs ++ ys) ≡ claims_of rates xs ++ claims_of rates ys
  unfolding claims_of
  claims-append [] ys = refl
  claims-append (x ∷ xs) ys =
      ap (λ (cs : List Claim). remaining rates x ++ cs) (claims-append xs ys) ∙ sym (append_assoc (remaining rates x) (claims_of rates xs) (claims_of rates ys))

  -- the claims of a tree are those of its leaves
  leaf-claims : (t : PoolTree) → tree_claims rates t ≡ claims_of rates (leaves t)
  unfolding tree_claims leaves claims_of
  leaf-claims (leaf ms) = sym (append-nil (remaining rates ms))
  leaf-claims (join t u) = ap₂ ◌++◌ (leaf-claims t) (leaf-claims u) ∙ sym (claims-append (leaves t) (leaves u))

  -- a study may stand anywhere
  placed : (l : List Move) (ls before after : List (List Move)) → SameSums (claims_of rates ls) (claims_of rates (before ++ after))
      → SameSums (claims_of rates (l ∷ ls)) (claims_of rates (before ++ (l ∷ after)))
  unfolding claims_of
  placed l ls before after same A add z Good laws f good =
      let sum : List Claim → A = sum_over add z f in
      let append = sum-append add z Good laws rates f good in
      let r = remaining rates l in
      let b = claims_of rates before in
      let a = claims_of rates after in
      append r (claims_of rates ls)
      ∙ ap (add (sum r)) (same A add z Good laws f good ∙ ap sum (claims-append before after) ∙ append b a)
      ∙ swap-front add z Good laws (sum r) (sum b) (sum a)
      ∙ sym (ap sum (claims-append before (l ∷ after)) ∙ append b (r ++ a) ∙ ap (add (sum b)) (append r a))

  arranged-same : (ls studies : List (List Move)) → Arranged ls studies → SameSums (claims_of rates ls) (claims_of rates studies)
  unfolding Arranged claims_of remaining_after
  arranged-same [] studies e A add z Good laws f good = ap (λ (xs : List (List Move)). sum_over add z f (claims_of rates xs)) (sym e)
  arranged-same (l ∷ ls) studies h A add z Good laws f good =
      ⊎_elim
      (λ q. ap (λ (x : List Move). sum_over add z f (claims_of rates (x ∷ ls))) q.0 ∙ arranged-same ls studies q.1 A add z Good laws f good)
      (λ q.
      placed l ls q.0 q.1 (arranged-same ls (q.0 ++ q.1) q.3) A add z Good laws f good
      ∙ ap (λ (xs : List (List Move)). sum_over add z f (claims_of rates xs)) (sym q.2))
      h

  -- withdrawals allowed in all studies are allowed in all leaves
  out_of : (l : List Move) (before after : List (List Move)) → AllAllowed rates (before ++ (l ∷ after)) → Allowed rates l × AllAllowed rates (before ++ after)
  unfolding AllAllowed
  out_of l [] after a = a
  out_of l (x ∷ before) after a = let r = out_of l before after a.1 in (r.0, (a.0, r.1))

  arranged-allowed : (ls studies : List (List Move)) → Arranged ls studies → AllAllowed rates studies → AllAllowed rates ls
  unfolding Arranged AllAllowed allowed_after
  arranged-allowed [] studies e a = tt
  arranged-allowed (l ∷ ls) studies h a =
      ⊎_elim
      (λ q. (subst (Allowed rates) (sym q.0) refl, arranged-allowed ls studies q.1 a))
      (λ q.
      let r = out_of l q.0 q.1 (subst (AllAllowed rates) q.2 a) in
      (r.0, arranged-allowed ls (q.0 ++ q.1) q.3 r.1))
      h

  split : (xs ys : List (List Move)) → AllAllowed rates (xs ++ ys) → AllAllowed rates xs × AllAllowed rates ys
  unfolding AllAllowed
  split [] ys a = (tt, a)
  split (x ∷ xs) ys a = let r = split xs ys a.1 in ((a.0, r.0), r.1)

  tree-allowed : (t : PoolTree) → AllAllowed rates (leaves t) → AllowedTree rates t
  unfolding leaves AllAllowed AllowedTree
  tree-allowed (leaf ms) a = a.0
  tree-allowed (join t u) a = let r = split (leaves t) (leaves u) a in (tree-allowed t r.0, tree-allowed u r.1)

pub any_order : AnyOrder
any_order rates d studies ok a h t arranged =
    let same = arranged-same rates (leaves t) studies arranged in
    let n : length (tree_claims rates t) ≡ length (claims_of rates studies) =
    ap length (leaf-claims rates t) ∙ same_length (claims_of rates (leaves t)) (claims_of rates studies) same in
    let p : Pools rates d t = (ok, tree-allowed rates t (arranged-allowed rates (leaves t) studies arranged a), omega tests) in (
      any-grouping.accepted rates d t p,
      any-grouping.study rates d t p ∙ ap (study_of (dates_of d) rates) (leaf-claims rates t)
          ∙ study-same (dates_of d) rates (claims_of rates (leaves t)) (claims_of rates studies) same,
    )
