-- Request No. 3, the proof. Two studies of built lists of claims joined are the study of both lists, one after the other; their sums stay within the
-- bounds of refusal 9 as long as they hold at most 500,000 claims together.
-- Assumes nothing.
use Prim.Native.Nat.{ℕ, ◌+◌, ◌≤◌}
use mathlib.Core.Path.{◌≡◌, refl, sym, ap, ◌∙◌}
use mathlib.Core.Bool.{Bool, true, ◌&&◌}
use mathlib.Core.List.{List, [], ◌∷◌, ◌++◌, append-nil}
use lib.ListN.{length, length-append}
use lib.Dec.{leb, eqb}
use borrow.Author.Tests.{le-leb, eq-eqb, leb-true}
use Rattle.basics.specs.Pick.{pick}
use Rattle.basics.specs.Checks.{check, refuse_full, refuse_other_window}
use Rattle.basics.proofs.Tests.{tests, by}
use Rattle.basics.proofs.Checks.{then_next}
use Rattle.claim_months.specs.declared.Claim.{Claim}
use Rattle.claim_months.specs.declared.Window.{Window}
use Rattle.claim_months.specs.Windows.{window_sound, window_check}
use Rattle.claim_months.proofs.SpanAnswers.{window-passes}
use Rattle.claim_months.proofs.Parts.{parts-map, parts-every, every_map}
use Rattle.study.specs.declared.Study.{Study}
use Rattle.study.specs.Answers.{Answer}
use Rattle.study.specs.Sums.{none, plus, within}
use Rattle.study.specs.Study.{share_of, study_of, opened}
use Rattle.study.specs.Moves.{remaining}
use Rattle.study.specs.Joining.{same_window, join_room, join_check, together, joined, added_all, Pool, pool_answer, pool_claims, pool_window, Poolable, PoolsClaims, SameClaims}
use Rattle.study.specs.Pooling.{Pooling}
use Rattle.study.proofs.Algebra.{Shaped}
use Rattle.study.proofs.SumOver.{All, sums, sum-append, same_length}
use Rattle.study.proofs.Capacity.{Accepted as AcceptedClaim, share-shaped, built-within}
use Rattle.study.proofs.Built.{study-same, added-built}
use Rattle.study.proofs.Totals.{built-total}
use Rattle.study.proofs.Members.{front, same-sums, all_same, all_append}
use Rattle.study.proofs.TakenBack.{Kept, remaining-kept, accepted-window, opened-built, moved-study}

-- the claims of two studies together
pub both-kept : (rates : List ℕ) (xs ys : List Claim) → Kept rates xs → Kept rates ys → length (xs ++ ys) ≤ 500000 → Kept rates (xs ++ ys)
both-kept rates xs ys p q h = record { accepted = all_append (AcceptedClaim rates) xs ys p.accepted q.accepted; few = h }

module _ (w : Window) (rates : List ℕ) (xs ys : List Claim) where
  together-built : together (study_of w rates xs) (study_of w rates ys) ≡ study_of w rates (xs ++ ys)
  unfolding together study_of
  together-built =
      let s = sym (sum-append plus none Shaped sums rates (share_of w rates) (share-shaped w rates) xs ys) in
      λ i. record { window = w; taken = sym (length-append xs ys) i; sums = s i }

  module _ (p : Kept rates xs) (q : Kept rates ys) where
    -- there is room for 500,000 claims together, and no more
    room-both : length (xs ++ ys) ≤ 500000 → join_room (study_of w rates xs) (study_of w rates ys) ≡ true
    unfolding join_room together study_of
    room-both h =
        rw (
          le-leb (length xs + length ys) 500000 (omega (tests, length-append xs ys)),
          built-within w rates xs p.accepted p.few,
          built-within w rates ys q.accepted q.few,
          ap (λ (s : Study). within s.sums) together-built ∙ built-within w rates (xs ++ ys) (both-kept rates xs ys p q h).accepted h,
        )

    room-is : join_room (study_of w rates xs) (study_of w rates ys) ≡ leb (length (xs ++ ys)) 500000
    unfolding join_room study_of
    room-is =
        by (leb (length (xs ++ ys)) 500000) (λ y. leb (length (xs ++ ys)) 500000 ≡ y → join_room (study_of w rates xs) (study_of w rates ys) ≡ y)
        (λ t u. room-both (leb-true (length (xs ++ ys)) 500000 u)) (λ t u. rw (rw length-append at u)) refl

    module _ (sound : window_sound w.first.0 w.last.0 ≡ true) where
      join-number : join_check (study_of w rates xs) (study_of w rates ys) ≡ pick (leb (length (xs ++ ys)) 500000) 0 refuse_full
      unfolding join_check same_window study_of
      join-number =
          let open-window = window-passes w.first.0 w.last.0 sound in
          let t : (eqb w.first.0 w.first.0 && eqb w.last.0 w.last.0) ≡ true =
          rw (eq-eqb w.first.0 w.first.0 refl, eq-eqb w.last.0 w.last.0 refl) in
          then_next (window_check w.first.0 w.last.0) _ open-window ∙ then_next (window_check w.first.0 w.last.0) _ open-window
          ∙ then_next (check (eqb w.first.0 w.first.0 && eqb w.last.0 w.last.0) refuse_other_window) _
          (ap (λ (y : Bool). check y refuse_other_window) t)
          ∙ ap (λ (y : Bool). check y refuse_full) room-is

      -- joined they are the study of both lists
      pub joined-built : length (xs ++ ys) ≤ 500000
          → joined (study_of w rates xs) (study_of w rates ys) ≡ record { refused = 0; study = study_of w rates (xs ++ ys) }
      unfolding joined
      joined-built h =
          let s = study_of w rates xs in
          let t = study_of w rates ys in
          let n = join-number ∙ ap (λ (y : Bool). pick y 0 refuse_full) (le-leb (length (xs ++ ys)) 500000 h) in
          let e = ap (λ (x : ℕ). pick (eqb x 0) (together s t) s) n ∙ together-built in
          λ i. record { refused = n i; study = e i }

-- accepted claims added one by one to the study of some
all-added : (w : Window) (rates : List ℕ) → window_sound w.first.0 w.last.0 ≡ true → (cs ds : List Claim) → All (AcceptedClaim rates) cs
    → All (AcceptedClaim rates) ds → length cs + length ds ≤ 500000 → added_all rates (study_of w rates ds) cs ≡ study_of w rates (cs ++ ds)
unfolding added_all
all-added w rates sound [] ds a b h = refl
all-added w rates sound (c ∷ cs) ds a b h =
    ap (λ (x : Answer). added_all rates x.study cs) (added-built w rates sound ds c b (omega tests))
    ∙ rw a.0 (all-added w rates sound cs (c ∷ ds) a.1 (a.0, b) (omega tests))
    ∙ study-same w rates (cs ++ (c ∷ ds)) (c ∷ (cs ++ ds)) (front cs c ds)

-- the pool of two built studies
module _ (rates : List ℕ) (p : Pool) (ok : Poolable rates p) where
  abbrev xs : List Claim
  xs = remaining rates p.one

  abbrev ys : List Claim
  ys = remaining rates p.other

  kept-xs : Kept rates xs
  kept-xs = remaining-kept rates p.one

  kept-ys : Kept rates ys
  kept-ys = remaining-kept rates p.other

  pooled : pool_answer rates p ≡ joined (study_of (pool_window p) rates xs) (study_of (pool_window p) rates ys)
  pooled = λ i. joined (moved-study rates p.one ok.1 p.dates ok.0 i) (moved-study rates p.other ok.2 p.dates ok.0 i)

  pool-number : (pool_answer rates p).refused ≡ pick (leb (length (pool_claims rates p)) 500000) 0 refuse_full
  unfolding joined
  pool-number =
      ap (λ (a : Answer). a.refused) pooled
      ∙ join-number (pool_window p) rates xs ys kept-xs kept-ys (accepted-window p.dates ok.0)

  module _ (h : length (pool_claims rates p) ≤ 500000) where
    pool-kept : Kept rates (pool_claims rates p)
    pool-kept = both-kept rates xs ys kept-xs kept-ys h

    pool-study : (pool_answer rates p).study ≡ study_of (pool_window p) rates (pool_claims rates p)
    pool-study =
        ap (λ (a : Answer). a.study)
        (pooled
        ∙ joined-built (pool_window p) rates xs ys kept-xs kept-ys (accepted-window p.dates ok.0) h)

    pool-added : (cs : List Claim) → SameClaims cs (pool_claims rates p)
        → added_all rates (opened p.dates.first p.dates.last).study cs ≡ study_of (pool_window p) rates (pool_claims rates p)
    pool-added cs same =
        let same_sum = same-sums cs (pool_claims rates p) same in
        let n = same_length cs (pool_claims rates p) same_sum in
        ap (λ (s : Study). added_all rates s cs) (opened-built rates p.dates ok.0)
        ∙ all-added (pool_window p) rates (accepted-window p.dates ok.0) cs []
        (all_same (AcceptedClaim rates) cs (pool_claims rates p) same pool-kept.accepted) tt (omega tests)
        ∙ ap (study_of (pool_window p) rates) (append-nil cs)
        ∙ study-same (pool_window p) rates cs (pool_claims rates p) same_sum

-- a pool with the claims of another up to order
pool-same : (rates : List ℕ) (cs : List Claim) (p : Pool) → PoolsClaims rates cs p → (pool_answer rates p).study ≡ study_of (pool_window p) rates cs
pool-same rates cs p (ok, few, same) =
    pool-study rates p ok few ∙ study-same (pool_window p) rates (pool_claims rates p) cs (same-sums (pool_claims rates p) cs same)

pub pooling : Pooling
pooling =
    record {
      answer = pool-number;
      study = pool-study;
      added_study = λ rates p cs ok h same. pool-study rates p ok h ∙ sym (pool-added rates p ok h cs same);
      parts_total = λ rates whole part parts ok ps.
          let cs = pool_claims rates whole in
          let b = (pool_window whole).first.0 in
          let e = (pool_window whole).last.0 in
          built-total pool_window (λ p. (pool_answer rates p).study) rates cs (pool-kept rates whole ok.0 ok.1).accepted whole part parts
          (parts-map _ _ pool_window (λ p q. accepted-window p.dates q.0.0) b e part parts ps) (pool-same rates cs whole ok)
          (every_map _ _ (pool-same rates cs) part parts (parts-every (PoolsClaims rates cs) pool_window b e part parts ps));
    }
