-- Moves and pools by the C calls, the proof: a list that moves and joins left stands for the study that they left.
-- Assumes nothing.
use Prim.Native.Nat.{ℕ, ◌<◌}
use mathlib.Core.Path.{◌≡◌, refl, sym, ap₂, ◌∙◌, subst}
use mathlib.Core.List.{List, [], ◌∷◌, map}
use lib.IntN.{ℤ, ◌+ℤ◌}
use lib.ListN.{drop}
use Rattle.basics.specs.Pick.{pick}
use Rattle.basics.proofs.Tests.{by}
use Rattle.claim_months.specs.declared.Claim.{Claim}
use Rattle.claim_months.specs.Windows.{Parts, total, EveryPart}
use Rattle.claim_months.proofs.Parts.{parts-every, every_map}
use Rattle.rates.specs.declared.Kind.{Kind}
use Rattle.study.specs.declared.Study.{Study}
use Rattle.study.specs.Study.{opened, added}
use Rattle.study.specs.Withdrawing.{withdrawn}
use Rattle.study.specs.Moves.{moved, moved_all, move_answers, dates_of, Accepted, moved_at, answers_in}
use Rattle.study.specs.Joining.{pool_answer, pool_window, Poolable, PoolsClaims}
use Rattle.study.proofs.TakenBack.{taken_back}
use Rattle.study.proofs.Pooling.{pooling}
use Rattle.claim_file.specs.BlockAnswers.{record_in}
use Rattle.c_abi.specs.declared.Change.TheVariants.{Add, Withdraw}
use Rattle.c_abi.specs.Abi.{date_in}
use Rattle.c_abi.specs.StudyCalls.{changed_by, open_after, claim_answer, claim_after}
use Rattle.c_abi.specs.CallChains.{sum_in, Stands, Does}
use Rattle.c_abi.specs.CallsAddUp.{table_of}
use Rattle.c_abi.specs.CallMoves.{CallMove, Recorded, move_of, moves_of, CallAllowed, move_answer, move_after, list_moved, call_answers, CallDates, dates_in, call_days, CallAccepted, list_moved_in, call_answers_in, CallsTakenBack, CallPool, one_dates, other_dates, pool_of, call_pool_window, call_pool_claims, call_pool_answer, call_pool_list, CallPoolable, CallPoolsClaims, CallsPool}
use Rattle.c_abi.proofs.CallChains.{calls-stand}
use Rattle.c_abi.proofs.CallsAddUp.{record-taken, opens-call, lists_total}
use Rattle.c_abi.proofs.PartsAlong.{parts-along, every-along}
use Rattle.std.specs.Prelude.{Some}

-- what moves leave and answer: the list stands for the study, the numbers are the study's, and the numbers behind the 83rd are as they were
record Moved (xs ys : List ℤ) (s : Study) (ns ms : List ℕ) : Type 0 where
  left : Stands ys s
  answers : ns ≡ ms
  behind : drop 83 ys ≡ drop 83 xs

module _ (kind : Kind) (rates : List ℕ) where
  one-move : (xs : List ℤ) (s : Study) → Stands xs s → (m : CallMove) → record_in m.bytes 0 ≡ Some m.claim
      → Does xs (move_answer kind rates xs m) (move_after kind rates xs m) (moved rates s (move_of m))
  unfolding moved changed_by
  one-move xs s h m e =
      let table = table_of kind rates in
      by m.withdraws
      (λ y. Does xs (claim_answer (changed_by (pick y Withdraw Add) kind) xs m.bytes table) (claim_after (changed_by (pick y Withdraw Add) kind) xs m.bytes table)
      (pick y (withdrawn s m.claim rates) (added s m.claim rates)))
      (λ q. record-taken Withdraw kind rates xs s m.bytes m.claim h e) (λ q. record-taken Add kind rates xs s m.bytes m.claim h e)

  all-moves : (ms : List CallMove) → Recorded ms → (xs : List ℤ) (s : Study) → Stands xs s
      → Moved xs (list_moved kind rates xs ms) (moved_all rates s (moves_of ms)) (call_answers kind rates xs ms) (move_answers rates s (moves_of ms))
  unfolding Recorded moves_of list_moved moved_all call_answers move_answers
  all-moves [] r xs s h = record { left = h; answers = refl; behind = refl }
  all-moves (m ∷ ms) r xs s h =
      let d = one-move xs s h m r.0 in
      let rest = all-moves ms r.1 (move_after kind rates xs m) (moved rates s (move_of m)).study d.left in
      record {
        left = rest.left;
        answers = ap₂ (λ (n : ℕ) (ns : List ℕ). n ∷ ns) d.answer rest.answers;
        behind = rest.behind ∙ d.behind;
      }

  -- from ltd_open on
  moved_in : (ms : List CallMove) → CallAllowed rates ms → (d : CallDates) → CallAccepted d
      → Moved d.lent (list_moved_in kind rates ms d) (moved_at rates (moves_of ms) (dates_in d)) (call_answers_in kind rates ms d)
      (answers_in rates (moves_of ms) (dates_in d))
  moved_in ms ok d o =
      let start = calls-stand.opening d.first d.last d.lent (opens-call d.first d.last d.lent o).0 in
      let all = all-moves ms ok.0 (open_after d.first d.last d.lent) (opened (date_in d.first) (date_in d.last)).study start.left in
      record { left = all.left; answers = all.answers; behind = all.behind ∙ start.behind }

accepted-dates : (d : CallDates) → CallAccepted d → Accepted (dates_in d)
accepted-dates d o = (opens-call d.first d.last d.lent o).1

-- the same moves in a window and its parts
module _ (kind : Kind) (rates : List ℕ) (ms : List CallMove) (ok : CallAllowed rates ms) where
  module _ (whole part : CallDates) (parts : List CallDates) (ow : CallAccepted whole)
      (cut : Parts CallAccepted call_days (call_days whole).first.0 (call_days whole).last.0 part parts) where
    opens : EveryPart CallAccepted part parts
    opens = parts-every CallAccepted call_days (call_days whole).first.0 (call_days whole).last.0 part parts cut

    dates-cut : Parts Accepted dates_of (call_days whole).first.0 (call_days whole).last.0 (dates_in part) (map dates_in parts)
    dates-cut = parts-along dates_in CallAccepted Accepted dates_of accepted-dates (call_days whole).first.0 (call_days whole).last.0 part parts cut

    same-everywhere : EveryPart (λ d. call_answers_in kind rates ms d ≡ call_answers_in kind rates ms whole) part parts
    same-everywhere =
        every-along dates_in CallAccepted (λ d. answers_in rates (moves_of ms) d ≡ answers_in rates (moves_of ms) (dates_in whole)) _
        (λ d o p. (moved_in kind rates ms ok d o).answers ∙ p ∙ sym (moved_in kind rates ms ok whole ow).answers) part parts opens
        (taken_back.same_answers rates (moves_of ms) (dates_in whole) (dates_in part) (map dates_in parts) (accepted-dates whole ow) ok.1 dates-cut)

    total-everywhere : (k : ℕ) → k < 80
        → total ◌+ℤ◌ (λ d. sum_in (list_moved_in kind rates ms d) k) part parts ≡ sum_in (list_moved_in kind rates ms whole) k
    total-everywhere =
        lists_total dates_in (list_moved_in kind rates ms) (moved_at rates (moves_of ms)) whole part parts (moved_in kind rates ms ok whole ow).left
        (every_map CallAccepted _ (λ d o. (moved_in kind rates ms ok d o).left) part parts opens)
        (taken_back.parts_total rates (moves_of ms) (dates_in whole) (dates_in part) (map dates_in parts) (accepted-dates whole ow) ok.1 dates-cut)

pub calls-taken-back : CallsTakenBack
calls-taken-back =
    record {
      answers = λ kind rates ms d o ok. (moved_in kind rates ms ok d o).answers ∙ taken_back.answers rates (moves_of ms) (dates_in d) (accepted-dates d o) ok.1;
      study = λ kind rates ms d o ok.
          subst (Stands (list_moved_in kind rates ms d)) (taken_back.study rates (moves_of ms) (dates_in d) (accepted-dates d o) ok.1) (moved_in kind rates ms ok d o).left;
      behind = λ kind rates ms d o ok. (moved_in kind rates ms ok d o).behind;
      same_answers = λ kind rates ms whole part parts ow ok cut. same-everywhere kind rates ms ok whole part parts ow cut;
      parts_total = λ kind rates ms whole part parts ow ok cut. total-everywhere kind rates ms ok whole part parts ow cut;
    }

-- pools
poolable : (rates : List ℕ) (p : CallPool) → CallPoolable rates p → Poolable rates (pool_of p)
poolable rates p ok = (accepted-dates (one_dates p) ok.opens, ok.one.1, ok.other.1)

pooled : (kind : Kind) (rates : List ℕ) (p : CallPool) → CallPoolable rates p
    → Does p.lent (call_pool_answer kind rates p) (call_pool_list kind rates p) (pool_answer rates (pool_of p))
pooled kind rates p ok =
    let one = moved_in kind rates p.one ok.one (one_dates p) ok.opens in
    let other = moved_in kind rates p.other ok.other (other_dates p) ok.other_opens in
    let d = calls-stand.joining (list_moved_in kind rates p.one (one_dates p)) (list_moved_in kind rates p.other (other_dates p)) _ _ one.left other.left in
    record { answer = d.answer; left = d.left; behind = d.behind ∙ one.behind }

module _ (kind : Kind) (rates : List ℕ) (whole part : CallPool) (parts : List CallPool) (ow : CallPoolsClaims rates (call_pool_claims rates whole) whole)
    (cut : Parts (CallPoolsClaims rates (call_pool_claims rates whole)) call_pool_window (call_pool_window whole).first.0 (call_pool_window whole).last.0 part parts) where
  abbrev cs : List Claim
  cs = call_pool_claims rates whole

  pools-claims : (p : CallPool) → CallPoolsClaims rates cs p → PoolsClaims rates cs (pool_of p)
  pools-claims p ok = (poolable rates p ok.0, ok.1, ok.2)

  pools-total : (k : ℕ) → k < 80 → total ◌+ℤ◌ (λ p. sum_in (call_pool_list kind rates p) k) part parts ≡ sum_in (call_pool_list kind rates whole) k
  pools-total =
      let b = (call_pool_window whole).first.0 in
      let e = (call_pool_window whole).last.0 in
      lists_total pool_of (call_pool_list kind rates) (λ p. (pool_answer rates p).study) whole part parts (pooled kind rates whole ow.0).left
      (every_map (CallPoolsClaims rates cs) _ (λ p ok. (pooled kind rates p ok.0).left) part parts (parts-every (CallPoolsClaims rates cs) call_pool_window b e part parts cut))
      (pooling.parts_total rates (pool_of whole) (pool_of part) (map pool_of parts) (pools-claims whole ow)
      (parts-along pool_of (CallPoolsClaims rates cs) (PoolsClaims rates cs) pool_window pools-claims b e part parts cut))

pub calls-pool : CallsPool
calls-pool =
    record {
      answer = λ kind rates p ok. (pooled kind rates p ok).answer ∙ pooling.answer rates (pool_of p) (poolable rates p ok);
      study = λ kind rates p ok few.
          subst (Stands (call_pool_list kind rates p)) (pooling.study rates (pool_of p) (poolable rates p ok) few) (pooled kind rates p ok).left;
      added_study = λ kind rates p cs ok few same.
          subst (Stands (call_pool_list kind rates p)) (pooling.added_study rates (pool_of p) cs (poolable rates p ok) few same) (pooled kind rates p ok).left;
      behind = λ kind rates p ok. (pooled kind rates p ok).behind;
      parts_total = pools-total;
    }
