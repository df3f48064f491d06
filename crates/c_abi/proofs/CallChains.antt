-- A list stands for its study: what is written is read back, place by place; so each call on lists does what the call on studies does, and every chain.
-- Assumes nothing.
use Prim.Native.Nat.{ℕ, suc, ◌+◌, ◌≤◌}
use mathlib.Core.Path.{◌≡◌, refl, sym, ap, ap₂, ◌∙◌, subst, subst⁻¹}
use mathlib.Core.Bool.{Bool}
use mathlib.Core.List.{List, [], ◌∷◌, ◌++◌}
use native.Mathlib.Omega.{arith}
use lib.IntN.{ℤ, pos}
use lib.ListN.{length, get_or, drop, length-append, get_or-append}
use lib.Seq.{sets, sets-eq, drop_at}
use lib.Dec.{eqb}
use borrow.Author.Tests.{le-leb, le-ltb}
use Rattle.basics.specs.Pick.{pick}
use Rattle.basics.specs.Limits.{most_claims}
use Rattle.basics.proofs.Tests.{tests, by}
use Rattle.basics.proofs.Tables.{list-table}
use Rattle.calendar.specs.Calendar.{last_day_number}
use Rattle.claim_months.specs.declared.Claim.{Claim}
use Rattle.rates.specs.declared.Kind.{Kind}
use Rattle.study.specs.declared.Study.{Study}
use Rattle.study.specs.Answers.{Answer}
use Rattle.study.specs.Study.{opened}
use Rattle.study.specs.Joining.{joined}
use Rattle.study.specs.Returned.{Returned, Returns}
use Rattle.study.proofs.Returned.{calls-return}
use Rattle.study_list.specs.StudyList.{study_numbers}
use Rattle.claim_file.specs.BlockAnswers.{record_in}
use Rattle.c_abi.specs.declared.Change.{Change}
use Rattle.c_abi.specs.declared.Change.TheVariants.{Add, Withdraw}
use Rattle.c_abi.specs.Abi.{date_in}
use Rattle.c_abi.specs.StudyCalls.{study_form, held_up_to, sums_in, study_in, changed_by, taken_from, open_answer, open_after, claim_answer, claim_after, join_answer, join_after}
use Rattle.c_abi.specs.CallChains.{sum_in, Stands, Does, CallsStand, Calls, opens, changes, joins, Lent, list_left, lent_to, list_answers, study_left, study_answers, SameChains}
use Rattle.c_abi.proofs.Changes.{adding-is, withdrawing-is, no_record}
use Rattle.std.specs.Prelude.{None, Option, Some}

-- a number of a study, read from where it stands
held_at : (most n : ℕ) (x : ℤ) → x ≡ pos n → n ≤ most → held_up_to most x ≡ n
unfolding held_up_to
held_at most n x e h = ap (held_up_to most) e ∙ ap (λ (t : Bool). pick t n (most + 1)) (le-leb n most h)

pub stands_read : (xs : List ℤ) (s : Study) → Stands xs s → study_in xs ≡ s
unfolding study_in sums_in
stands_read xs s h =
    let sums = sym (list-table 80 (sum_in xs) (pos 0) s.sums h.returned.sums (λ k l. sym (h.sum k l))) in
    λ i.
    record {
      window =
          record {
            first = record { 0 = held_at last_day_number s.window.first.0 _ h.first h.returned.first i };
            last = record { 0 = held_at last_day_number s.window.last.0 _ h.last h.returned.last i };
          };
      taken = held_at most_claims s.taken _ h.taken h.returned.taken i;
      sums = sums i;
    }

-- the numbers of a study stand for it, whatever is behind them
pub numbers-stand : (s : Study) (rest : List ℤ) → Returned s → Stands (study_numbers s ++ rest) s
unfolding study_numbers
numbers-stand s rest r =
    record {
      form = omega (arith, length-append s.sums rest, r.sums);
      first = refl;
      last = refl;
      taken = refl;
      sum = λ k l.
          let p : k + 3 ≡ suc (suc (suc k)) = omega arith in
          ap (λ (i : ℕ). get_or (study_numbers s ++ rest) i (pos 0)) p ∙ get_or-append s.sums rest (pos 0) k (omega (arith, r.sums));
      returned = r;
    }

-- a study written into a list that is long enough
module _ (xs : List ℤ) (long : 83 ≤ length xs) (s : Study) (r : Returned s) where
  as_long : length (study_numbers s) ≡ 83
  unfolding study_numbers
  as_long = omega (arith, r.sums)

  written : sets xs 0 (study_numbers s) ≡ study_numbers s ++ drop 83 xs
  written =
      let n : 0 + length (study_numbers s) ≡ 83 = omega (arith, as_long) in
      sets-eq (study_numbers s) xs 0 (omega (arith, as_long)) ∙ ap (λ (k : ℕ). study_numbers s ++ drop k xs) n

  written_stands : Stands (sets xs 0 (study_numbers s)) s
  written_stands = subst⁻¹ (λ (l : List ℤ). Stands l s) written (numbers-stand s (drop 83 xs) r)

  written_behind : drop 83 (sets xs 0 (study_numbers s)) ≡ drop 83 xs
  written_behind = ap (drop 83) written ∙ drop_at (study_numbers s) (drop 83 xs) 83 as_long

-- a call that writes the study of an answer with the number 0, and leaves the list otherwise
does : (xs : List ℤ) (s : Study) (a : Answer) → Stands xs s → Returns s a
    → Does xs a.refused (pick (eqb a.refused 0) (sets xs 0 (study_numbers a.study)) xs) a
does xs s a h r =
    let new = sets xs 0 (study_numbers a.study) in
    let back = r.returned h.returned in
    record {
      answer = refl;
      left =
          by (eqb a.refused 0) (λ y. Stands (pick y new xs) a.study) (λ q. written_stands xs h.form a.study back)
          (λ q. subst⁻¹ (Stands xs) (r.as_given (λ z. omega tests)) h);
      behind =
          by (eqb a.refused 0) (λ y. drop 83 (pick y new xs) ≡ drop 83 xs) (λ q. written_behind xs h.form a.study back) (λ q. refl);
    }

-- the calls that take a claim return a study
keeps : (change : Change) (kind : Kind) (s : Study) (c : Claim) (table : List ℕ) → Returns s (changed_by change kind s c table)
keeps Add kind s c table = subst (Returns s) (adding-is kind s c table) (calls-return.adding kind s c table)
keeps Withdraw kind s c table = subst (Returns s) (withdrawing-is kind s c table) (calls-return.withdrawing kind s c table)

keeps-from : (change : Change) (kind : Kind) (s : Study) (m : Option Claim) (table : List ℕ) → Returns s (taken_from (changed_by change kind) s m table)
unfolding taken_from
keeps-from change kind s (Some c) table = keeps change kind s c table
keeps-from change kind s None table = record { returned = λ r. r; as_given = λ z. refl }

opening : (first last : ℕ) (xs : List ℤ) → 83 ≤ length xs
    → Does xs (open_answer first last xs) (open_after first last xs) (opened (date_in first) (date_in last))
opening first last xs h =
    let a = opened (date_in first) (date_in last) in
    let r = calls-return.opening (date_in first) (date_in last) in
    rw (le-ltb (length xs) 83 h)
    (record { answer = refl; left = written_stands xs h a.study r; behind = written_behind xs h a.study r })

changing : (change : Change) (kind : Kind) (xs : List ℤ) (s : Study) (claim table : List ℕ) → Stands xs s
    → Does xs (claim_answer (changed_by change kind) xs claim table) (claim_after (changed_by change kind) xs claim table)
    (taken_from (changed_by change kind) s (record_in claim 0) table)
unfolding claim_after claim_answer study_form
changing change kind xs s claim table h =
    rw (le-leb 83 (length xs) h.form, stands_read xs s h)
    (does xs s (taken_from (changed_by change kind) s (record_in claim 0) table) h (keeps-from change kind s (record_in claim 0) table))

joining : (xs ys : List ℤ) (s t : Study) → Stands xs s → Stands ys t → Does xs (join_answer xs ys) (join_after xs ys) (joined s t)
unfolding join_after join_answer study_form
joining xs ys s t h g =
    rw (le-leb 83 (length xs) h.form, le-leb 83 (length ys) g.form, stands_read xs s h, stands_read ys t g)
    (does xs s (joined s t) h (calls-return.joining s t))

pub calls-stand : CallsStand
calls-stand =
    record {
      reading = stands_read;
      opening = opening;
      changing = changing;
      joining = joining;
      no_record = λ change kind xs claim table e. let p = no_record (changed_by change kind) xs claim table e in (sym p.0, sym p.1);
    }

-- a chain, call by call
pub record Chained (c : Calls) : Type 0 where
  pub left : Stands (list_left c) (study_left c)
  pub answers : list_answers c ≡ study_answers c
  pub behind : drop 83 (list_left c) ≡ drop 83 (lent_to c)

chained : (c : Calls) → Lent c → Chained c
unfolding Lent list_left lent_to list_answers study_left study_answers
chained (opens first last xs) h =
    let d = opening first last xs h in
    record { left = d.left; answers = ap (λ (n : ℕ). n ∷ []) d.answer; behind = d.behind }
chained (changes change kind c claim table) h =
    let before = chained c h in
    let d = changing change kind (list_left c) (study_left c) claim table before.left in
    record {
      left = d.left;
      answers = ap₂ (λ (n : ℕ) (ns : List ℕ). n ∷ ns) d.answer before.answers;
      behind = d.behind ∙ before.behind;
    }
chained (joins b c) h =
    let one = chained b h.0 in
    let other = chained c h.1 in
    let d = joining (list_left b) (list_left c) (study_left b) (study_left c) one.left other.left in
    record {
      left = d.left;
      answers = λ i. d.answer i ∷ (one.answers i ++ other.answers i);
      behind = d.behind ∙ one.behind;
    }

pub same-chains : SameChains
same-chains =
    record {
      left = λ c h. (chained c h).left;
      answers = λ c h. (chained c h).answers;
      behind = λ c h. (chained c h).behind;
    }
