-- The run of standard input, some bytes at a time, and under the rates that were read.
-- Assumes nothing.
use Prim.Native.Nat.{ℕ, ◌+◌, ◌*◌, ◌/◌, ◌%◌, ◌≤◌, ◌<◌}
use mathlib.Core.Path.{◌≡◌, refl, sym, ap, ◌∙◌}
use mathlib.Core.Bool.{Bool, true, false}
use mathlib.Core.List.{List, [], ◌∷◌, ◌++◌, append_assoc}
use native.Mathlib.Omega.{arith}
use lib.ListN.{length, take, drop, length-append, length-drop}
use lib.Seq.{length-take-le, take-add, take-take, take-append-add, take-append_seam}
use borrow.Author.Tests.{le-ltb}
use Rattle.std.specs.Prelude.{Option, Some, None}
use Rattle.basics.specs.Pick.{pick}
use Rattle.basics.proofs.Tests.{by}
use Rattle.rates.specs.declared.Kind.TheVariants.{Prepared}
use Rattle.rates.specs.design.Prepared.{prepared_of}
use Rattle.claim_file.specs.Runs.{FileRun}
use Rattle.claim_file.specs.Run.{Adding, started, blocks_fed, part_fed, fed, ended, file_run_with}
use Rattle.claim_file.specs.design.PreparedRuns.{adding_with}
use Rattle.claim_file.proofs.FedInPieces.{fed-in-pieces}
use Rattle.claim_file.proofs.SameRuns.{same_runs}
use Rattle.ltd_study.specs.declared.input.Filled.{Filled}
use Rattle.ltd_study.specs.Sources.{Stream, Hands, IsOver}
use Rattle.ltd_study.specs.Input.{file_rates, fed_count, claims_of, RatesRead, InputRun, StudyRun, StudyText}
use Rattle.ltd_study.specs.design.Private.{Filling}
use Rattle.ltd_study.proofs.Answers.{full-whole}
use Rattle.ltd_study.proofs.Sources.{hands-none, hands-on, given}
use Rattle.report.specs.Text.{run_text, line_answer, line_after}

-- some bytes behind whole blocks, as the claim file that is run
claims-behind : (whole rest : List ℕ) (fails : Bool) → length whole % 512 ≡ 0
    → claims_of (record { bytes = whole ++ rest; fails = fails }) ≡ whole ++ claims_of (record { bytes = rest; fails = fails })
unfolding claims_of
claims-behind whole rest fails h =
    by fails
    (λ t. pick t (take (length (whole ++ rest) / 512 * 512) (whole ++ rest) ++ (0 ∷ [])) (whole ++ rest)
    ≡ whole ++ pick t (take (length rest / 512 * 512) rest ++ (0 ∷ [])) rest)
    (λ _.
    let blocks = length rest / 512 * 512 in
    let e : length (whole ++ rest) / 512 * 512 ≡ length whole + blocks = omega (arith, h, length-append whole rest) in
    ap (λ (n : ℕ). take n (whole ++ rest) ++ (0 ∷ [])) e ∙ ap (λ (x : List ℕ). x ++ (0 ∷ [])) (take-append-add whole rest blocks)
    ∙ append_assoc whole (take blocks rest) (0 ∷ []))
    (λ _. refl)

-- one byte is a part block, whichever it is
fed-one : (r : FileRun) (add : Adding) (bytes : List ℕ) → length bytes ≡ 1 → fed r add bytes ≡ part_fed r 1
unfolding fed blocks_fed
fed-one r add bytes e = rw e

-- what is fed of the bytes that came is the claim file that they are
fed-piece : (r : FileRun) (add : Adding) (buffer : List ℕ) (failed : Bool) (count : ℕ) → count ≤ length buffer → (failed ≡ true → count < length buffer)
    → fed r add (take (fed_count failed count) buffer) ≡ fed r add (claims_of (record { bytes = take count buffer; fails = failed }))
unfolding claims_of fed_count
fed-piece r add buffer failed count h =
    by failed
    (λ t. (t ≡ true → count < length buffer) → fed r add (take (pick t (count / 512 * 512 + 1) count) buffer)
    ≡ fed r add (pick t (take (length (take count buffer) / 512 * 512) (take count buffer) ++ (0 ∷ [])) (take count buffer)))
    (λ _ w.
    let blocks = count / 512 * 512 in
    let l = length-take-le count buffer h in
    let low : blocks ≤ count = omega arith in
    let long : blocks < length buffer = omega (arith, low, w refl) in
    let front = take blocks buffer in
    let one = take 1 (drop blocks buffer) in
    let f = length-take-le blocks buffer (omega (arith, long)) in
    let d = length-drop blocks buffer in
    let s : length one ≡ 1 = length-take-le 1 (drop blocks buffer) (omega (arith, long, d)) in
    let m : length front % 512 ≡ 0 = omega (arith, f) in
    let q : length (take count buffer) / 512 * 512 ≡ blocks = omega (arith, l) in
    ap (fed r add) (take-add blocks 1 buffer) ∙ sym (fed-in-pieces r add front one m) ∙ fed-one (fed r add front) add one s
    ∙ sym (fed-one (fed r add front) add (0 ∷ []) refl) ∙ fed-in-pieces r add front (0 ∷ []) m
    ∙ ap (λ (x : List ℕ). fed r add (x ++ (0 ∷ []))) (sym (ap (λ (n : ℕ). take n (take count buffer)) q ∙ take-take blocks count buffer low)))
    (λ _ _. refl)

-- a run that was fed whole blocks from its start, and these were handed out
pub record FedBlocks (from now : Option Stream) (add : Adding) (run : FileRun) : Type 0 where
  pub bytes : List ℕ
  pub handed : Hands from bytes now
  pub same : run ≡ fed started add bytes
  pub whole : length bytes % 512 ≡ 0

pub fed-nothing : (from : Option Stream) (add : Adding) (run : FileRun) → run ≡ started → FedBlocks from from add run
unfolding fed blocks_fed part_fed started
fed-nothing from add run e = record { bytes = []; handed = hands-none from; same = e; whole = refl }

-- with a buffer that was filled
module _ (from before now : Option Stream) (table buffer : List ℕ) (f : Filled) (run next : FileRun) (b : FedBlocks from before (adding_with Prepared table) run)
    (g : Filling 2048 f) (long : length buffer ≡ 2048) (h : Hands before (take f.count buffer) now)
    (e : next ≡ fed run (adding_with Prepared table) (take (fed_count f.failed f.count) buffer)) where
  abbrev add : Adding
  add = adding_with Prepared table

  abbrev came : List ℕ
  came = b.bytes ++ take f.count buffer

  handed : Hands from came now
  handed = hands-on from before now b.bytes (take f.count buffer) b.handed h

  piece : next ≡ fed started add (b.bytes ++ claims_of (record { bytes = take f.count buffer; fails = f.failed }))
  piece =
      e ∙ fed-piece run add buffer f.failed f.count (omega (arith, g.within, long)) (λ t. omega (arith, g.short t, long))
      ∙ ap (λ (r : FileRun). fed r add (claims_of (record { bytes = take f.count buffer; fails = f.failed }))) b.same
      ∙ fed-in-pieces started add b.bytes (claims_of (record { bytes = take f.count buffer; fails = f.failed })) b.whole

  pub fed-on : f.over ≡ false → FedBlocks from now add next
  unfolding claims_of
  fed-on t =
      let w = full-whole f g t in
      let l = length-take-le f.count buffer (omega (arith, g.within, long)) in
      record {
        bytes = came;
        handed = handed;
        same = piece ∙ ap (λ (x : Bool). fed started add (b.bytes ++ pick x (take (length (take f.count buffer) / 512 * 512) (take f.count buffer) ++ (0 ∷ [])) (take f.count buffer))) w.1;
        whole = omega (arith, b.whole, length-append b.bytes (take f.count buffer), l, w.0);
      }

  -- at the end of the input
  pub run-over : IsOver now f.failed → InputRun from table (ended next)
  unfolding file_run_with
  run-over o =
      record {
        claims = record { bytes = came; fails = f.failed };
        given = given from now came f.failed handed o;
        same = ap ended (piece ∙ ap (fed started add) (sym (claims-behind b.bytes (take f.count buffer) f.failed b.whole)));
      }

-- a run that has stopped behind whole blocks: what is left of the input changes nothing
pub run-stopped : (from now : Option Stream) (table : List ℕ) (run : FileRun) → FedBlocks from now (adding_with Prepared table) run
    → ((bytes : List ℕ) → fed run (adding_with Prepared table) bytes ≡ run) → InputRun from table (ended run)
unfolding file_run_with claims_of
run-stopped None now table run b s = record { claims = record { bytes = b.bytes; fails = false }; given = tt; same = ap ended b.same }
run-stopped (Some l) None table run b s = absurd b.handed
run-stopped (Some l) (Some m) table run b s =
    let add = adding_with Prepared table in
    let rest = claims_of (record { bytes = m.bytes; fails = l.fails }) in
    record {
      claims = l;
      given = (refl, refl);
      same =
          ap ended
          (sym (s rest) ∙ ap (λ (r : FileRun). fed r add rest) b.same ∙ fed-in-pieces started add b.bytes rest b.whole
          ∙ ap (fed started add) (sym (claims-behind b.bytes m.bytes l.fails b.whole) ∙ ap (λ (x : List ℕ). claims_of (record { bytes = x; fails = l.fails })) (sym b.handed.0)));
    }

-- under the rates read
pub under-rates : (file input : Option Stream) (rates : ℕ) (numbers table : List ℕ) (run : FileRun) → RatesRead file rates numbers
    → table ≡ prepared_of (take rates numbers) → InputRun input table run → StudyRun file input run
under-rates file input rates numbers table run r e i =
    record {
      rates = r.file;
      claims = i.claims;
      rates_given = r.given;
      claims_given = i.given;
      same =
          i.same ∙ ap (λ (t : List ℕ). file_run_with (adding_with Prepared t) (claims_of i.claims)) (e ∙ ap prepared_of r.stored)
          ∙ (same_runs (file_rates r.file.fails r.file.bytes) (claims_of i.claims)).prepared_run;
    }

-- the text of a run, in a list with room for it
module _ (old new : List ℕ) (run : FileRun) (count : ℕ) (h : 1200 ≤ length old) (p : count ≡ line_answer 1200 old (run_text run)) (q : new ≡ line_after 1200 old (run_text run)) where
  text-first : take count new ≡ run_text run
  unfolding line_answer line_after
  text-first =
      let text = run_text run in
      let t = le-ltb (length old) 1200 h in
      let c : count ≡ length text = p ∙ ap (λ (b : Bool). pick b 0 (length text)) t in
      let n : new ≡ text ++ drop (length text) old = q ∙ ap (λ (b : Bool). pick b old (text ++ drop (length text) old)) t in
      ap (λ (k : ℕ). take k new) c ∙ ap (take (length text)) n ∙ take-append_seam text (drop (length text) old)

  pub text_of : (file input : Option Stream) → StudyRun file input run → StudyText file input (take count new)
  text_of file input s =
      record {
        rates = s.rates;
        claims = s.claims;
        rates_given = s.rates_given;
        claims_given = s.claims_given;
        same = text-first ∙ ap run_text s.same;
      }
