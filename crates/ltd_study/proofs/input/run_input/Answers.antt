-- `ltd_study::input::run_input` meets its contract. The loop's invariant: whole blocks were handed out, which the run was fed. Each turn but the last raises
-- the number of the block due by 4.
-- Assumes nothing.
use Prim.Native.Nat.{ℕ}
use mathlib.Core.Path.{◌≡◌, sym, ap, ◌∙◌, subst⁻¹}
use mathlib.Core.Bool.{true}
use mathlib.Core.List.{List}
use native.Mathlib.Omega.{arith}
use lib.ListN.{length, take}
use lib.Seq.{length-take-le}
use Rattle.std.proofs.Common.{rules, Fits, w32}
use Rattle.std.specs.Prelude.{is_some}
use Rattle.basics.proofs.Tests.{by}
use Rattle.rates.specs.declared.Kind.TheVariants.{Prepared}
use Rattle.claim_file.specs.Runs.{FileRun}
use Rattle.claim_file.specs.Run.{Adding, fed, ended}
use Rattle.claim_file.specs.design.PreparedRuns.{adding_with}
use Rattle.claim_file.specs.design.LentRuns.{with_sums}
use Rattle.claim_file.proofs.LentFed.{stopped-fed, due-rises}
use Rattle.ltd_study.specs.Input.{fed_count, InputRun}
use Rattle.ltd_study.proofs.Answers.{both, fed-full}
use Rattle.ltd_study.proofs.Runs.{fed-nothing, fed-on, run-over, run-stopped}
use Rattle.ltd_study.proofs.input.run_input.Goals as goal
use Rattle.ltd_study.proofs.input.run_input.Goals.{After-feed_bytes-run, then-is_some-via-then-is_some, then-is_some-via-else-is_some+then-filled}

pub loop-filled-init : goal.loop-filled-init
loop-filled-init g c =
    fed-nothing (g.S.Source.left c.args.input.now) (adding_with Prepared c.args.table.now) (with_sums c.start-run.result c.args.sums.now)
    (ap (with_sums c.start-run.result) c.requires ∙ c.start-run.ensures)

-- the run with what the buffer holds
module _ (g : _) (c : After-feed_bytes-run g) where
  abbrev add : Adding
  add = adding_with Prepared c.args.table.now

  abbrev run : FileRun
  run = with_sums c.loop-filled.run c.loop-filled.sums

  abbrev next : FileRun
  next = with_sums c.feed_bytes-run.result c.feed_bytes-run.new.sums

  abbrev buffer : List ℕ
  buffer = c.fill-filled.new.buffer

  fed-next : next ≡ fed run add (take (fed_count c.fill-filled.result.failed c.fill-filled.result.count) buffer)
  fed-next = c.feed_bytes-run.ensures ∙ ap (λ (n : ℕ). fed run add (take n buffer)) c.fed_count.ensures.value

pub returns-then-is_some : goal.returns-then-is_some
returns-then-is_some g c =
    let m = (goal.at.returns-then-is_some g c).After-feed_bytes-run in
    let filled = c.fill-filled.result in
    let left = g.S.Source.left c.args.input.now in
    let table = c.args.table.now in
    let sums = c.feed_bytes-run.new.sums in
    let fill = c.fill-filled.ensures in
    subst⁻¹ (InputRun left table) (c.end.ensures sums)
    (by filled.over (λ _. InputRun left table (ended (next g m)))
    (λ t. run-over _ _ _ table (buffer g m) filled (run g m) (next g m) c.loop-filled.invariant fill.filling c.fill-filled.array_long fill.handed (fed-next g m) (fill.over t))
    (λ t.
    let stopped : is_some c.feed_bytes-run.result.stop ≡ true
    = elim c.then-is_some.branch [
      | then-is_some-via-then-is_some w ↦ sym c.is_some.ensures ∙ w.if-is_some.true
      | then-is_some-via-else-is_some+then-filled w ↦ both (sym w.if-filled.true ∙ t)
    ] in
    run-stopped _ _ table (next g m)
    (fed-on _ _ _ table (buffer g m) filled (run g m) (next g m) c.loop-filled.invariant fill.filling c.fill-filled.array_long fill.handed (fed-next g m) t)
    (λ bytes. stopped-fed c.feed_bytes-run.result sums (add g m) bytes stopped)))

pub loop-filled-preserved : goal.loop-filled-preserved
loop-filled-preserved g c =
    let m = (goal.at.loop-filled-preserved g c).After-feed_bytes-run in
    let fill = c.fill-filled.ensures in
    fed-on _ _ _ c.args.table.now (buffer g m) c.fill-filled.result (run g m) (next g m) c.loop-filled.invariant fill.filling c.fill-filled.array_long fill.handed
    (fed-next g m) c.if-filled.false

pub loop-filled-smaller : goal.loop-filled-smaller
loop-filled-smaller g c =
    let m = (goal.at.loop-filled-smaller g c).After-feed_bytes-run in
    let count = c.fed_count.result in
    let whole : count ≡ 2048 = c.fed_count.ensures.value ∙ fed-full c.fill-filled.result c.fill-filled.ensures.filling c.if-filled.false in
    let long : length (take count (buffer g m)) ≡ count = length-take-le count (buffer g m) (omega (arith, whole, c.fill-filled.array_long)) in
    let rises = due-rises c.loop-filled.run c.loop-filled.sums (add g m) (take count (buffer g m)) c.feed_bytes-run.result c.feed_bytes-run.new.sums c.feed_bytes-run.ensures (sym c.is_some.ensures ∙ c.if-is_some.false) in
    let fits : Fits w32 c.feed_bytes-run.result.due = search rules in
    omega (arith, rises, long, whole, fits)
