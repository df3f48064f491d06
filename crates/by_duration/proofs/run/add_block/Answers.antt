-- `run::add_block` meets its contract. Invariant: the rows raised by the block's claims are the rows so far raised by those left.
-- Assumes nothing.
use Rattle.std.proofs.Common.{◌≡◌, ◌<◌, length, sym, ap, ◌∙◌, arith}
use mathlib.Core.Path.{subst⁻¹}
use Rattle.claim_months.specs.declared.Claim.{Claim}
use Rattle.claim_file.specs.Block.{block_claim}
use Rattle.by_duration.specs.design.Private.{Fit, raised_by, checked_figure}
use Rattle.by_duration.proofs.Raised.{raised-length, raised-fit}
use Rattle.by_duration.proofs.RowsTaken.{same-record, place-more, places-end}
use Rattle.by_duration.proofs.run.add_block.Goals as goal
use Rattle.by_duration.proofs.run.add_block.Goals.{in-Some, in_default}

pub loop-place-preserved : goal.loop-place-preserved
loop-place-preserved c =
    let a = c.args in
    let l = c.loop-place in
    let p = l.place in
    let h : p < a.count = omega arith in
    let there = c.requires.records p h in
    elim c.match-read_record.branch [
      | in-Some w ↦
          let same : w.in-Some.claim ≡ block_claim a.block.now p = same-record _ _ c.read_record.result w.in-Some.is (there ∙ sym c.read_record.ensures) in
          let e = w.rows-is ∙ w.add_rows.ensures ∙ ap (λ (x : Claim). raised_by l.rows (checked_figure a.kind a.n a.window.window a.table.now x)) same in (
            ap length e ∙ raised-length l.rows _ ∙ l.invariant.0,
            subst⁻¹ Fit e (raised-fit l.rows _),
            l.invariant.2 ∙ place-more a.kind a.n a.table.now a.window.window a.block.now l.rows _ a.count p h e,
          )
      | in_default w ↦ absurd (w.in_default.not-Some _ (c.read_record.ensures ∙ sym there))
    ]

pub returns : goal.returns
returns c =
    let a = c.args in
    let l = c.loop-place in
    sym (l.invariant.2 ∙ places-end a.kind a.n a.table.now a.window.window a.block.now l.rows a.count l.place l.invariant.1 (omega arith))
