-- `ltd_write_window` meets its contract. Assumes nothing.
use mathlib.Core.Path.{◌≡◌, ◌∙◌}
use mathlib.Core.List.{List}
use Prim.Native.Nat.{ℕ}
use Rattle.calendar.specs.declared.Date.{Date}
use Rattle.claim_file.specs.BlockAnswers.{window_after}
use Rattle.c_abi.proofs.block.ltd_write_window.Goals as goal

dates : (old l : List ℕ) (b b' e e' : Date) → b ≡ b' → e ≡ e' → l ≡ window_after b e old → l ≡ window_after b' e' old
dates old l b b' e e' hb he q = q ∙ (λ i. window_after (hb i) (he i) old)

pub returns : goal.returns
returns c =
    record { value = c.number_refused.ensures ∙ c.write_window.ensures.value; block_after = dates c.args.block.now _ _ _ _ _ c.date_in.ensures c.date_in-2.ensures c.write_window.ensures.bytes_after }
