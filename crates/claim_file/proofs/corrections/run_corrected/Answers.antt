-- `run_corrected` meets its contract: a table of the plain kind is document 01's rates. Assumes nothing.
use mathlib.Core.Path.{◌∙◌}
use Rattle.claim_file.proofs.SameRuns.{same_runs}
use Rattle.claim_file.proofs.corrections.run_corrected.Goals as goal

pub returns : goal.returns
returns c = c.run_corrected_with.ensures ∙ (same_runs _ _).plain_corrected
