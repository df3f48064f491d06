-- `ltd_study::input::rate_at` meets its contract: each byte stands for its place. Assumes nothing.
use mathlib.Core.Path.{refl, ◌∙◌}
use Rattle.ltd_study.proofs.Rates.{four-from}
use Rattle.ltd_study.proofs.input.rate_at.Goals as goal

pub returns : goal.returns
returns c =
    let s = c.args in
    c.from_le_bytes.ensures ∙ four-from s.bytes.now s.at _ _ _ _ refl refl refl refl
