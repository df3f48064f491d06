-- What a call answers of a study, by number: the definitions of this layer say it so, as document 01 does.
use Rattle.std.specs.Prelude.{ℕ}
use Rattle.basics.specs.Refused.{number_in}
use Rattle.study.specs.declared.Study.{Study}
use Rattle.study.specs.declared.Answer as code

-- the number of the first check that failed, or 0, and the study
pub record Answer : Type 0 where
  pub refused : ℕ
  pub study : Study

-- the answer that the code gives
abbrev pub by_number : code.Answer → Answer
by_number a = record { refused = number_in a.refused; study = a.study }
