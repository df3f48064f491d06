-- `changed` meets its contract, which for each change is that of a function. Assumes nothing.
use mathlib.Core.Path.{◌∙◌}
use Rattle.c_abi.proofs.Changes.{adding-is, withdrawing-is}
use Rattle.c_abi.proofs.study_calls.changed.Goals as goal

pub returns-in-Add : goal.returns-in-Add
returns-in-Add c = rw c.in-Add.is (c.add_with.ensures ∙ adding-is _ _ _ _)

pub returns-in-Withdraw : goal.returns-in-Withdraw
returns-in-Withdraw c = rw c.in-Withdraw.is (c.withdraw_with.ensures ∙ withdrawing-is _ _ _ _)
