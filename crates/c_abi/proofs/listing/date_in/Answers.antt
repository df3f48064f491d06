-- `date_in` meets its contract: each part fits its width. Assumes nothing.
use mathlib.Core.Path.{refl}
use Rattle.c_abi.specs.Abi.{date_in}
use Rattle.c_abi.proofs.listing.date_in.Goals as goal

pub returns : goal.returns
unfolding date_in
returns c = refl
