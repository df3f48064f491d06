-- `ltd_version` meets its contract. Assumes nothing.
use mathlib.Core.Path.{refl}
use Rattle.c_abi.specs.Version.{major, minor, patch, version_number}
use Rattle.c_abi.proofs.version.ltd_version.Goals as goal

pub returns : goal.returns
unfolding version_number major minor patch
returns c = refl
