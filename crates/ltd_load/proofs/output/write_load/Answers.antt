-- `write_load` is safe and ends, and its first block is the file's block 0. Assumes nothing.
use mathlib.Core.Path.{refl}
use Rattle.ltd_load.proofs.FileLoop.{is-window}
use Rattle.ltd_load.proofs.output.write_load.Goals as goal

pub write_block-requires : goal.write_block-requires
write_block-requires g c = is-window _ _ _ refl c.write_window.ensures.bytes_after
