-- `put_two` meets its contract. Assumes nothing.
use native.Mathlib.Omega.{arith}
use mathlib.Core.Path.{refl, sym, ◌∙◌}
use Rattle.std.proofs.lemmas.Slice.{put_mid-paste}
use Rattle.std.proofs.lemmas.List.Edits.{sets-eq}
use Rattle.claim_file.specs.Bytes.{two}
use Rattle.claim_file.proofs.bytes.put_two.Goals as goal

pub returns : goal.returns
returns c =
    let a = c.args in
    put_mid-paste a.at _ a.bytes.now _ (two a.value) 2 (c.copy_from_slice.ensures.after ∙ c.to_le_bytes.ensures) (omega arith) refl
    ∙ sym (sets-eq (two a.value) a.bytes.now a.at c.requires)
