-- `put_four` meets its contract. Assumes nothing.
use native.Mathlib.Omega.{arith}
use Prim.Native.Nat.{ℕ, ◌/◌, ◌%◌}
use mathlib.Core.Path.{refl, sym, ap, ◌∙◌}
use mathlib.Core.List.{List, [], ◌∷◌}
use lib.Seq.{sets}
use Rattle.std.proofs.lemmas.Slice.{put_mid-paste}
use Rattle.std.proofs.lemmas.List.Edits.{sets-eq}
use Rattle.claim_file.proofs.ByteStores.{four_bytes}
use Rattle.claim_file.proofs.bytes.put_four.Goals as goal

pub returns : goal.returns
returns c =
    let a = c.args in
    let v = a.value in
    let four : List ℕ = v % 256 ∷ v / 256 % 256 ∷ v / 65536 % 256 ∷ v / 16777216 % 256 ∷ [] in
    put_mid-paste a.at _ a.bytes.now _ four 4 (c.copy_from_slice.ensures.after ∙ c.to_le_bytes.ensures) (omega arith) refl
    ∙ sym (sets-eq four a.bytes.now a.at c.requires)
    ∙ ap (sets a.bytes.now a.at) (sym (four_bytes v))
