-- `claims_padded` meets its contract: the claims are padded one by one, or one that is not decides. Assumes nothing.
use Rattle.std.proofs.Common.{rules, tests}
use Prim.Native.Nat.{◌+◌, ◌*◌}
use native.Mathlib.Omega.{arith}
use mathlib.Core.Path.{◌≡◌, ◌∙◌}
use Rattle.std.specs.List.{range_with_len, list_all}
use Rattle.std.proofs.lemmas.Iterator.{YieldsList-from_range}
use Rattle.std.proofs.lemmas.Iterator.Search.{all_from_yields_List}
use Rattle.claim_file.specs.Record.{record_padded}
use Rattle.claim_file.proofs.RecordParts.{padded-all}
use Rattle.claim_file.proofs.blocks.claims_padded.Goals as goal

pub returns : goal.returns
returns c =
    let bytes = c.args.bytes.now in
    let each : c.all.result ≡ list_all (λ k. record_padded bytes (16 + 32 * k)) (range_with_len 0 c.args.count) =
    all_from_yields_List (λ k. record_padded bytes (16 + 32 * k)) _ _ c.all.result c.all.ensures.ran
    (YieldsList-from_range 0 c.args.count c.args.count (cc) (omega arith)) (λ x b q k. search (rules, tests)) in
    each ∙ padded-all bytes c.args.count
