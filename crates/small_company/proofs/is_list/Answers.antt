-- `small_company::is_list` meets its contract: the zero bytes of each record decide. Assumes nothing.
use Prim.Native.Nat.{ℕ, ◌%◌, ◌*◌}
use mathlib.Core.Path.{◌≡◌, ◌∙◌}
use mathlib.Core.List.{List}
use native.Mathlib.Omega.{arith}
use borrow.Author.Tests.{eq-eqb, ne_eqb}
use lib.ListN.{length}
use Rattle.std.proofs.Common.{rules, tests}
use Rattle.std.specs.Prelude.{is_some}
use Rattle.std.specs.List.{range_with_len, list_all}
use Rattle.std.proofs.lemmas.Iterator.{YieldsList-from_range}
use Rattle.std.proofs.lemmas.Iterator.Search.{all_from_yields_List}
use Rattle.claim_file.specs.BlockAnswers.{record_in}
use Rattle.small_company.specs.SmallCompany.{list_sound, padded_from}
use Rattle.small_company.proofs.Listing.{records, all-read}
use Rattle.small_company.proofs.is_list.Goals as goal

-- a list that ends with a whole record, by its zero bytes
by-zeros : (bytes : List ℕ) → length bytes % 32 ≡ 0 → padded_from bytes 0 (records bytes) ≡ list_sound bytes
unfolding list_sound
by-zeros bytes z = rw (eq-eqb (length bytes % 32) 0 z)

pub returns-then-bytes-ne0 : goal.returns-then-bytes-ne0
unfolding list_sound
returns-then-bytes-ne0 c = let bytes : List ℕ = c.args.bytes.now in simp (ne_eqb (length bytes % 32) 0 (λ z. omega arith))

pub returns : goal.returns
returns c =
    let bytes : List ℕ = c.args.bytes.now in
    let each : c.all.result ≡ list_all (λ k. is_some (record_in bytes (32 * k))) (range_with_len 0 (records bytes)) =
    all_from_yields_List (λ k. is_some (record_in bytes (32 * k))) _ _ c.all.result c.all.ensures.ran
    (YieldsList-from_range 0 (records bytes) (records bytes) (cc) (omega arith)) (λ x b q k. search (rules, tests)) in
    each ∙ all-read bytes 0 (records bytes) (omega arith) ∙ by-zeros bytes (omega arith)
