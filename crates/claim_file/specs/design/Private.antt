-- What the private functions of this layer answer: the steps of a run whose sums are lent, and the columns of check 11's sum.
use Rattle.std.specs.Prelude.{ℕ, zero, suc, ◌+◌, ◌*◌, List, get_or, eqb, Some, None}
use Rattle.basics.specs.declared.refusal.Refusal.{Refusal}
use Rattle.basics.specs.Pick.{pick}
use Rattle.basics.specs.Tables.{table}
use Rattle.claim_file.specs.Bytes.{byte_at}
use Rattle.claim_file.specs.Runs.{FileRun}
use Rattle.claim_file.specs.declared.LentRun.{LentRun}
use Rattle.claim_file.specs.Run.{begun, stops}

-- a block begun: the run refused at it, or with the study that its claims are added to
unfoldable pub block_begun : FileRun → List ℕ → FileRun
block_begun r bytes =
    let a = begun r.study r.due bytes in
    pick (eqb a.refused 0)
    (record { study = a.study; due = r.due; refused = 0; block = r.block; place = r.place })
    (stops r a.study a.refused 0)

-- the run with some claims taken, refused at the block due, and after a block
unfoldable pub lent_stops : LentRun → ℕ → Refusal → ℕ → LentRun
lent_stops r taken refusal place =
    record { window = r.window; taken = taken; due = r.due; stop = Some (record { refusal = refusal; block = r.due; place = place }) }

unfoldable pub lent_goes_on : LentRun → ℕ → LentRun
lent_goes_on r taken = record { window = r.window; taken = taken; due = r.due + 1; stop = None }

-- check 11's sum by columns: a row of 16 bytes, two rows added, and what the first n columns from a place on add, given of each column the sum of its
-- bytes and the sum of each byte times its row from 0
unfoldable pub row_at : List ℕ → ℕ → List ℕ
row_at bytes at = table 16 (λ c. byte_at bytes (at + c))

unfoldable pub plus_row : List ℕ → List ℕ → List ℕ
plus_row a b = table 16 (λ c. get_or a c 0 + get_or b c 0)

unfoldable pub columns_sum : List ℕ → List ℕ → ℕ → ℕ → ℕ
columns_sum sums byRow at zero = 0
columns_sum sums byRow at (suc n) = columns_sum sums byRow at n + (16 * get_or byRow n 0 + (at + n + 1) * get_or sums n 0)
