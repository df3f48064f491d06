-- The round trips of the calls, from those of blocks.
-- Assumes nothing.
use Prim.Native.Nat.{ℕ, suc, ◌≤◌, ◌<◌}
use mathlib.Core.Path.{◌≡◌, refl, sym, ap, subst, ◌∙◌}
use mathlib.Core.Bool.{Bool, true, ◌&&◌, and-eq-true_iff}
use mathlib.Core.List.{List, []}
use native.Mathlib.Omega.{arith}
use lib.ListN.{length, get_or, set, take, get_or-eq_default}
use lib.Seq.{length-take-le, get_or-take}
use lib.Dec.{leb}
use borrow.Author.Tests.{eq-eqb, leb-true, le-leb}
use Rattle.basics.specs.Pick.{pick}
use Rattle.basics.specs.Checks.{refuse_block}
use Rattle.basics.proofs.Tests.{by, tests, pick_is, and_left, and_right}
use Rattle.basics.proofs.Checks.{check-passed}
use Rattle.basics.proofs.Tables.{list-table}
use Rattle.calendar.specs.declared.Date.{Date}
use Rattle.claim_months.specs.declared.Claim.{Claim}
use Rattle.claim_file.specs.declared.Block.{Block}
use Rattle.claim_file.specs.BlockAnswers.{BlockRead}
use Rattle.claim_file.specs.declared.WindowDates.{WindowDates}
use Rattle.claim_file.specs.Bytes.{byte_at, two_at, date_from}
use Rattle.claim_file.specs.Block.{block_claim, claim_count, window_block, claim_block, block_sound, window_bytes, bytes_of_block}
use Rattle.claim_file.specs.BlockAnswers.{no_claim, claims_in, block_check, read_of, window_of, write_sound, write_check, bytes_after, window_after}
use Rattle.claim_file.specs.RoundTrip.{DateFits, ClaimFits, BlockFits, AreBytes, in_fifteen, RoundTrips}
use Rattle.claim_file.proofs.BlockTests.{framed-number, claims-are, claim-block, window-is, window-block}
use Rattle.claim_file.proofs.Reading.{placed, length-in, at_place, read_known, read-refused, window-known}
use Rattle.claim_file.proofs.ReadBack.{first-claims}
use Rattle.claim_file.proofs.WrittenBlocks.{write-is, write_done, window-done}
use Rattle.claim_file.proofs.BlockTrips.{written_count, written-sound, written-claim, window-sound, window-first, window-last, rewritten, window-rewritten, framed-changed, changed-refused}
use Rattle.std.specs.Prelude.{Err, Ok}

-- the claims in fifteen places, and the first n of them
placed-so : (bytes : List ℕ) (cs : List Claim) (k : ℕ) → claim_count bytes ≡ length cs → (k < length cs → block_claim bytes k ≡ get_or cs k no_claim)
    → placed bytes (claim_count bytes) k ≡ get_or cs k no_claim
placed-so bytes cs k n h =
    pick_is (leb (suc k) (claim_count bytes)) (λ t. h (omega tests)) (λ t. sym (get_or-eq_default cs no_claim {n = k} (omega tests)))

fifteen : (bytes : List ℕ) (cs : List Claim) → claim_count bytes ≡ length cs → ((k : ℕ) → k < length cs → block_claim bytes k ≡ get_or cs k no_claim)
    → claims_in bytes 0 15 ≡ in_fifteen cs
unfolding in_fifteen
fifteen bytes cs n h =
    list-table 15 (λ k. get_or cs k no_claim) no_claim (claims_in bytes 0 15) (length-in bytes 0 15) (λ k l. at_place bytes k l ∙ placed-so bytes cs k n (h k))

-- a reading that is not refused is that of a claim block, and a reading of block 0 that of its dates
read-passed : (number : ℕ) (bytes : List ℕ) → (read_of number bytes).refused ≡ 0 → (1 ≤ number) × (claim_block number bytes ≡ true)
unfolding read_of
read-passed number bytes h =
    let t = by (leb 1 number && claim_block number bytes)
    (λ (y : Bool).
    (pick {A = BlockRead} y (record { refused = 0; block = record { count = claim_count bytes; claims = claims_in bytes 0 15 } })
    (record { refused = refuse_block; block = record { count = 0; claims = claims_in [] 0 15 } })).refused ≡ 0 → y ≡ true)
    (λ _ _. refl) (λ _ z. absurd (omega arith)) h in
    (leb-true 1 number (and_left (leb 1 number) (claim_block number bytes) t), and_right (leb 1 number) (claim_block number bytes) t)

window-passed : (w : WindowDates) (bytes : List ℕ) → window_of bytes ≡ Ok w
    → (window_block bytes ≡ true) × (w ≡ record { first = date_from bytes 16; last = date_from bytes 20 })
unfolding window_of
window-passed w bytes =
    by (window_block bytes)
    (λ t. pick t (Ok (record { first = date_from bytes 16; last = date_from bytes 20 })) (Err refuse_block) ≡ Ok w
    → (t ≡ true) × (w ≡ record { first = date_from bytes 16; last = date_from bytes 20 }))
    (λ _ e. (refl, cc))
    (λ _ e. let z : ◌≡◌ {A = ℕ} 0 1 = cc in absurd (omega arith))

write-passed : (number : ℕ) (block : Block) (old : List ℕ) → write_check number block.count (length old) ≡ 0
    → write_sound number block.count (length old) ≡ true
unfolding write_check
write-passed number block old h = check-passed (write_sound number block.count (length old)) refuse_block (omega arith) h

write_read : (number : ℕ) (block : Block) (old : List ℕ) → BlockFits block → write_check number block.count (length old) ≡ 0
    → read_of number (bytes_after number block old)
    ≡ record { refused = 0; block = record { count = block.count; claims = in_fifteen (take block.count block.claims) } }
unfolding bytes_after write_sound
write_read number block old f h =
    let s = write-passed number block old h in
    let t = simp and-eq-true_iff at s in
    let few : block.count ≤ 15 = leb-true _ _ t.0.1 in
    let low : 1 ≤ number = leb-true _ _ t.0.0.0 in
    let high : number ≤ 65535 = leb-true _ _ t.0.0.1 in
    let cs = take block.count block.claims in
    let size : length cs ≡ block.count = length-take-le block.count block.claims (omega (arith, f.places)) in
    let bytes = bytes_of_block number cs in
    let n = written_count number cs (omega arith) in
    let each : (k : ℕ) → k < length cs → block_claim bytes k ≡ get_or cs k no_claim =
    λ k l.
    written-claim number cs (omega arith) k no_claim l
    (subst ClaimFits (sym (get_or-take block.count block.claims k no_claim (omega arith))) (f.claims_fit k (omega arith))) in
    rw s
    (sym (read_known number bytes (claims_in bytes 0 15) (λ z. omega arith) (written-sound number cs (omega arith) high) refl)
    ∙ (λ i. record { refused = 0; block = record { count = (n ∙ size) i; claims = fifteen bytes cs n each i } }))

read_write : (number : ℕ) (bytes old : List ℕ) → AreBytes bytes → (read_of number bytes).refused ≡ 0 → length old ≡ 512
    → (write_check number (read_of number bytes).block.count (length old) ≡ 0) × (bytes_after number (read_of number bytes).block old ≡ bytes)
unfolding byte_at two_at
read_write number bytes old small h l =
    let p = read-passed number bytes h in
    let b = claim-block number bytes p.1 in
    let known : BlockRead = record { refused = 0; block = record { count = claim_count bytes; claims = claims_in bytes 0 15 } } in
    let e : known ≡ read_of number bytes = read_known number bytes (claims_in bytes 0 15) (λ z. omega (arith, p.0)) p.1 refl in
    let high : number ≤ 65535 = omega (arith, framed-number number bytes b.framed-so, small 0, small 1) in
    let s = write-is number known.block old (le-leb 1 number p.0) (le-leb number 65535 high) (le-leb (claim_count bytes) 15 b.count_so) (eq-eqb (length old) 512 l) in
    let c = first-claims bytes (claim_count bytes) 15 0 b.count_so (omega arith) in
    let d = write_done number known.block old bytes s (sym (ap (bytes_of_block number) c ∙ rewritten number bytes (λ j k. small j) p.1)) in
    subst (λ (r : BlockRead). (write_check number r.block.count (length old) ≡ 0) × (bytes_after number r.block old ≡ bytes)) e (sym d.0, sym d.1)

write_read_window : (b e : Date) (old : List ℕ) → DateFits b → DateFits e → length old ≡ 512
    → window_of (window_after b e old) ≡ Ok (record { first = b; last = e })
write_read_window b e old f g l =
    ap window_of (sym (window-done b e old (window_bytes b e) l refl).1)
    ∙ sym (window-known (window_bytes b e) (window-sound b e))
    ∙ (λ i. Ok (record { first = window-first b e f i; last = window-last b e g i }))

read_write_window : (w : WindowDates) (bytes old : List ℕ) → AreBytes bytes → window_of bytes ≡ Ok w → length old ≡ 512
    → window_after w.first w.last old ≡ bytes
unfolding byte_at
read_write_window w bytes old small h l =
    let p = window-passed w bytes h in
    ap (λ (v : WindowDates). window_after v.first v.last old) p.1
    ∙ sym (window-done (date_from bytes 16) (date_from bytes 20) old bytes l (sym (window-rewritten bytes (λ j k. small j) p.0))).1

changed : (due : ℕ) (bytes : List ℕ) (i v : ℕ) → AreBytes bytes → block_check due bytes ≡ 0 → i < 512 → v < 256 → (v ≡ get_or bytes i 0 → ⊥)
    → block_check due (set bytes i v) ≡ refuse_block
unfolding block_check byte_at
changed due bytes i v small h place new other =
    rw (changed-refused due bytes i v (check-passed (block_sound due bytes) refuse_block (omega arith) h) place (small i) new other)

changed_read : (due : ℕ) (bytes : List ℕ) (i v : ℕ) → AreBytes bytes → (read_of due bytes).refused ≡ 0 → i < 512 → v < 256 → (v ≡ get_or bytes i 0 → ⊥)
    → (read_of due (set bytes i v)).refused ≡ refuse_block
unfolding byte_at read_of
changed_read due bytes i v small h place new other =
    let f = (claim-block due bytes (read-passed due bytes h).1).framed-so in
    let c = claims-are due (set bytes i v) (framed-changed due bytes i v place (small i) new other f) refl refl refl in
    sym (ap (λ (r : BlockRead). r.refused) (read-refused due (set bytes i v) c))

changed_window : (w : WindowDates) (bytes : List ℕ) (i v : ℕ) → AreBytes bytes → window_of bytes ≡ Ok w → i < 512 → v < 256
    → (v ≡ get_or bytes i 0 → ⊥) → window_of (set bytes i v) ≡ Err refuse_block
unfolding byte_at window_of
changed_window w bytes i v small h place new other =
    let f = (window-block bytes (window-passed w bytes h).0).framed-so in
    rw (window-is (set bytes i v) (framed-changed 0 bytes i v place (small i) new other f) refl refl)

pub round-trips : RoundTrips
round-trips =
    record {
      write_read = write_read;
      read_write = read_write;
      write_read_window = write_read_window;
      read_write_window = read_write_window;
      changed = changed;
      changed_read = changed_read;
      changed_window = changed_window;
    }
