-- Records by their fields, one that is stored, and the definitions of blocks step by step as the code's loops go.
-- Assumes nothing.
use Prim.Native.Nat.{ℕ, zero, suc, ◌+◌, ◌-◌, ◌*◌, ◌<◌}
use mathlib.Core.Path.{◌≡◌, refl, sym, ap, ◌∙◌}
use mathlib.Core.Bool.{Bool, true, false, ◌&&◌, and_assoc}
use mathlib.Core.List.{List}
use native.Mathlib.Omega.{arith}
use lib.ListN.{length}
use lib.Seq.{sets}
use lib.Dec.{eqb}
use lib.Bits.{bit_or, or_add_and, and_le_l, and_le_r}
use borrow.Author.Tests.{eq-eqb, ne_eqb, eqb-false}
use Rattle.std.specs.List.{range_with_len, list_all}
use Rattle.basics.specs.Tables.{every_place}
use Rattle.basics.proofs.Tests.{by, tests}
use Rattle.claim_months.specs.declared.Claim.{Claim}
use Rattle.study.proofs.InBounds.{every_in_range}
use Rattle.claim_file.specs.Bytes.{byte_at, zero_from}
use Rattle.claim_file.specs.Record.{claim_from, claim_bytes, record_padded}
use Rattle.std.specs.Prelude.{Some}
use Rattle.claim_file.specs.BlockAnswers.{has_record, record_in, record_after}
use Rattle.claim_file.specs.Block.{claims_padded}

pub same-claim :
    (c d : Claim)
    → c.number ≡ d.number
    → c.disability ≡ d.disability
    → c.bcd ≡ d.bcd
    → c.termination ≡ d.termination
    → c.maximum ≡ d.maximum
    → c.status ≡ d.status
    → c.code ≡ d.code
    → c.cell ≡ d.cell
    → c.benefit ≡ d.benefit
    → c ≡ d
same-claim c d n a b t m s k l w =
    λ i.
    record {
      number = n i;
      disability = a i;
      bcd = b i;
      termination = t i;
      maximum = m i;
      status = s i;
      code = k i;
      cell = l i;
      benefit = w i;
    }

-- a record that is found
pub record-found : (bytes : List ℕ) (i : ℕ) → has_record i (length bytes) ≡ true → record_padded bytes i ≡ true → Some (claim_from bytes i) ≡ record_in bytes i
unfolding record_in
record-found bytes i e p = rw (e, p)

-- a record that there is room for
pub record-stored : (bytes : List ℕ) (i : ℕ) (c : Claim) → has_record i (length bytes) ≡ true → sets bytes i (claim_bytes c) ≡ record_after c i bytes
unfolding record_after
record-stored bytes i c e = rw e

-- two numbers are zero exactly where their bits together are
or-zero : (a b : ℕ) → (eqb a 0 && eqb b 0) ≡ eqb (bit_or a b) 0
or-zero a b =
    let s = or_add_and a b in
    let l = and_le_l a b in
    let r = and_le_r a b in
    by (eqb (bit_or a b) 0) (λ t. (eqb a 0 && eqb b 0) ≡ t)
    (λ e. let p : a ≡ 0 = omega tests in let q : b ≡ 0 = omega tests in rw (eq-eqb _ _ p, eq-eqb _ _ q))
    (λ e.
    by (eqb a 0) (λ t. (t && eqb b 0) ≡ false)
    (λ f. ne_eqb b 0 (λ g. eqb-false (bit_or a b) 0 e (omega tests)))
    (λ f. refl))

-- a part whose first i bytes have the bits `all` together: with the next byte, at j, its first i + 1 bytes have both bits
pub zero-step : (bytes : List ℕ) (from count i j all : ℕ) → i < count → j ≡ from + i
    → (eqb all 0 && zero_from bytes (from + i) (count - i)) ≡ (eqb (bit_or all (byte_at bytes j)) 0 && zero_from bytes (from + (i + 1)) (count - (i + 1)))
unfolding zero_from
zero-step bytes from count i j all h k =
    let e : count - i ≡ suc (count - (i + 1)) = omega arith in
    let g : suc (from + i) ≡ from + (i + 1) = omega arith in
    let rest = zero_from bytes (from + (i + 1)) (count - (i + 1)) in
    ap (λ (n : ℕ). eqb all 0 && zero_from bytes (from + i) n) e
    ∙ ap (λ (n : ℕ). eqb all 0 && (eqb (byte_at bytes (from + i)) 0 && zero_from bytes n (count - (i + 1)))) g
    ∙ ap (λ (n : ℕ). eqb all 0 && (eqb (byte_at bytes n) 0 && rest)) (sym k)
    ∙ sym (and_assoc (eqb all 0) (eqb (byte_at bytes j) 0) rest)
    ∙ ap (λ (t : Bool). t && rest) (or-zero all (byte_at bytes j))

-- the claims of a block padded one after another
every-padded : (bytes : List ℕ) (n : ℕ) → every_place n (λ k. record_padded bytes (16 + 32 * k)) ≡ claims_padded bytes n
unfolding every_place claims_padded
every-padded bytes zero = refl
every-padded bytes (suc n) = ap (λ (t : Bool). t && record_padded bytes (16 + 32 * n)) (every-padded bytes n)

pub padded-all : (bytes : List ℕ) (n : ℕ) → list_all (λ k. record_padded bytes (16 + 32 * k)) (range_with_len 0 n) ≡ claims_padded bytes n
padded-all bytes n = every_in_range n (λ k. record_padded bytes (16 + 32 * k)) ∙ every-padded bytes n
