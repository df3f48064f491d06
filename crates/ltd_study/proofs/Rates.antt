-- The rates of `rates.bin`, some bytes at a time: whether they are rates, and where they stand in the table.
-- Assumes nothing.
use Prim.Native.Nat.{ℕ, suc, ◌+◌, ◌-◌, ◌*◌, ◌/◌, ◌%◌, ◌≤◌, ◌<◌}
use mathlib.Core.Path.{◌≡◌, refl, sym, ap, ◌∙◌}
use mathlib.Core.Bool.{Bool, true, false, not, and-eq-true_iff, and-false}
use mathlib.Core.List.{List, [], ◌++◌, append_assoc}
use native.Mathlib.Omega.{arith}
use lib.ListN.{length, get_or, set, take, drop, length-append, get_or-append}
use lib.Dec.{leb, ltb, eqb}
use lib.Seq.{sets, sets-eq, length-take-le, take_at, get_or-take, get_or-append-add, take-suc-set, drop-set-lt}
use borrow.Rule.Slice.PartMut.{mid_of, put_mid, mid_len, drop_put, Post-is}
use borrow.Author.Tests.{eq-eqb, ne_eqb, le-leb, lt-leb}
use Rattle.basics.specs.Tables.{table}
use Rattle.basics.proofs.Tables.{table-length, table_at, list-table}
use Rattle.basics.proofs.Tests.{tests, by}
use Rattle.rates.specs.design.Prepared.{prepare_after, prepared_of}
use Rattle.claim_file.specs.Bytes.{byte_at, two_at, four_at}
use Rattle.std.specs.Prelude.{Option, Some, None}
use Rattle.ltd_study.specs.declared.input.Filled.{Filled}
use Rattle.ltd_study.specs.Sources.{Stream, Hands, IsOver, Gives, left_of}
use Rattle.ltd_study.specs.Input.{block_rates, rates_fit, file_rates, RatesRead}
use Rattle.ltd_study.specs.design.Private.{Filling}
use Rattle.ltd_study.proofs.Answers.{full-whole}
use Rattle.ltd_study.proofs.Sources.{hands-none, hands-on, given}

-- the number of four bytes, from its bytes
pub four-from : (bytes : List ℕ) (i a b c d : ℕ) → a ≡ get_or bytes i 0 → b ≡ get_or bytes (i + 1) 0 → c ≡ get_or bytes (i + 2) 0 → d ≡ get_or bytes (i + 3) 0
    → a + b * 256 + c * 65536 + d * 16777216 ≡ four_at bytes i
unfolding four_at two_at byte_at
four-from bytes i a b c d p q r s =
    let e : i + 2 + 1 ≡ i + 3 = omega arith in
    let f : get_or bytes (i + 2 + 1) 0 ≡ get_or bytes (i + 3) 0 = ap (λ (k : ℕ). get_or bytes k 0) e in
    omega arith

block_rates-length : (bytes : List ℕ) (n : ℕ) → length (block_rates bytes n) ≡ n
unfolding block_rates
block_rates-length bytes n = table-length n (λ k. four_at bytes (4 * k))

-- the part of the table where some bytes' rates stand
pub rates-stored : (l items bytes : List ℕ) (from n : ℕ) → from + n ≤ length l → length items ≡ n
    → ((k : ℕ) → k < n → get_or items k 0 ≡ four_at bytes (4 * k)) → put_mid from (from + n - from) l items ≡ sets l from (block_rates bytes n)
unfolding block_rates
rates-stored l items bytes from n h q f =
    let rates = table n (λ k. four_at bytes (4 * k)) in
    let long = table-length n (λ k. four_at bytes (4 * k)) in
    ap (λ (x : List ℕ). take from l ++ (items ++ x)) (Post-is from (from + n) l (omega arith))
    ∙ ap (λ (x : List ℕ). take from l ++ (x ++ drop (from + n) l)) (list-table n (λ k. four_at bytes (4 * k)) 0 items q f)
    ∙ ap (λ (k : ℕ). take from l ++ (rates ++ drop (from + k) l)) (sym long) ∙ sym (append_assoc (take from l) rates (drop (from + length rates) l)) ∙ sym (sets-eq rates l from (omega (arith, long)))

-- the test of the bytes that came, behind those of the rates before them
pub fit-failed : (failed : Bool) (n : ℕ) → failed ≡ true → false ≡ rates_fit failed n
unfolding rates_fit
fit-failed failed n e = rw e

pub fit-part : (failed : Bool) (rates count : ℕ) → failed ≡ false → (count % 4 ≡ 0 → ⊥) → false ≡ rates_fit failed (4 * rates + count)
unfolding rates_fit
fit-part failed rates count e h = rw (e, ne_eqb ((4 * rates + count) % 4) 0 (λ q. h (omega arith)))

pub fit-whole : (failed : Bool) (rates count : ℕ) → failed ≡ false → count % 4 ≡ 0
    → leb (rates + count / 4) 15328 ≡ rates_fit failed (4 * rates + count)
unfolding rates_fit
fit-whole failed rates count e h =
    rw (e, eq-eqb ((4 * rates + count) % 4) 0 (omega arith))
    (by (leb (rates + count / 4) 15328) (λ t. t ≡ leb (4 * rates + count) 61312)
    (λ q. sym (le-leb (4 * rates + count) 61312 (omega tests)))
    (λ q. sym (lt-leb (4 * rates + count) 61312 (omega tests))))

-- the rates of the file by that test
module _ (failed : Bool) (bytes : List ℕ) (n : ℕ) (l : length bytes ≡ n) where
  pub rates-none : rates_fit failed n ≡ false → file_rates failed bytes ≡ []
  unfolding file_rates
  rates-none e = rw (l, e)

  pub rates-some : rates_fit failed n ≡ true → file_rates failed bytes ≡ block_rates bytes (n / 4)
  unfolding file_rates
  rates-some e = rw (l, e)

-- a number of four bytes that stand elsewhere
four_same : (a b : List ℕ) (i j : ℕ) → get_or a i 0 ≡ get_or b j 0 → get_or a (i + 1) 0 ≡ get_or b (j + 1) 0 → get_or a (i + 2) 0 ≡ get_or b (j + 2) 0
    → get_or a (i + 3) 0 ≡ get_or b (j + 3) 0 → four_at a i ≡ four_at b j
four_same a b i j p q r s =
    sym (four-from a i _ _ _ _ refl refl refl refl) ∙ four-from b j (get_or a i 0) (get_or a (i + 1) 0) (get_or a (i + 2) 0) (get_or a (i + 3) 0) p q r s

-- bytes read behind others that are whole rates
module _ (whole buffer : List ℕ) (n count : ℕ) (l : length whole ≡ 4 * n) (within : count ≤ length buffer) where
  abbrev pub both : List ℕ
  both = whole ++ take count buffer

  pub both-length : length both ≡ 4 * n + count
  both-length = length-append whole (take count buffer) ∙ (let e = length-take-le count buffer within in omega arith)

  before : (i : ℕ) → i < 4 * n → get_or whole i 0 ≡ get_or both i 0
  before i h = sym (get_or-append whole (take count buffer) 0 i (omega arith))

  behind : (i j : ℕ) → i < count → j ≡ 4 * n + i → get_or buffer i 0 ≡ get_or both j 0
  behind i j h e =
      let k : length whole + i ≡ j = omega arith in
      sym (get_or-take count buffer i 0 h) ∙ sym (get_or-append-add whole (take count buffer) i 0) ∙ ap (λ (x : ℕ). get_or both x 0) k

  rate-before : (k : ℕ) → k < n → four_at whole (4 * k) ≡ four_at both (4 * k)
  rate-before k h =
      four_same whole both (4 * k) (4 * k) (before (4 * k) (omega arith)) (before (4 * k + 1) (omega arith)) (before (4 * k + 2) (omega arith))
      (before (4 * k + 3) (omega arith))

  rate-behind : (k j : ℕ) → 4 * k + 4 ≤ count → j ≡ n + k → four_at buffer (4 * k) ≡ four_at both (4 * j)
  rate-behind k j h e =
      four_same buffer both (4 * k) (4 * j) (behind (4 * k) (4 * j) (omega arith) (omega arith)) (behind (4 * k + 1) (4 * j + 1) (omega arith) (omega arith))
      (behind (4 * k + 2) (4 * j + 2) (omega arith) (omega arith)) (behind (4 * k + 3) (4 * j + 3) (omega arith) (omega arith))

  module _ (m : ℕ) (h : 4 * m ≤ count) where
    abbrev front : List ℕ
    front = table n (λ k. four_at whole (4 * k))

    abbrev back : List ℕ
    back = table m (λ k. four_at buffer (4 * k))

    front_length : length front ≡ n
    front_length = table-length n (λ k. four_at whole (4 * k))

    back-length : length back ≡ m
    back-length = table-length m (λ k. four_at buffer (4 * k))

    at_place : (k : ℕ) → k < n + m → get_or (front ++ back) k 0 ≡ four_at both (4 * k)
    at_place k q =
        by (ltb k n) (λ _. get_or (front ++ back) k 0 ≡ four_at both (4 * k))
        (λ t.
        let s : k < n = omega tests in
        get_or-append front back 0 k (omega (arith, front_length)) ∙ table_at n (λ j. four_at whole (4 * j)) k 0 s ∙ rate-before k s)
        (λ t.
        let s : length front + (k - n) ≡ k = omega (tests, front_length) in
        ap (λ (i : ℕ). get_or (front ++ back) i 0) (sym s) ∙ get_or-append-add front back (k - n) 0
        ∙ table_at m (λ j. four_at buffer (4 * j)) (k - n) 0 (omega tests) ∙ rate-behind (k - n) k (omega tests) (omega tests))

    joined : front ++ back ≡ table (n + m) (λ k. four_at both (4 * k))
    joined = list-table (n + m) (λ k. four_at both (4 * k)) 0 (front ++ back) (length-append front back ∙ omega (arith, front_length, back-length)) at_place

    -- in the table behind the others
    pub rates-more : (numbers : List ℕ) → n + m ≤ length numbers → take n numbers ≡ block_rates whole n
        → take (n + m) (sets numbers n (block_rates buffer m)) ≡ block_rates both (n + m)
    unfolding block_rates
    rates-more numbers fits e =
        let rest = drop (n + length back) numbers in
        ap (take (n + m)) (sets-eq back numbers n (omega (arith, back-length)))
        ∙ take_at (take n numbers ++ back) rest (n + m) (length-append (take n numbers) back ∙ omega (arith, length-take-le n numbers (omega arith), back-length))
        ∙ ap (λ (x : List ℕ). x ++ back) e ∙ joined

-- a file that isn't there has no rates
pub no_rates : {F : Type 0} (left : F → Option Stream) (numbers : List ℕ) → RatesRead (left_of left None) 0 numbers
unfolding file_rates rates_fit block_rates table
no_rates left numbers = record { file = record { bytes = []; fails = false }; given = (refl, refl); stored = refl; counted = refl }

-- rates read so far: there are bytes whose rates they all are, and these were handed out
pub record ReadSo (from now : Option Stream) (n : ℕ) (numbers : List ℕ) : Type 0 where
  pub whole : List ℕ
  pub handed : Hands from whole now
  pub counted : length whole ≡ 4 * n
  pub stored : take n numbers ≡ block_rates whole n
  pub few : n ≤ 15328

pub none_read : (from : Option Stream) (numbers : List ℕ) → ReadSo from from 0 numbers
unfolding block_rates table
none_read from numbers = record { whole = []; handed = hands-none from; counted = refl; stored = refl; few = omega arith }

pub fit-so : (failed : Bool) (n : ℕ) → rates_fit failed n ≡ true → (n % 4 ≡ 0) × (n ≤ 61312)
unfolding rates_fit
fit-so failed n h = let t = simp and-eq-true_iff at h in (omega tests, omega tests)

-- what begins with whole rates that are too many is no rates
too-long : (failed fails : Bool) (n k : ℕ) → failed ≡ false → n % 4 ≡ 0 → rates_fit failed n ≡ false → n ≤ k → rates_fit fails k ≡ false
unfolding rates_fit
too-long failed fails n k f m e h =
    let q : leb n 61312 ≡ false
    = by (leb n 61312) (λ t. t ≡ false)
    (λ t. sym (rw (f, eq-eqb (n % 4) 0 m) t) ∙ e)
    (λ _. refl) in
    rw (lt-leb k 61312 (omega (tests, q)), and-false (eqb (k % 4) 0)) (and-false (not fails))

-- no rates of what a source had left
record NoRates (from : Option Stream) : Type 0 where
  file : Stream
  given : Gives from file
  none : file_rates file.fails file.bytes ≡ []

none-given : (from now : Option Stream) (bytes : List ℕ) (f : Filled) → Hands from bytes now → (f.over ≡ true → IsOver now f.failed)
    → (f.over ≡ false → (length bytes % 4 ≡ 0) × (f.failed ≡ false)) → rates_fit f.failed (length bytes) ≡ false → NoRates from
none-given None now bytes f h o w e = record { file = record { bytes = bytes; fails = f.failed }; given = tt; none = rates-none f.failed bytes (length bytes) refl e }
none-given (Some l) None bytes f h o w e = absurd h
none-given (Some l) (Some m) bytes f h o w e =
    record {
      file = l;
      given = (refl, refl);
      none =
          by f.over (λ _. file_rates l.fails l.bytes ≡ [])
          (λ t.
          let g = given (Some l) (Some m) bytes f.failed h (o t) in
          rates-none l.fails l.bytes (length bytes) (ap length g.0) (ap (λ (b : Bool). rates_fit b (length bytes)) g.1 ∙ e))
          (λ t.
          let long : length bytes ≤ length l.bytes = omega (arith, ap length h.0, length-append bytes m.bytes) in
          rates-none l.fails l.bytes (length l.bytes) refl (too-long f.failed l.fails (length bytes) (length l.bytes) (w t).1 (w t).0 e long));
    }

-- with the bytes that came behind them
module _ (from before now : Option Stream) (numbers buffer : List ℕ) (n : ℕ) (f : Filled) (r : ReadSo from before n numbers) (within : f.count ≤ length buffer)
    (h : Hands before (take f.count buffer) now) where
  abbrev file : List ℕ
  file = both r.whole buffer n f.count r.counted within

  file-length : length file ≡ 4 * n + f.count
  file-length = both-length r.whole buffer n f.count r.counted within

  file-handed : Hands from file now
  file-handed = hands-on from before now r.whole (take f.count buffer) r.handed h

  pub nothing_read : Filling 2048 f → (f.over ≡ true → IsOver now f.failed) → rates_fit f.failed (4 * n + f.count) ≡ false → RatesRead from 0 numbers
  nothing_read g o e =
      let q =
      none-given from now file f file-handed o
      (λ t. let w = full-whole f g t in (omega (arith, file-length, w.0), w.1))
      (ap (rates_fit f.failed) file-length ∙ e)
      in
      record { file = q.file; given = q.given; stored = sym q.none; counted = sym (ap length q.none) }

  module _ (m : ℕ) (w : m ≡ f.count / 4) (e : rates_fit f.failed (4 * n + f.count) ≡ true) (fits : n + m ≤ length numbers) (after : List ℕ)
      (s : after ≡ sets numbers n (block_rates buffer m)) where
    file-rates : take (n + m) after ≡ block_rates file (n + m)
    file-rates =
        ap (take (n + m)) s
        ∙ rates-more r.whole buffer n f.count r.counted within m (omega (arith, (fit-so f.failed (4 * n + f.count) e).0)) numbers fits r.stored

    pub all_read : IsOver now f.failed → RatesRead from (n + m) after
    all_read o =
        let c : (4 * n + f.count) / 4 ≡ n + m = omega (arith, (fit-so f.failed (4 * n + f.count) e).0) in
        let q = rates-some f.failed file (4 * n + f.count) file-length e ∙ ap (block_rates file) c in
        record {
          file = record { bytes = file; fails = f.failed };
          given = given from now file f.failed file-handed o;
          stored = file-rates ∙ sym q;
          counted = sym (ap length q ∙ block_rates-length file (n + m));
        }

    pub read-on : ReadSo from now (n + m) after
    read-on =
        let t = fit-so f.failed (4 * n + f.count) e in
        record { whole = file; handed = file-handed; counted = file-length ∙ omega (arith, t.0); stored = file-rates; few = omega (arith, t.0, t.1) }

-- the rates with their mark, prepared where they stand
module _ (numbers ys : List ℕ) (n : ℕ) (h : n < length numbers) (q : length ys ≡ length (mid_of 0 (n + 1 - 0) (set numbers n 0)))
    (p : ys ≡ prepare_after (mid_of 0 (n + 1 - 0) (set numbers n 0))) where
  abbrev marked : List ℕ
  marked = set numbers n 0

  ys-length : n + 1 ≤ length marked → length ys ≡ n + 1 - 0
  ys-length l = q ∙ mid_len 0 (n + 1) marked l

  module _ (l : n + 1 ≤ length marked) where
    pub prepared-first : take (n + 1) (put_mid 0 (n + 1 - 0) marked ys) ≡ prepared_of (take n numbers)
    unfolding prepared_of
    prepared-first =
        let w : n + 1 - 0 ≡ suc n = omega arith in
        take_at ys (drop (n + 1 - 0) marked) (n + 1) (ys-length l ∙ omega arith) ∙ p ∙ ap prepare_after (ap (λ (k : ℕ). take k marked) w ∙ take-suc-set numbers n 0 h)

    pub prepared-rest : drop (n + 1) (put_mid 0 (n + 1 - 0) marked ys) ≡ drop (n + 1) numbers
    prepared-rest = drop_put 0 (n + 1) marked ys (omega arith) l (ys-length l) ∙ drop-set-lt (n + 1) numbers n 0 (omega arith)
