-- What only private functions' contracts need of a run with corrections: the records' claim numbers, and a bitmap that marks the struck ones.
use Rattle.std.specs.Prelude.{ℕ, zero, suc, ◌+◌, ◌-◌, ◌*◌, ◌/◌, ◌%◌, ◌^◌, ◌<◌, ◌≤◌, ◌≡◌, Bool, true, false, ◌||◌, ◌&&◌, List, [], ◌∷◌, length, get_or, take, drop, eqb, ltb}
use Rattle.basics.specs.Limits.{block_bytes}
use Rattle.basics.specs.Pick.{pick}
use Rattle.basics.specs.Checks.{refuse_block}
use Rattle.study.specs.Study.{fresh, first_day_alone}
use Rattle.claim_file.specs.Runs.{CorrectedRun}
use Rattle.claim_file.specs.Bytes.{byte_at, four_at}
use Rattle.claim_file.specs.Corrections.{PlacedClaim}

-- the claim numbers of some records, and that a number is among some
unfoldable pub numbers_of : List PlacedClaim → List ℕ
numbers_of [] = []
numbers_of (r ∷ rs) = r.claim.number ∷ numbers_of rs

unfoldable pub among : ℕ → List ℕ → Bool
among x [] = false
among x (y ∷ ys) = eqb y x || among x ys

-- the number at place i stands again behind it
unfoldable pub struck : List ℕ → ℕ → Bool
struck xs i = among (get_or xs i 0) (drop (suc i) xs)

-- bit i of a bitmap, and a bitmap of zeros
unfoldable pub marked : List ℕ → ℕ → Bool
marked marks i = eqb (get_or marks (i / 8) 0 / 2 ^ (i % 8) % 2) 1

abbrev pub AllZero : List ℕ → Type 0
AllZero marks = (i : ℕ) → get_or marks i 0 ≡ 0

-- the bitmap marks the struck numbers of a list
abbrev pub MarksStruck : List ℕ → List ℕ → Type 0
MarksStruck marks xs = (i : ℕ) → i < length xs → marked marks i ≡ struck xs i

-- the number at place i stands again behind it among the first e, and the bitmap that marks those
unfoldable pub repeated : List ℕ → ℕ → ℕ → Bool
repeated xs i e = among (get_or xs i 0) (drop (suc i) (take e xs))

abbrev pub MarksTo : List ℕ → List ℕ → ℕ → Type 0
MarksTo marks xs e = (i : ℕ) → marked marks i ≡ repeated xs i e

-- the bitmap that marks those of the first i among the first e, and the others among the first s
pub record MarksBetween (marks xs : List ℕ) (i s e : ℕ) : Type 0 where
  pub done : (k : ℕ) → k < i → marked marks k ≡ repeated xs k e
  pub left : (k : ℕ) → i ≤ k → marked marks k ≡ repeated xs k s

-- slot s of a file, the 32 bytes from byte 32 × s + 16 on, has a record where its place in its block is below the block's count
unfoldable pub slot_filled : List ℕ → ℕ → Bool
slot_filled bytes s = ltb (s % 16) (byte_at bytes (s / 16 * block_bytes + 2))

-- the claim numbers of the records in the n slots from s on, and in all slots from s on
unfoldable pub slot_numbers : List ℕ → ℕ → ℕ → List ℕ
slot_numbers bytes s zero = []
slot_numbers bytes s (suc n) =
    pick (slot_filled bytes s) (four_at bytes (32 * s + 16) ∷ slot_numbers bytes (suc s) n) (slot_numbers bytes (suc s) n)

unfoldable pub numbers_from : List ℕ → ℕ → List ℕ
numbers_from bytes s = slot_numbers bytes s (length bytes / 32 - s)

-- the first record from slot s on is in slot r
pub record NextRecord (bytes : List ℕ) (s r : ℕ) : Type 0 where
  pub within : r < length bytes / 32
  pub rest : numbers_from bytes s ≡ four_at bytes (32 * r + 16) ∷ numbers_from bytes (r + 1)

-- the key of record i, which has claim number x: 48 bits
abbrev pub key_of : ℕ → ℕ → ℕ
key_of x i = 65536 * x + i

abbrev pub most_key : ℕ
most_key = 281474976710656

-- the first n keys are those of the first n numbers, of which the first has index i
abbrev pub KeysTaken : List ℕ → ℕ → ℕ → List ℕ → Type 0
KeysTaken xs i n keys = (k : ℕ) → k < n → get_or keys k 0 ≡ key_of (get_or xs k 0) (i + k)

-- a key is among some
pub record KeyAt (keys : List ℕ) (x : ℕ) : Type 0 where
  pub place : ℕ
  pub within : place < length keys
  pub same : x ≡ get_or keys place 0

-- a key is that of a number with an index from i up to e; some keys are, in some order, those of as many numbers from index i on
pub record IndexOf (xs : List ℕ) (i e key : ℕ) : Type 0 where
  pub index : ℕ
  pub from : i ≤ index
  pub to : index < e
  pub is : key ≡ key_of (get_or xs index 0) index

pub record ChunkKeys (xs : List ℕ) (i : ℕ) (keys : List ℕ) : Type 0 where
  pub there : (p : ℕ) → p < length keys → IndexOf xs i (i + length keys) (get_or keys p 0)
  pub back : (j : ℕ) → i ≤ j → j < i + length keys → KeyAt keys (key_of (get_or xs j 0) j)

-- the first of some keys that is above a key
pub record FirstAbove (keys : List ℕ) (key place : ℕ) : Type 0 where
  pub within : place ≤ length keys
  pub below : (k : ℕ) → k < place → get_or keys k 0 ≤ key
  pub above : (k : ℕ) → place ≤ k → k < length keys → key < get_or keys k 0

-- one of the first n keys is that of record i, and the key behind it has its claim number
unfoldable pub followed : List ℕ → ℕ → ℕ → Bool
followed keys zero i = false
followed keys (suc n) i = (eqb i (get_or keys n 0 % 65536) && eqb (get_or keys n 0 / 65536) (get_or keys (n + 1) 0 / 65536)) || followed keys n i

-- one of some keys is that of a later record with the claim number of a key, and a test that says whether there is one
pub record LaterKey (keys : List ℕ) (key : ℕ) : Type 0 where
  pub place : ℕ
  pub within : place < length keys
  pub later : key < get_or keys place 0
  pub same : get_or keys place 0 / 65536 ≡ key / 65536

pub record HasLater (keys : List ℕ) (key : ℕ) (r : Bool) : Type 0 where
  pub found : r ≡ true → LaterKey keys key
  pub missed : LaterKey keys key → r ≡ true

-- a run refused at a block that isn't sound
unfoldable pub unsound_at : ℕ → CorrectedRun
unsound_at b = record { study = fresh first_day_alone; refused = refuse_block; block = b; place = 0 }
