-- Document 02, request No. 13: a load that anyone can rebuild. From a seed, a size and a claim number due comes a claim, and the x reached.
use Rattle.std.specs.Prelude.{ℕ, zero, suc, ◌+◌, ◌*◌, ◌/◌, ◌%◌, Bool, ◌&&◌, List, [], ◌∷◌, ◌++◌, take, drop, leb, eqb, Err, Ok, Result}
use Rattle.basics.specs.Limits.{most_claims}
use Rattle.basics.specs.Pick.{pick}
use Rattle.basics.specs.Checks.{refuse_load}
use Rattle.calendar.specs.Calendar.{date_of}
use Rattle.claim_months.specs.declared.Claim.{Claim}
use Rattle.claim_file.specs.declared.WindowDates.{WindowDates}
use Rattle.claim_file.specs.Block.{window_bytes, bytes_of_block}
use Rattle.claim_file.specs.BlockAnswers.{no_date}
use Rattle.load.specs.declared.LoadedClaim.{LoadedClaim}

-- a seed: 1 to 2,147,483,646
unfoldable pub seed_sound : ℕ → Bool
seed_sound x = leb 1 x && leb x 2147483646

-- each draw sets x to 48,271 × x modulo 2,147,483,647 and is that x; the x after n draws
unfoldable pub draw : ℕ → ℕ
draw x = 48271 * x % 2147483647

unfoldable pub drawn : ℕ → ℕ → ℕ
drawn zero x = x
drawn (suc n) x = draw (drawn n x)

-- A claim takes five draws, always all five. The disability day number is draw modulo 20,000
unfoldable pub disability_day : ℕ → ℕ
disability_day x = drawn 1 x % 20000

-- EP is 15 + draw modulo 351
unfoldable pub load_ep : ℕ → ℕ
load_ep x = 15 + drawn 2 x % 351

-- status is draw modulo 2
unfoldable pub load_status : ℕ → ℕ
load_status x = drawn 3 x % 2

-- BCD to termination is draw modulo 4,000 days
unfoldable pub days_to_termination : ℕ → ℕ
days_to_termination x = drawn 4 x % 4000

-- code is 1 + draw modulo 5
unfoldable pub load_code : ℕ → ℕ
load_code x = 1 + drawn 5 x % 5

-- the claim: an open one has neither termination nor code; cell 0, benefit 0, maximum date missing
unfoldable pub load_claim : ℕ → ℕ → Claim
load_claim x number =
    let bcd = disability_day x + load_ep x in
    let closed = eqb (load_status x) 1 in
    record {
      number = number;
      disability = date_of (disability_day x);
      bcd = date_of bcd;
      termination = pick closed (date_of (bcd + days_to_termination x)) no_date;
      maximum = no_date;
      status = load_status x;
      code = pick closed (load_code x) 0;
      cell = 0;
      benefit = 0;
    }

-- 20: another seed or size, or a claim number outside 1 to the size
unfoldable pub step_sound : ℕ → ℕ → ℕ → Bool
step_sound x size number = seed_sound x && leb size most_claims && leb 1 number && leb number size

-- a step
unfoldable pub load_step : ℕ → ℕ → ℕ → Result LoadedClaim ℕ
load_step x size number =
    pick (step_sound x size number) (Ok (record { claim = load_claim x number; x = drawn 5 x })) (Err refuse_load)

-- The load of a seed and a size: the claims of its steps, of which the first has number 1, each from the x that the one before it reached
unfoldable pub load_from : ℕ → ℕ → ℕ → List Claim
load_from x number zero = []
load_from x number (suc n) = load_claim x number ∷ load_from (drawn 5 x) (suc number) n

unfoldable pub load : ℕ → ℕ → List Claim
load x size = load_from x 1 size

-- the x that the step of place i is given
unfoldable pub seed_at : ℕ → ℕ → ℕ
seed_at x zero = x
seed_at x (suc i) = drawn 5 (seed_at x i)

-- its blocks of fifteen claims, numbered from 1; the last may have fewer
unfoldable pub blocks_from : ℕ → ℕ → List Claim → List ℕ
blocks_from zero number cs = []
blocks_from (suc n) number cs = bytes_of_block number (take 15 cs) ++ blocks_from n (suc number) (drop 15 cs)

unfoldable pub load_blocks : ℕ → ℕ → List ℕ
load_blocks x size = blocks_from ((size + 14) / 15) 1 (load x size)

-- the claim file of a window and a load
unfoldable pub load_file : WindowDates → ℕ → ℕ → List ℕ
load_file w x size = window_bytes w.first w.last ++ load_blocks x size
