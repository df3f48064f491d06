-- Every line that document 01 marks ◆, refusals included, as a statement about the definitions.
use Rattle.std.specs.Prelude.{ℕ, ◌≡◌, List, pos}
use Rattle.claim_months.specs.ClaimFigures.{ClaimFigures}
use Rattle.valuation.specs.Factor.{credibility, margin}
use Rattle.valuation.specs.Reserve.{month_rate, reserve_of, reserve_in}
use Rattle.valuation.specs.Example.{half, figure, half_table, even}
use Rattle.valuation.specs.declared.Reserve.TheVariants.{Factor}

pub record DocumentFigures : Type 0 where
  -- the calendar, claim and exposure lines, each a field of `ClaimFigures` with the line it quotes: 2000-02-29 and 2001-02-29; BCD 2011-01-29;
  -- EP 14 to 180; BCD 2008-01-10, 2008-06-28 and 2011-02-10; 45 and 46 days before the maximum date
  pub claims : ClaimFigures
  -- ◆ Group 2: E 24,750,000,000 gives z 500,000; E 99,000,000,000 gives 1,000,000, one less 999,999. C 1,000 gives m 95,143.
  pub z_half : credibility 2 (pos 24750000000) ≡ 500000
  pub z_whole : credibility 2 (pos 99000000000) ≡ 1000000
  pub z_short : credibility 2 (pos 98999999999) ≡ 999999
  pub m_1000 : margin 2 1000 ≡ 95143
  -- ◆ g 500,000 throughout, V 0.5, N 2: factor 0.3125. For every table that gives this g, and the call's answer for one of them
  pub half_throughout : (rates : List ℕ) (cell first : ℕ) (t : List ℕ) → ((n : ℕ) → month_rate rates cell first t n ≡ 500000)
      → reserve_of rates cell first t 2 half ≡ figure
  pub half_answer : reserve_in half_table 0 4 even 2 half ≡ Factor figure
