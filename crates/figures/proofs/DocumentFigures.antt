-- Document 01's figures hold of the definitions, all together.
-- Assumes nothing.
use Rattle.claim_months.proofs.ClaimFigures.{claim-figures}
use Rattle.valuation.proofs.FactorFigures.{half, whole, short-of-whole, margin-1000}
use Rattle.valuation.proofs.ReserveFigures.{half_throughout, call-answers}
use Rattle.figures.specs.DocumentFigures.{DocumentFigures}

pub document-figures : DocumentFigures
document-figures =
    record {
      claims = claim-figures;
      z_half = half;
      z_whole = whole;
      z_short = short-of-whole;
      m_1000 = margin-1000;
      half_throughout = half_throughout;
      half_answer = call-answers;
    }
