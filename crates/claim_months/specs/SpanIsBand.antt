-- The law of a band: a span's weighted sum is 30 times the weights, less what the first and the last month lack.
use Rattle.std.specs.Prelude.{ℕ, ◌<◌, ◌≡◌, ℤ}
use Rattle.claim_months.specs.declared.Span.{Span}
use Rattle.claim_months.specs.Span.{span_weighted, span_band, SpanBounds}

-- the sum over all months of a span is that of one band, for every weight; `proofs/SpanIsBand.antt` proves it
abbrev pub SpanIsBand : Type 0
SpanIsBand = (w : ℕ → ℤ) (sp : Span) → SpanBounds sp → 0 < sp.months → span_weighted w sp sp.months ≡ span_band w sp 0 sp.months
