-- `claim_months::listing::list_checked` meets its contract: the span counts the records, and the rows stand in a list with room for them.
-- Assumes nothing.
use Prim.Native.Nat.{ℕ, ◌*◌, ◌≤◌, ◌<◌}
use mathlib.Core.Path.{◌≡◌, refl, sym, ap, ◌∙◌}
use mathlib.Core.List.{List, [], ◌∷◌, ◌++◌}
use native.Mathlib.Omega.{arith}
use native.Mathlib.Nat.{mul-zero}
use borrow.Author.Tests.{le-leb, lt-leb}
use lib.IntN.{ℤ}
use lib.ListN.{length, drop}
use Rattle.claim_months.specs.declared.Claim.{Claim}
use Rattle.claim_months.specs.declared.Span.{Span}
use Rattle.claim_months.specs.Exposure.{MonthRecord}
use Rattle.claim_months.specs.Listing.{rows}
use Rattle.claim_months.specs.design.Private.{Stands, records_in, ListedAs}
use Rattle.claim_months.proofs.Rows.{months-are}
use Rattle.claim_months.proofs.listing.list_checked.Goals as goal
use Rattle.std.specs.Prelude.{Err, Ok}

no_room : (rs : List MonthRecord) (old : List ℤ) → length old < 6 * length rs → ListedAs rs old old (Err 10)
no_room rs old h = record { answer = rw (lt-leb (6 * length rs) (length old)); list = rw (lt-leb (6 * length rs) (length old)) }

room : (rs : List MonthRecord) (old new : List ℤ) (n : ℕ) → n ≡ length rs → 6 * length rs ≤ length old
    → new ≡ rows rs ++ drop (6 * length rs) old → ListedAs rs old new (Ok n)
room rs old new n c h e = record { answer = rw (le-leb (6 * length rs) (length old)) (ap Ok c); list = rw (le-leb (6 * length rs) (length old)) e }

no_rows : (old : List ℤ) → old ≡ rows [] ++ drop (6 * 0) old
unfolding rows
no_rows old = ap (λ (i : ℕ). drop i old) (sym (mul-zero 6))

none : (rs : List MonthRecord) (old : List ℤ) → length rs ≡ 0 → ListedAs rs old old (Ok 0)
none [] old h = room [] old old 0 refl (omega arith) (no_rows old)
none (r ∷ rs) old h = absurd (omega arith)

pub returns-then-span-eq0 : goal.returns-then-span-eq0
returns-then-span-eq0 c =
    let count : (d : Claim) → Stands d c.args.claim → c.exposed_months-months.result.span.months ≡ length (records_in d c.args.window) = λ d s. ap (λ (sp : Span). sp.months) (c.exposed_months-months.ensures.span_is d s) ∙ months-are _ in
    λ d s.
    let a = c.args in
    none (records_in d a.window) a.list.now (omega (arith, count d s))

pub returns-then-list-span : goal.returns-then-list-span
returns-then-list-span c =
    let count : (d : Claim) → Stands d c.args.claim → c.exposed_months-months.result.span.months ≡ length (records_in d c.args.window) = λ d s. ap (λ (sp : Span). sp.months) (c.exposed_months-months.ensures.span_is d s) ∙ months-are _ in
    λ d s.
    let a = c.args in
    no_room (records_in d a.window) a.list.now (omega (arith, count d s))

pub put_rows-requires : goal.put_rows-requires
put_rows-requires c =
    let p = c.requires in
    record { of_claim = p.of_claim; sound_window = p.sound_window; months_for = c.exposed_months-months.ensures; months_nonzero = omega arith; months_in_bounds = omega arith }

pub returns : goal.returns
returns c =
    let count : (d : Claim) → Stands d c.args.claim → c.exposed_months-months.result.span.months ≡ length (records_in d c.args.window) = λ d s. ap (λ (sp : Span). sp.months) (c.exposed_months-months.ensures.span_is d s) ∙ months-are _ in
    λ d s.
    let a = c.args in
    room (records_in d a.window) a.list.now _ _ (count d s) (omega (arith, c.if-list-span.false, count d s)) (c.put_rows.ensures d s)
