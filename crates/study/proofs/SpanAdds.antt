-- Which tests lead to which answer where a span is added to lent sums, and to what in them.
-- Assumes nothing.
use Prim.Native.Nat.{ℕ, ◌≤◌, ◌<◌}
use mathlib.Core.Path.{◌≡◌, sym, ap, ◌∙◌}
use mathlib.Core.Bool.{Bool, true, false, ◌&&◌, and-false}
use mathlib.Core.List.{List}
use lib.Dec.{ltb}
use lib.IntN.{ℤ}
use borrow.Author.Tests.{ne_eqb, lt-ltb, le-ltb}
use Rattle.std.specs.Prelude.{Err, Ok}
use Rattle.basics.specs.Limits.{most_claims}
use Rattle.basics.specs.Checks.{check, refuse_full}
use Rattle.basics.specs.Refused.{number_of}
use Rattle.basics.specs.declared.refusal.Refusal.{Refusal}
use Rattle.basics.proofs.Refused.{numbered-from-1}
use Rattle.basics.proofs.Tests.{tests}
use Rattle.basics.proofs.Checks.{then_next, then-fails}
use Rattle.claim_months.specs.declared.Claim.{Claim}
use Rattle.claim_months.specs.declared.Span.{Span}
use Rattle.claim_months.specs.Claim.{weight}
use Rattle.claim_months.specs.Span.{span_in}
use Rattle.rates.specs.declared.Kind.{Kind}
use Rattle.rates.specs.design.Prepared.{table_check_of, part_recovery, part_death}
use Rattle.rates.proofs.Parts.{cell_part, cell-within, part-recovery, part-death}
use Rattle.study.specs.declared.Study.{Study}
use Rattle.study.specs.design.LentAdding.{guarded_plus, added_to_lent}
use Rattle.study.specs.design.Private.{share_by, span_figure, span_share, span_number, span_sums}
use Rattle.study.proofs.WithSpan.{spanned-number, spanned-sums, refused-number, refused-study}

-- adding a span to the sums of a study that has taken some claims, told whether there is room
module _ (taken : ℕ) (room : Bool) (s : List ℤ) (kind : Kind) (rates : List ℕ) (cell : ℕ) (sp : Span) (weight : ℕ) where
  abbrev number : ℕ
  number = span_number taken room kind rates cell

  abbrev SpanAs : ℕ → List ℤ → Type 0
  SpanAs n t = (n ≡ number) × (t ≡ span_sums taken room s kind rates cell sp weight)

  -- a refusal leaves the sums
  left : (n : ℕ) → n ≡ number → (n ≡ 0 → ⊥) → SpanAs n s
  unfolding span_sums
  left n e h = (e, rw (ne_eqb number 0 (λ z. h (e ∙ z))))

  pub rates-refused : (r : Refusal) → number_of r ≡ table_check_of kind rates cell → SpanAs (number_of r) s
  unfolding span_number
  rates-refused r e =
      let h : number_of r ≡ 0 → ⊥ = λ z. omega (tests, numbered-from-1 r, z) in
      left (number_of r) (e ∙ sym (then-fails (table_check_of kind rates cell) _ (λ z. h (e ∙ z)))) h

  module _ (passed : table_check_of kind rates cell ≡ 0) where
    -- check 9 alone is left
    last : (t : Bool) → (ltb taken most_claims && room) ≡ t → number ≡ check t refuse_full
    unfolding span_number
    last t e = then_next (table_check_of kind rates cell) _ passed ∙ ap (λ (t : Bool). check t refuse_full) e

    span-full : (ltb taken most_claims && room) ≡ false → SpanAs refuse_full s
    span-full f = left refuse_full (sym (last false f)) (λ z. omega tests)

    pub many-taken : most_claims ≤ taken → SpanAs refuse_full s
    many-taken h = span-full (rw (le-ltb taken most_claims h))

    pub no_room : room ≡ false → SpanAs refuse_full s
    no_room e = span-full (ap (λ (t : Bool). ltb taken most_claims && t) e ∙ and-false (ltb taken most_claims))

    -- the share is added with the rates of the cell's part
    pub span-taken : taken < most_claims → room ≡ true → (part : List ℕ) (b : List ℤ) → part ≡ cell_part rates cell
        → b ≡ guarded_plus s (share_by weight (span_figure (part_recovery kind part) (part_death kind part) sp)) → SpanAs 0 b
    unfolding span_sums span_share
    span-taken h e part b f p =
        let n : number ≡ 0 = last true (rw (lt-ltb taken most_claims h, e)) in
        let all = cell-within kind rates cell passed in
        let p' = rw (f, part-recovery rates cell all kind, part-death rates cell all kind) at p in (sym n, rw n p')

-- adding a claim to lent sums: with its span, and without one
module _ (room : Bool) (kind : Kind) (rates : List ℕ) (c : Claim) (s : Study) where
  abbrev AddedAs : ℕ → List ℤ → Type 0
  AddedAs n t = (n ≡ (added_to_lent room kind rates c s).refused) × (t ≡ (added_to_lent room kind rates c s).study.sums)

  pub with-span : (sp : Span) → Ok sp ≡ span_in c s.window.first.0 s.window.last.0 → (k n : ℕ) (t : List ℤ) → k ≡ weight c
      → n ≡ span_number s.taken room kind rates c.cell → t ≡ span_sums s.taken room s.sums kind rates c.cell sp k → AddedAs n t
  with-span sp m k n t e p q = (
    p ∙ sym (spanned-number room kind s c rates sp m),
    q ∙ ap (span_sums s.taken room s.sums kind rates c.cell sp) e ∙ sym (spanned-sums room kind s c rates sp m),
  )

  pub without : (n : ℕ) → Err n ≡ span_in c s.window.first.0 s.window.last.0 → AddedAs n s.sums
  without n m = (sym (refused-number room kind s c rates n m), ap (λ (x : Study). x.sums) (sym (refused-study room kind s c rates n m)))
