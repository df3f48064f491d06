-- Rows raised by amounts modulo 2⁶⁴: raised twice they are raised once by both, and one place stored is one amount.
-- Assumes nothing.
use Rattle.std.proofs.Common.{◌≡◌, ℕ, ◌+◌, ◌-◌, ◌*◌, ◌<◌, ◌≤◌, true, false, ◌&&◌, eqb, List, length, get_or, set, ℤ, pos, ◌+ℤ◌, sym, refl, ap, ◌∙◌, length-set, get_or-set_other, get_or-set_same, w64, SFits, eq-eqb, ne_eqb, eqb-true}
use mathlib.Core.Path.{subst⁻¹}
use lib.IntN.{+ℤ_idl, +ℤ_idr, +ℤ_assoc}
use borrow.Author.Tests.{eqb-false}
use mir.Facts.{sfits_to_z}
use Rattle.basics.specs.Pick.{pick}
use Rattle.basics.specs.Tables.{table}
use Rattle.basics.proofs.Tests.{tests, by}
use Rattle.basics.proofs.Tables.{table-length, table_at, table_same, list-table}
use Rattle.study.specs.Sums.{column_at}
use Rattle.by_duration.specs.Rows.{row_at}
use Rattle.by_duration.specs.Wrapped.{residue, as64}
use Rattle.by_duration.specs.design.Private.{Fit, Amounts, raised_by, month_amount}
use Rattle.by_duration.proofs.Wraps.{residue-high, as64-fits, as64-sum}

abbrev pub at : List ℤ → ℕ → ℤ
at s k = get_or s k (pos 0)

-- the amount at place k
abbrev pub amount_at : Amounts → ℕ → ℤ
amount_at f k = f (row_at k) (column_at k)

pub as64-fit : (x : ℤ) → SFits w64 (as64 x)
unfolding as64
as64-fit x = sfits_to_z (record { fits = residue-high x })

module _ (s : List ℤ) (f : Amounts) where
  pub raised-length : length (raised_by s f) ≡ length s
  unfolding raised_by
  raised-length = table-length (length s) _

  pub raised_at : (k : ℕ) → k < length s → at (raised_by s f) k ≡ as64 (at s k +ℤ amount_at f k)
  unfolding raised_by
  raised_at k h = table_at (length s) _ k (pos 0) h

  pub raised_is : (t : List ℤ) → length t ≡ length s → ((k : ℕ) → k < length s → at t k ≡ as64 (at s k +ℤ amount_at f k)) → t ≡ raised_by s f
  unfolding raised_by
  raised_is t e h = list-table (length s) _ (pos 0) t e h

  pub raised-fit : Fit (raised_by s f)
  raised-fit k h = subst⁻¹ (SFits w64) (raised_at k (omega (tests, raised-length))) (as64-fit (at s k +ℤ amount_at f k))

  pub raised-twice : (g : Amounts) → raised_by (raised_by s f) g ≡ raised_by s (λ r c. f r c +ℤ g r c)
  unfolding raised_by
  raised-twice g =
      list-table (length s) _ (pos 0) (raised_by (raised_by s f) g) (table-length (length (raised_by s f)) _ ∙ raised-length)
      (λ k h.
      table_at (length (raised_by s f)) _ k (pos 0) (omega (tests, raised-length))
      ∙ ap (λ (x : ℤ). as64 (x +ℤ amount_at g k)) (raised_at k h) ∙ as64-sum (at s k +ℤ amount_at f k) (amount_at g k)
      ∙ ap as64 (+ℤ_assoc (at s k) (amount_at f k) (amount_at g k)))

  pub raised-same : (g : Amounts) → ((r c : ℕ) → 1 ≤ r → c < 8 → f r c ≡ g r c) → raised_by s f ≡ raised_by s g
  unfolding raised_by
  raised-same g h = table_same (length s) _ _ (λ k l. ap (λ (x : ℤ). as64 (at s k +ℤ x)) (h (row_at k) (column_at k) (omega tests) (omega tests)))

-- raised by nothing
pub raised-none : (s : List ℤ) (f : Amounts) → Fit s → ((r c : ℕ) → 1 ≤ r → c < 8 → f r c ≡ pos 0) → s ≡ raised_by s f
raised-none s f fit h =
    raised_is s f s refl
    (λ k l. sym (ap (λ (x : ℤ). as64 (at s k +ℤ x)) (h (row_at k) (column_at k) (omega tests) (omega tests)) ∙ ap as64 (+ℤ_idr (at s k)) ∙ as64-fits (at s k) (fit k l)))

-- one amount in a row and column, and no other
abbrev pub one_amount : ℕ → ℕ → ℤ → Amounts
one_amount row column x r c = pick (eqb r row && eqb c column) x (pos 0)

-- a place in a row and column
one_at : (row column k : ℕ) → 1 ≤ row → column < 8 → (eqb (row_at k) row && eqb (column_at k) column) ≡ eqb k (8 * (row - 1) + column)
one_at row column k low h =
    by (eqb k (8 * (row - 1) + column)) (λ t. (eqb (row_at k) row && eqb (column_at k) column) ≡ t)
    (λ q. rw (eq-eqb (row_at k) row (omega tests), eq-eqb (column_at k) column (omega tests)))
    (λ q.
    by (eqb (row_at k) row) (λ t. (t && eqb (column_at k) column) ≡ false) (λ p. ne_eqb (column_at k) column (λ (e : column_at k ≡ column). omega tests))
    (λ p. refl))

pub raised-one : (s : List ℤ) (row column : ℕ) (x : ℤ) → Fit s → 1 ≤ row → column < 8 → 8 * (row - 1) + column < length s
    → set s (8 * (row - 1) + column) (as64 (at s (8 * (row - 1) + column) +ℤ x)) ≡ raised_by s (one_amount row column x)
raised-one s row column x fit low h l =
    let p = 8 * (row - 1) + column in
    let v = as64 (at s p +ℤ x) in
    raised_is s (one_amount row column x) (set s p v) (length-set s p v)
    (λ k m.
    rw (one_at row column k low h)
    (by (eqb k p) (λ t. at (set s p v) k ≡ as64 (at s k +ℤ pick t x (pos 0)))
    (λ q. let e : k ≡ p = eqb-true k p q in rw e (get_or-set_same s p v (pos 0) l))
    (λ q. get_or-set_other s p k v (pos 0) (eqb-false k p q) ∙ sym (ap as64 (+ℤ_idr (at s k)) ∙ as64-fits (at s k) (fit k m)))))

-- a month's three amounts
columns : (c : ℕ) (t x y : ℤ)
    → (pick (eqb c 0) t (pos 0) +ℤ pick (eqb c 6) x (pos 0)) +ℤ pick (eqb c 7) y (pos 0) ≡ pick (eqb c 0) t (pick (eqb c 6) x (pick (eqb c 7) y (pos 0)))
columns c t x y =
    by (eqb c 0)
    (λ u. (pick u t (pos 0) +ℤ pick (eqb c 6) x (pos 0)) +ℤ pick (eqb c 7) y (pos 0) ≡ pick u t (pick (eqb c 6) x (pick (eqb c 7) y (pos 0))))
    (λ q.
    rw (ne_eqb c 6 (λ (e : c ≡ 6). omega tests), ne_eqb c 7 (λ (e : c ≡ 7). omega tests)) (+ℤ_idr (t +ℤ pos 0) ∙ +ℤ_idr t))
    (λ q.
    by (eqb c 6) (λ u. (pos 0 +ℤ pick u x (pos 0)) +ℤ pick (eqb c 7) y (pos 0) ≡ pick u x (pick (eqb c 7) y (pos 0)))
    (λ p. rw (ne_eqb c 7 (λ (e : c ≡ 7). omega tests)) (+ℤ_idr (pos 0 +ℤ x) ∙ +ℤ_idl x))
    (λ p. +ℤ_idl (pick (eqb c 7) y (pos 0))))

month-columns : (row : ℕ) (t x y : ℤ) (r c : ℕ)
    → (one_amount row 0 t r c +ℤ one_amount row 6 x r c) +ℤ one_amount row 7 y r c ≡ month_amount row t x y r c
unfolding month_amount
month-columns row t x y r c =
    by (eqb r row)
    (λ u. (pick (u && eqb c 0) t (pos 0) +ℤ pick (u && eqb c 6) x (pos 0)) +ℤ pick (u && eqb c 7) y (pos 0)
    ≡ pick (eqb row r) (pick (eqb c 0) t (pick (eqb c 6) x (pick (eqb c 7) y (pos 0)))) (pos 0))
    (λ q. rw (eq-eqb row r (omega tests)) (columns c t x y))
    (λ q. rw (ne_eqb row r (λ (e : row ≡ r). omega tests)) refl)

-- a month's three numbers stored one after the other
module _ (s : List ℤ) (row : ℕ) (t x y : ℤ) (fit : Fit s) (low : 1 ≤ row) (high : 8 * row ≤ length s) where
  abbrev first : ℕ
  first = 8 * (row - 1)

  more : (f : Amounts) (l l' : List ℤ) (column : ℕ) (z : ℤ) → column < 8 → l ≡ raised_by s f → l' ≡ set l (first + column) (as64 (at l (first + column) +ℤ z))
      → l' ≡ raised_by s (λ r c. f r c +ℤ one_amount row column z r c)
  more f l l' column z h e q =
      let n = raised-length s f in
      q ∙ ap (λ (m : List ℤ). set m (first + column) (as64 (at m (first + column) +ℤ z))) e
      ∙ raised-one (raised_by s f) row column z (raised-fit s f) low h (omega tests) ∙ raised-twice s f (one_amount row column z)

  pub month-raised : (l l' l'' : List ℤ) → l ≡ set s first (as64 (at s first +ℤ t)) → l' ≡ set l (first + 6) (as64 (at l (first + 6) +ℤ x))
      → l'' ≡ set l' (first + 7) (as64 (at l' (first + 7) +ℤ y)) → l'' ≡ raised_by s (month_amount row t x y)
  month-raised l l' l'' p q r =
      let z : first + 0 ≡ first = omega tests in
      let one : l ≡ raised_by s (one_amount row 0 t) = p ∙ rw z at (raised-one s row 0 t fit low (omega tests) (omega tests)) in
      let two = more (one_amount row 0 t) l l' 6 x (omega tests) one q in
      more (λ r c. one_amount row 0 t r c +ℤ one_amount row 6 x r c) l' l'' 7 y (omega tests) two r
      ∙ raised-same s _ (month_amount row t x y) (λ r c _ _. month-columns row t x y r c)
