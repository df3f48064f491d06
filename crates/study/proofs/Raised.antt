-- A share added to sums with `guarded_sum`, place by place: by the figures of groups and columns, a span's share in its two parts, and its months band by band.
-- Assumes nothing.
use Prim.Native.Nat.{ℕ, zero, suc, ◌+◌, ◌-◌, ◌*◌, ◌≤◌, ◌<◌, min}
use mathlib.Core.Path.{◌≡◌, refl, sym, ap, ap₂, ◌∙◌}
use mathlib.Core.Logic.{◌⊎◌, inl, inr, ⊎_elim}
use mathlib.Core.Bool.{Bool, true, false, ◌&&◌, and-false}
use mathlib.Core.List.{List}
use lib.Dec.{leb, ltb, eqb}
use lib.IntN.{ℤ, pos, nat_abs, ◌+ℤ◌, ◌*ℤ◌, +ℤ_idl, +ℤ_idr, *ℤ-zero}
use native.Mathlib.Nat.{add-zero}
use borrow.Author.Tests.{lt-ltb, le-ltb, eq-eqb, ne_eqb}
use Rattle.basics.specs.Pick.{pick}
use Rattle.basics.specs.Series.{sum_to}
use Rattle.basics.specs.Limits.{most_expected, most_benefit}
use Rattle.basics.proofs.Tests.{tests, by, pick_is}
use Rattle.basics.proofs.Tables.{table_at, table-length, table_same, list-table}
use Rattle.claim_months.specs.declared.Span.{Span}
use Rattle.claim_months.specs.Span.{span_u, span_b, span_weighted, span_closing, band_sum, span_band, SpanBounds}
use Rattle.claim_months.proofs.SpanIsBand.{band-same, band-none, band-adds}
use Rattle.rates.specs.Rates.{group_of, group_last}
use Rattle.rates.proofs.Laws.{group-same, group-next, last-from}
use Rattle.study.specs.Sums.{group_at, column_at, is_count, times_at}
use Rattle.study.specs.Study.{group_weight}
use Rattle.study.specs.design.LentAdding.{guarded_sum, guarded_plus}
use Rattle.study.specs.design.Private.{column_rate, months_figure, closing_figure, share_by, span_figure, one_figure}
use Rattle.study.proofs.Algebra.{Shaped, at}
use Rattle.study.proofs.Places.{a-count}

-- nothing added
pub sum-none : (k : ℕ) (x : ℤ) → guarded_sum k x (pos 0) ≡ x
unfolding guarded_sum
sum-none k x = pick_is (leb (nat_abs x) (times_at most_benefit k * most_expected)) (λ q. +ℤ_idr x) (λ q. refl)

module _ (a b : List ℤ) where
  pub guarded-at : (k : ℕ) → k < 80 → at (guarded_plus a b) k ≡ guarded_sum k (at a k) (at b k)
  unfolding guarded_plus
  guarded-at k h = table_at 80 _ k (pos 0) h

  pub guarded-shaped : Shaped (guarded_plus a b)
  unfolding guarded_plus
  guarded-shaped = table-length 80 _

  -- sums made place by place
  pub guarded-is : (s : List ℤ) → Shaped s → ((k : ℕ) → k < 80 → at s k ≡ guarded_sum k (at a k) (at b k)) → s ≡ guarded_plus a b
  unfolding guarded_plus
  guarded-is s e h = list-table 80 _ (pos 0) s e h

-- figures of groups and columns
abbrev pub Figures : Type 0
Figures = ℕ → ℕ → ℤ

module _ (n : ℕ) where
  -- what they add at place k
  abbrev pub figure_at : Figures → ℕ → ℤ
  figure_at f k = pos (times_at n k) *ℤ f (group_at k) (column_at k)

  pub share-at : (f : Figures) (k : ℕ) → k < 80 → at (share_by n f) k ≡ figure_at f k
  unfolding share_by
  share-at f k h = table_at 80 _ k (pos 0) h

  -- figures that are 0 add nothing
  pub no-figure : (f : Figures) (k : ℕ) → f (group_at k) (column_at k) ≡ pos 0 → figure_at f k ≡ pos 0
  no-figure f k e = ap (λ (z : ℤ). pos (times_at n k) *ℤ z) e ∙ *ℤ-zero (pos (times_at n k))

  pub none-raised : (s : List ℤ) (f : Figures) → Shaped s → ((g c : ℕ) → f g c ≡ pos 0) → s ≡ guarded_plus s (share_by n f)
  none-raised s f e z =
      guarded-is s (share_by n f) s e
      (λ k h. sym (ap (guarded_sum k (at s k)) (share-at f k h ∙ no-figure f k (z (group_at k) (column_at k))) ∙ sum-none k (at s k)))

  -- figures that agree at every group and column
  pub share-same : (f h : Figures) → ((g c : ℕ) → 1 ≤ g → g ≤ 5 → c < 8 → f g c ≡ h g c) → share_by n f ≡ share_by n h
  unfolding share_by
  share-same f h e =
      table_same 80 _ _ (λ k l. ap (λ (z : ℤ). pos (times_at n k) *ℤ z) (e (group_at k) (column_at k) (omega tests) (omega tests) (omega tests)))

  -- two raises are one, where at each group and column one of them is of nothing
  module _ (s : List ℤ) (f h : Figures) (apart : (g c : ℕ) → (f g c ≡ pos 0) ⊎ (h g c ≡ pos 0)) where
    abbrev both : Figures
    both g c = f g c +ℤ h g c

    twice-at : (k : ℕ) (x : ℤ) → guarded_sum k (guarded_sum k x (figure_at f k)) (figure_at h k) ≡ guarded_sum k x (figure_at both k)
    twice-at k x =
        let g = group_at k in
        let c = column_at k in
        ⊎_elim
        (λ (e : f g c ≡ pos 0).
        ap (λ (z : ℤ). guarded_sum k z (figure_at h k)) (ap (guarded_sum k x) (no-figure f k e) ∙ sum-none k x)
        ∙ ap (λ (z : ℤ). guarded_sum k x (pos (times_at n k) *ℤ z)) (sym (ap (λ (z : ℤ). z +ℤ h g c) e ∙ +ℤ_idl (h g c))))
        (λ (e : h g c ≡ pos 0).
        ap (guarded_sum k (guarded_sum k x (figure_at f k))) (no-figure h k e) ∙ sum-none k (guarded_sum k x (figure_at f k))
        ∙ ap (λ (z : ℤ). guarded_sum k x (pos (times_at n k) *ℤ z)) (sym (ap (λ (z : ℤ). f g c +ℤ z) e ∙ +ℤ_idr (f g c))))
        (apart g c)

    pub guarded-twice : guarded_plus (guarded_plus s (share_by n f)) (share_by n h) ≡ guarded_plus s (share_by n both)
    guarded-twice =
        let once = guarded_plus s (share_by n f) in
        guarded-is s (share_by n both) (guarded_plus once (share_by n h)) (guarded-shaped once (share_by n h))
        (λ k l.
        guarded-at once (share_by n h) k l
        ∙ ap₂ (guarded_sum k) (guarded-at s (share_by n f) k l ∙ ap (guarded_sum k (at s k)) (share-at f k l)) (share-at h k l)
        ∙ twice-at k (at s k) ∙ ap (guarded_sum k (at s k)) (sym (share-at both k l)))

-- two numbers of which a test picks one
one-picked : (t : Bool) (x y : ℤ) → (pick t (pos 0) x ≡ pos 0) ⊎ (pick t y (pos 0) ≡ pos 0)
one-picked true x y = inl refl
one-picked false x y = inr refl

both-picked : (t : Bool) (x y : ℤ) → pick t (pos 0) x +ℤ pick t y (pos 0) ≡ pick t (pick t y (pos 0)) (pick t (pos 0) x)
both-picked true x y = +ℤ_idl y
both-picked false x y = +ℤ_idr x

-- a span's months and its closing, one after the other, are its share
module _ (recovery death : ℕ → ℤ) (sp : Span) where
  abbrev months : Figures
  months = months_figure recovery death sp sp.months

  months-closing : (g c : ℕ) → (months g c ≡ pos 0) ⊎ (closing_figure sp g c ≡ pos 0)
  unfolding months_figure closing_figure
  months-closing g c = one-picked (is_count c) _ _

  span-parts : (g c : ℕ) → months g c +ℤ closing_figure sp g c ≡ span_figure recovery death sp g c
  unfolding months_figure closing_figure span_figure
  span-parts g c = both-picked (is_count c) _ _

pub span-added : (recovery death : ℕ → ℤ) (s : List ℤ) (n : ℕ) (sp : Span)
    → guarded_plus (guarded_plus s (share_by n (months_figure recovery death sp sp.months))) (share_by n (closing_figure sp))
    ≡ guarded_plus s (share_by n (span_figure recovery death sp))
span-added recovery death s n sp =
    guarded-twice n s (months recovery death sp) (closing_figure sp) (months-closing recovery death sp)
    ∙ ap (guarded_plus s) (share-same n _ (span_figure recovery death sp) (λ g c _ _ _. span-parts recovery death sp g c))

-- how many months of a span, from month a on, are in its duration's group
unfoldable group_months : Span → ℕ → ℕ
group_months sp a = min (sp.months - a) (group_last (sp.first.0 + a) + 1 - (sp.first.0 + a))

-- the months before month n are in earlier groups than that month
abbrev pub Before : Span → ℕ → Type 0
Before sp n = n < sp.months → (j : ℕ) → j < n → group_of (sp.first.0 + j) < group_of (sp.first.0 + n)

pub before-none : (sp : Span) (n : ℕ) → n ≡ 0 → Before sp n
before-none sp n e _ j h = absurd (omega tests)

-- months without a weight have no sum
weighted-none : (w : ℕ → ℤ) (sp : Span) → span_weighted w sp 0 ≡ pos 0
unfolding span_weighted sum_to
weighted-none w sp = refl

band-zero : (w : ℕ → ℤ) (sp : Span) (n : ℕ) → ((j : ℕ) → j < suc n → w (sp.first.0 + j) ≡ pos 0) → span_band w sp 0 (suc n) ≡ pos 0
unfolding span_band
band-zero w sp n q =
    band-same w (λ d. pos 0) (sp.first.0 + 0) (suc n) _ _ (omega tests) (λ j l. rw (add-zero sp.first.0) (q j l)) ∙ band-none (sp.first.0 + 0) (suc n) _ _

no-weight : (w : ℕ → ℤ) (sp : Span) → SpanBounds sp → (n : ℕ) → n ≤ sp.months → ((j : ℕ) → j < n → w (sp.first.0 + j) ≡ pos 0) → span_weighted w sp n ≡ pos 0
no-weight w sp bounds zero h q = weighted-none w sp
no-weight w sp bounds (suc n) h q =
    let e : 0 + suc n ≡ suc n = omega tests in
    rw e at (band-adds w sp bounds 0 n (omega tests)) ∙ ap₂ ◌+ℤ◌ (weighted-none w sp) (band-zero w sp n q)

module _ (w : ℕ → ℤ) (sp : Span) (bounds : SpanBounds sp) (a : ℕ) (h : a < sp.months) where
  abbrev first : ℕ
  first = sp.first.0 + a

  abbrev band_months : ℕ
  band_months = group_months sp a

  -- a band is at least a month, within the span and within the group
  months-low : 0 < band_months
  unfolding group_months
  months-low = omega (tests, last-from first (omega (tests, bounds.first_high, bounds.months_high)))

  months_high : a + band_months ≤ sp.months
  unfolding group_months
  months_high = omega tests

  months-group : (j : ℕ) → j < band_months → group_of (first + j) ≡ group_of first
  unfolding group_months
  months-group j q = group-same first (first + j) (omega tests) (omega tests)

  -- in its own group the band counts, in no other
  band-in : (g : ℕ) → span_band (group_weight g w) sp a band_months ≡ pick (eqb (group_of first) g) (span_band w sp a band_months) (pos 0)
  unfolding span_band group_weight
  band-in g =
      by (eqb (group_of first) g)
      (λ t. band_sum (group_weight g w) first band_months (span_b sp a) (30 - span_u sp (a + (band_months - 1)))
      ≡ pick t (band_sum w first band_months (span_b sp a) (30 - span_u sp (a + (band_months - 1)))) (pos 0))
      (λ q. band-same (group_weight g w) w first band_months _ _ months-low (λ j l. rw (months-group j l, q) refl))
      (λ q. band-same (group_weight g w) (λ d. pos 0) first band_months _ _ months-low (λ j l. rw (months-group j l, q) refl) ∙ band-none first band_months _ _)

  band-more : (g : ℕ) → span_weighted (group_weight g w) sp (a + band_months) ≡ span_weighted (group_weight g w) sp a +ℤ pick (eqb (group_of first) g) (span_band w sp a band_months) (pos 0)
  band-more g =
      let e : suc (band_months - 1) ≡ band_months = omega (tests, months-low) in
      rw e at (band-adds (group_weight g w) sp bounds a (band_months - 1) (omega (tests, months-low, months_high)))
      ∙ ap (λ (z : ℤ). span_weighted (group_weight g w) sp a +ℤ z) (band-in g)

  -- no month before the band is in its group
  group_none : (g : ℕ) → Before sp a → group_of first ≡ g → span_weighted (group_weight g w) sp a ≡ pos 0
  unfolding group_weight
  group_none g q e =
      no-weight (group_weight g w) sp bounds a (omega tests)
      (λ j l. rw (ne_eqb (group_of (sp.first.0 + j)) g (λ (z : group_of (sp.first.0 + j) ≡ g). omega (tests, q h j l))))

  before_more : Before sp a → Before sp (a + band_months)
  unfolding group_months
  before_more q l j m =
      let next : group_of first < group_of (sp.first.0 + (a + band_months)) =
      group-next first (sp.first.0 + (a + band_months)) (omega tests) (omega (tests, bounds.first_high, bounds.months_high)) in
      by (ltb j a) (λ _. group_of (sp.first.0 + j) < group_of (sp.first.0 + (a + band_months)))
      (λ t. let before = q h j (omega tests) in omega tests)
      (λ t.
      let e : first + (j - a) ≡ sp.first.0 + j = omega tests in
      let same = rw e at (months-group (j - a) (omega tests)) in
      omega tests)

-- B of a span's first month, and of any later one
pub B-first : (sp : Span) → sp.before.0 ≡ span_b sp (sp.first.0 - sp.first.0)
unfolding span_b
B-first sp = simp (eq-eqb (sp.first.0 - sp.first.0) 0 (omega tests))

pub B-later : (sp : Span) (b j : ℕ) → b ≡ 0 → 0 < j → b ≡ span_b sp j
unfolding span_b
B-later sp b j e h = rw e (simp (ne_eqb j 0 (λ (z : j ≡ 0). omega tests)))

-- the last month of a band, and how many months it has, over plain numbers: a span of k months from f on, its month a, the last duration g of a group
past_end : (f k g e : ℕ) → 0 < k → e ≡ min g (f + (k - 1)) → e + 1 ≡ min (g + 1) (f + k)
past_end f k g e h q = omega tests

band-length : (f k g e a : ℕ) → a < k → f + a ≤ g → e + 1 ≡ min (g + 1) (f + k) → e - (f + a) + 1 ≡ min (k - a) (g + 1 - (f + a))
band-length f k g e a h l q = omega tests

-- a band as the code has it: from one of the span's durations to the last of its group, or the span's last
module _ (sp : Span) (bounds : SpanBounds sp) (d e : ℕ) (low : sp.first.0 ≤ d) (high : d < sp.first.0 + sp.months)
    (he : e ≡ min (group_last d) (sp.first.0 + (sp.months - 1))) where
  abbrev from : ℕ
  from = d - sp.first.0

  within : from < sp.months
  within = omega tests

  from_is : sp.first.0 + from ≡ d
  from_is = omega tests

  end_low : d ≤ e
  end_low = omega (tests, last-from d (omega (tests, bounds.first_high, bounds.months_high)))

  length-is : e - d + 1 ≡ group_months sp from
  unfolding group_months
  length-is =
      let past = past_end sp.first.0 sp.months (group_last d) e (omega tests) he in
      rw from_is (rw from_is at (band-length sp.first.0 sp.months (group_last d) e from within (omega (tests, end_low)) past))

  next-is : e + 1 - sp.first.0 ≡ from + group_months sp from
  next-is = omega (tests, length-is, end_low)

  pub before-step : Before sp from → Before sp (e + 1 - sp.first.0)
  before-step q = rw next-is (before_more (λ d. pos 1) sp bounds from within q)

  -- the figures of a span's months before the band, and with it
  module _ (recovery death : ℕ → ℤ) where
    abbrev rate : ℕ → ℕ → ℤ
    rate = column_rate recovery death

    abbrev before : Figures
    before = months_figure recovery death sp from

    abbrev after : Figures
    after = months_figure recovery death sp (e + 1 - sp.first.0)

    -- a column of counts has none; any other takes the band in its own group, which no month has raised before
    count_none : (n g c : ℕ) → is_count c ≡ true → months_figure recovery death sp n g c ≡ pos 0
    unfolding months_figure
    count_none n g c q = rw q refl

    column-more : (g c : ℕ) → is_count c ≡ false
        → after g c ≡ before g c +ℤ pick (eqb (group_of d) g) (span_band (rate c) sp from (group_months sp from)) (pos 0)
    unfolding months_figure
    column-more g c q = rw (q, next-is) (rw from_is at (band-more (rate c) sp bounds from within g))

    column-none : (g c : ℕ) → Before sp from → g ≡ group_of d → before g c ≡ pos 0
    unfolding months_figure
    column-none g c fresh q =
        pick_is (is_count c) (λ t. refl) (λ t. group_none (rate c) sp bounds from within g fresh (ap group_of from_is ∙ sym q))

    -- the band raised in the columns below k
    abbrev up_to : ℕ → Figures
    up_to k g c = pick (ltb c k) (after g c) (before g c)

    module _ (b s : ℕ) (hb : b ≡ span_b sp from) (hs : s ≡ 30 - span_u sp (e - sp.first.0)) (fresh : Before sp from) (g : ℕ) (hg : g ≡ group_of d) where
      -- what the code adds to a column is the band
      amount : (w : ℕ → ℤ) (x : ℤ) → x ≡ band_sum w d (e - d + 1) b s → x ≡ span_band w sp from (group_months sp from)
      unfolding span_band
      amount w x hx =
          let last : e - sp.first.0 ≡ from + (group_months sp from - 1) = omega (tests, length-is, end_low) in
          hx ∙ (λ i. band_sum w (sym from_is i) (length-is i) (hb i) ((hs ∙ ap (λ (m : ℕ). 30 - span_u sp m) last) i))

      -- one column that is no count raised, and the counts beside it
      module _ (k c k' : ℕ) (low-c : k ≤ c) (high-c : c < k') (whole : is_count c ≡ false)
          (counts : (i : ℕ) → k ≤ i → i < k' → (i ≡ c → ⊥) → is_count i ≡ true) (x : ℤ) (hx : x ≡ band_sum (rate c) d (e - d + 1) b s) where
        abbrev added : Figures
        added = one_figure g c x

        other : (g' i : ℕ) → (i ≡ c → ⊥) → added g' i ≡ pos 0
        unfolding one_figure
        other g' i q = rw (ne_eqb i c q, and-false (eqb g' g)) refl

        here : (g' i : ℕ) → i ≡ c → added g' i ≡ pick (eqb (group_of d) g') x (pos 0)
        unfolding one_figure
        here g' i q =
            rw (eq-eqb i c q)
            (by (eqb g' g) (λ t. pick (t && true) x (pos 0) ≡ pick (eqb (group_of d) g') x (pos 0))
            (λ u. rw (eq-eqb (group_of d) g' (omega tests)) refl) (λ u. rw (ne_eqb (group_of d) g' (λ (v : group_of d ≡ g'). omega tests)) refl))

        low-is : (g' i : ℕ) → i ≡ c → up_to k g' i ≡ before g' i
        low-is g' i q = rw (le-ltb i k (omega tests)) refl

        high_is : (g' i : ℕ) → i ≡ c → up_to k' g' i ≡ after g' i
        high_is g' i q = rw (lt-ltb i k' (omega tests)) refl

        apart : (g' i : ℕ) → (up_to k g' i ≡ pos 0) ⊎ (added g' i ≡ pos 0)
        apart g' i =
            by (eqb i c) (λ _. (up_to k g' i ≡ pos 0) ⊎ (added g' i ≡ pos 0))
            (λ q.
            let e : i ≡ c = omega tests in
            by (eqb (group_of d) g') (λ t. eqb (group_of d) g' ≡ t → (up_to k g' i ≡ pos 0) ⊎ (added g' i ≡ pos 0))
            (λ u v. inl (low-is g' i e ∙ column-none g' i fresh (omega tests)))
            (λ u v. inr (here g' i e ∙ rw v refl)) refl)
            (λ q. inr (other g' i (λ (z : i ≡ c). omega tests)))

        same-else : (g' i : ℕ) → (i ≡ c → ⊥) → up_to k g' i ≡ up_to k' g' i
        same-else g' i q =
            by (ltb i k) (λ t. pick t (after g' i) (before g' i) ≡ up_to k' g' i) (λ u. rw (lt-ltb i k' (omega tests)) refl)
            (λ u.
            by (ltb i k') (λ t. before g' i ≡ pick t (after g' i) (before g' i))
            (λ v. let z = counts i (omega tests) (omega tests) q in count_none from g' i z ∙ sym (count_none (e + 1 - sp.first.0) g' i z)) (λ v. refl))

        sum_is : (g' i : ℕ) → up_to k g' i +ℤ added g' i ≡ up_to k' g' i
        sum_is g' i =
            by (eqb i c) (λ _. up_to k g' i +ℤ added g' i ≡ up_to k' g' i)
            (λ q.
            let z : i ≡ c = omega tests in
            ap₂ ◌+ℤ◌ (low-is g' i z) (here g' i z ∙ ap (λ (y : ℤ). pick (eqb (group_of d) g') y (pos 0)) (amount (rate i) x (hx ∙ ap (λ (j : ℕ). band_sum (rate j) d (e - d + 1) b s) (sym z))))
            ∙ sym (column-more g' i (ap is_count z ∙ whole)) ∙ sym (high_is g' i z))
            (λ q.
            let z : i ≡ c → ⊥ = λ (y : i ≡ c). omega tests in
            ap (λ (y : ℤ). up_to k g' i +ℤ y) (other g' i z) ∙ +ℤ_idr (up_to k g' i) ∙ same-else g' i z)

        column-raised : (n : ℕ) (l : List ℤ)
            → guarded_plus (guarded_plus l (share_by n (up_to k))) (share_by n added) ≡ guarded_plus l (share_by n (up_to k'))
        column-raised n l =
            guarded-twice n l (up_to k) added apart ∙ ap (guarded_plus l) (share-same n _ (up_to k') (λ g' i _ _ _. sum_is g' i))

      -- one band more: its group's three columns that are no counts, one after the other
      pub band-raised : (n : ℕ) (x y z : ℤ) → x ≡ band_sum (λ d. pos 1) d (e - d + 1) b s → y ≡ band_sum recovery d (e - d + 1) b s
          → z ≡ band_sum death d (e - d + 1) b s → (l l₁ l₂ l₃ l₄ : List ℤ) → l₁ ≡ guarded_plus l (share_by n before)
          → l₂ ≡ guarded_plus l₁ (share_by n (one_figure g 0 x)) → l₃ ≡ guarded_plus l₂ (share_by n (one_figure g 6 y))
          → l₄ ≡ guarded_plus l₃ (share_by n (one_figure g 7 z)) → l₄ ≡ guarded_plus l (share_by n after)
      unfolding column_rate is_count
      band-raised n x y z hx hy hz l l₁ l₂ l₃ l₄ e₁ e₂ e₃ e₄ =
          let raised : Figures → List ℤ = λ f. guarded_plus l (share_by n f) in
          let p₁ : l₁ ≡ raised (up_to 0) = e₁ ∙ ap (guarded_plus l) (share-same n before (up_to 0) (λ g' i _ _ _. rw (le-ltb i 0 (omega tests)) refl)) in
          let p₂ : l₂ ≡ raised (up_to 1) =
          e₂ ∙ ap (λ (m : List ℤ). guarded_plus m (share_by n (one_figure g 0 x))) p₁
          ∙ column-raised 0 0 1 (omega tests) (omega tests) refl (λ i u v w. absurd (w (omega tests))) x hx n l in
          let p₃ : l₃ ≡ raised (up_to 7) =
          e₃ ∙ ap (λ (m : List ℤ). guarded_plus m (share_by n (one_figure g 6 y))) p₂
          ∙ column-raised 1 6 7 (omega tests) (omega tests) refl (λ i u v w. a-count i u (by (eqb i 6) (λ _. i ≤ 5) (λ q. absurd (w (omega tests))) (λ q. omega tests))) y hy n l in
          let p₄ : l₄ ≡ raised (up_to 8) =
          e₄ ∙ ap (λ (m : List ℤ). guarded_plus m (share_by n (one_figure g 7 z))) p₃
          ∙ column-raised 7 7 8 (omega tests) (omega tests) refl (λ i u v w. absurd (w (omega tests))) z hz n l in
          p₄ ∙ ap (guarded_plus l) (share-same n (up_to 8) after (λ g' i _ _ h. rw (lt-ltb i 8 h) refl))

-- no months are none
pub no-months : (recovery death : ℕ → ℤ) (sp : Span) (n : ℕ) → n ≡ 0 → (g c : ℕ) → months_figure recovery death sp n g c ≡ pos 0
unfolding months_figure
no-months recovery death sp n e g c =
    rw e (pick_is (is_count c) (λ q. refl) (λ q. weighted-none (group_weight g (column_rate recovery death c)) sp))

-- no closing is none, and without months a span has neither
pub no-closing : (sp : Span) → sp.category ≡ 0 → (g c : ℕ) → closing_figure sp g c ≡ pos 0
unfolding closing_figure span_closing
no-closing sp z g c = pick_is (is_count c) (λ q. rw (eq-eqb sp.category 0 z) refl) (λ q. refl)

pub no-share : (recovery death : ℕ → ℤ) (sp : Span) → SpanBounds sp → sp.months ≡ 0 → (g c : ℕ) → span_figure recovery death sp g c ≡ pos 0
unfolding span_figure
no-share recovery death sp bounds e g c =
    let z : sp.category ≡ 0 = by (ltb 0 sp.category) (λ _. sp.category ≡ 0) (λ t. let some = bounds.closing_months (omega tests) in absurd (omega tests)) (λ t. omega tests) in
    pick_is (is_count c) (λ q. no-closing sp z g c) (λ q. no-months recovery death sp sp.months e g c)
