-- Preparing in place: the mark of a table, one cell, and the cells one after the other.
-- Assumes nothing.
use Prim.Native.Nat.{ℕ, suc, ◌+◌, ◌-◌, ◌*◌, ◌/◌, ◌%◌, ◌≤◌, ◌<◌}
use mathlib.Core.Path.{◌≡◌, sym, ap, ap₂, ◌∙◌}
use mathlib.Core.Bool.{Bool, true, ◌&&◌, and-eq-true_iff}
use mathlib.Core.List.{List, [], ◌∷◌, ◌++◌, append_assoc, append-nil}
use native.Mathlib.Omega.{arith}
use lib.ListN.{length, get_or, set, take, drop, length-append, length-take, length-drop, drop_of_length-le, get_or-eq_default}
use borrow.Rule.Slice.PartMut.{mid_of, put_mid, mid_len, same_len_mid, drop_put}
use lib.Seq.{length-take-le, set_split, drop-drop, take-append-le, drop-append-le, get_or-take, get_or-drop, take_at, drop_at, take_all}
use lib.Dec.{leb, ltb, eqb}
use native.Mathlib.Nat.{zero-add, sub-zero}
use native.Mathlib.Numerals.{add-one}
use Rattle.basics.proofs.Tests.{tests, by, and_left}
use Rattle.rates.specs.Rates.{length_sound, place, recovery_rate, death_rate, rates_sound_to, rates_sound}
use Rattle.rates.proofs.Laws.{sound-at}
use Rattle.rates.specs.design.Prepared.{numbers_of_cell, mark, has_mark, running_from, prepared_cell, prepared_cells}

-- a length that check 6 lets through
pub sound-length : (n : ℕ) → length_sound n ≡ true → (n % 958 ≡ 0) × (1 ≤ n / 958) × (n / 958 ≤ 1024)
unfolding length_sound
sound-length n h = let t = simp and-eq-true_iff at h in (omega tests, omega tests, omega tests)

pub numbers-length : (table : List ℕ) → length (numbers_of_cell table) ≡ length table - 1
unfolding numbers_of_cell
numbers-length table = length-take-le (length table - 1) table (omega arith)

pub has_mark-is : (table : List ℕ) (m : ℕ) → has_mark table m ≡ (length_sound (length table - 1) && eqb (mark table) m)
unfolding has_mark
has_mark-is table m = rw (numbers-length table)

pub has_mark-sound : (table : List ℕ) (m : ℕ) → has_mark table m ≡ true → length_sound (length table - 1) ≡ true
has_mark-sound table m h = and_left (length_sound (length table - 1)) (eqb (mark table) m) (sym (has_mark-is table m) ∙ h)

-- what a test of the mark k says of the mark m
pub tested : (table : List ℕ) (m k : ℕ) (r b : Bool) → r ≡ has_mark table k → k ≡ m → r ≡ b → has_mark table m ≡ b
tested table m k r b p e q = sym (rw e at p) ∙ q

place_is : (k : ℕ) → k < 479 → place (k + 2) ≡ k
unfolding place
place_is k h = omega arith

-- rates of one duration in a sound cell
pub sound-pair :
    (rates : List ℕ) (cell k : ℕ) → rates_sound rates cell ≡ true → k < 479
    → get_or rates (cell * 958 + k) 0 + get_or rates (cell * 958 + 479 + k) 0 ≤ 1000000
unfolding rates_sound recovery_rate death_rate
sound-pair rates cell k s h = rw (place_is k h) at (sound-at rates cell 479 k s h)

-- one duration more of a cell's part
pub sound_more :
    (part : List ℕ) (i : ℕ) (all both : Bool) → i < 479 → all ≡ rates_sound_to part 0 i → both ≡ leb (get_or part i 0 + get_or part (479 + i) 0) 1000000
    → (all && both) ≡ rates_sound_to part 0 (i + 1)
unfolding rates_sound_to recovery_rate death_rate
sound_more part i all both h p q = rw (add-one i, place_is i h, zero-add i, p, q)

-- one cell by itself
module _ (cell : List ℕ) (len : length cell ≡ 958) (sound : rates_sound cell 0 ≡ true) where
  small : (i : ℕ) → get_or cell i 0 ≤ 1000000
  small i =
      by (ltb i 479) (λ _. get_or cell i 0 ≤ 1000000)
      (λ e. let p = simp zero-add at (sound-pair cell 0 i sound (omega tests)) in omega arith)
      (λ e.
      by (ltb i 958) (λ _. get_or cell i 0 ≤ 1000000)
      (λ f.
      let q : 479 + (i - 479) ≡ i = omega tests in
      let p = simp (zero-add, q) at (sound-pair cell 0 (i - 479) sound (omega tests)) in
      omega arith)
      (λ f. rw (get_or-eq_default cell 0 {n = i} (omega tests)) (omega arith)))

  pub part_small : (a i : ℕ) → get_or (take 479 (drop a cell)) i 0 ≤ 1000000
  part_small a i =
      by (ltb i 479) (λ _. get_or (take 479 (drop a cell)) i 0 ≤ 1000000)
      (λ e. rw (get_or-take 479 (drop a cell) i 0 (omega tests), get_or-drop a cell i 0) (small (a + i)))
      (λ e. rw (get_or-eq_default (take 479 (drop a cell)) 0 {n = i} (omega (tests, length-take 479 (drop a cell)))) (omega arith))

  pub cell-prepared :
      (ys zs : List ℕ) → length ys ≡ 479 → ys ≡ running_from 0 (take 479 cell) → zs ≡ running_from 0 (take 479 (drop 479 (ys ++ drop 479 cell)))
      → take 479 (ys ++ drop 479 cell) ++ (zs ++ drop 479 (drop 479 (ys ++ drop 479 cell))) ≡ prepared_cell cell
  unfolding prepared_cell
  cell-prepared ys zs l p q =
      let d = drop_at ys (drop 479 cell) 479 l in
      let a = take_all 479 (drop 479 cell) (omega (arith, length-drop 479 cell)) in
      let e = drop_of_length-le (drop 479 cell) {i = 479} (omega (arith, length-drop 479 cell)) in
      rw (take_at ys (drop 479 cell) 479 l, d, e, append-nil zs, sound) (ap₂ (λ (u v : List ℕ). u ++ v) p (rw (d, a) at q))

-- the first k of n cells prepared in place, and the rest of the table as it was
pub record CellsDone (rates tail table : List ℕ) (n k : ℕ) : Type 0 where
  pub size : length table ≡ n * 958 + 1
  pub rest : drop (k * 958) table ≡ drop (k * 958) rates ++ tail
  pub done : take (k * 958) table ++ prepared_cells (drop (k * 958) rates) (n - k) ≡ prepared_cells rates n

module _ (rates tail : List ℕ) (n : ℕ) (len : length rates ≡ n * 958) where
  pub cells-none : (table : List ℕ) (k : ℕ) → table ≡ rates ++ tail → length table ≡ n * 958 + 1 → k ≡ 0 → CellsDone rates tail table n k
  cells-none table k e l h = record { size = l; rest = rw h e; done = rw (h, sub-zero n) }

  module _ (table : List ℕ) (k : ℕ) (z : CellsDone rates tail table n k) where
    -- the table once the last cell is prepared, with its mark
    pub cells-all : (last : ℕ) → n ≤ k → k ≤ n → last ≡ n * 958 → set table last 1 ≡ prepared_cells rates n ++ (1 ∷ [])
    unfolding prepared_cells
    cells-all last h g l =
        let e : k ≡ n = omega arith in
        let z0 : n - n ≡ 0 = omega arith in
        let d = drop_of_length-le table {i = suc last} (omega (arith, z.size)) in
        set_split table last 1 (omega (arith, z.size)) ∙ rw (d, l, rw (e, z0, append-nil) at z.done)

    module _ (ys : List ℕ) (h : k < n) (p : ys ≡ prepared_cell (mid_of (k * 958) (k * 958 + 958 - k * 958) table))
        (q : length ys ≡ length (mid_of (k * 958) (k * 958 + 958 - k * 958) table)) where
      abbrev a : ℕ
      a = k * 958

      width : a + 958 - a ≡ 958
      width = omega arith

      ys-length : length ys ≡ 958
      ys-length = q ∙ mid_len a (a + 958) table (omega (arith, z.size)) ∙ width

      ys-is : ys ≡ prepared_cell (take 958 (drop a rates))
      ys-is = p ∙ rw (width, z.rest) (ap prepared_cell (take-append-le 958 (drop a rates) tail (omega (arith, length-drop a rates))))

      -- one cell more
      pub cells-more : CellsDone rates tail (put_mid a (a + 958 - a) table ys) n (k + 1)
      unfolding prepared_cells
      cells-more =
          let next : (k + 1) * 958 ≡ a + 958 = omega arith in
          let m : n - k ≡ suc (n - (k + 1)) = omega arith in
          let l = length-take-le a table (omega (arith, z.size)) in
          record {
            size = same_len_mid a (a + 958 - a) table ys q ∙ z.size;
            rest =
                rw next
                (drop_put a (a + 958) table ys (omega arith) (omega (arith, z.size)) (ys-length ∙ sym width) ∙ sym (drop-drop 958 a table)
                ∙ ap (drop 958) z.rest ∙ drop-append-le 958 (drop a rates) tail (omega (arith, length-drop a rates))
                ∙ ap (λ (r : List ℕ). r ++ tail) (drop-drop 958 a rates));
            done =
                rw (
                  next,
                  ← append_assoc (take a table) ys (drop (a + 958 - a) (drop a table)),
                  take_at (take a table ++ ys) (drop (a + 958 - a) (drop a table)) (a + 958) (omega (arith, length-append (take a table) ys, ys-length)),
                  append_assoc,
                  ys-is,
                )
                (rw (m, drop-drop 958 a rates) at z.done);
          }
