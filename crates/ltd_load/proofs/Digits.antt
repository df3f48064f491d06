-- A word's number, digit by digit: from byte i on it is the same number, and it only grows.
-- Assumes nothing.
use Prim.Native.Nat.{ℕ, suc, ◌+◌, ◌-◌, ◌*◌, ◌≤◌, ◌<◌}
use mathlib.Core.Path.{◌≡◌, refl, sym, ap, ◌∙◌}
use mathlib.Core.Bool.{Bool, true, false, ◌&&◌, and-false}
use mathlib.Core.List.{List, [], ◌∷◌}
use native.Mathlib.Omega.{arith}
use native.Mathlib.Numerals.{add-one}
use lib.ListN.{length, get_or, drop, drop_of_length-le}
use lib.Seq.{drop-cons}
use borrow.Author.Tests.{le-leb, lt-leb}
use Rattle.basics.specs.Pick.{pick}
use Rattle.ltd_load.specs.Words.{is_digit, all_digits, value_from, is_decimal, number_of_word}
use Rattle.std.specs.Prelude.{None, Some}

grows : (bs : List ℕ) (n : ℕ) → n ≤ value_from n bs
unfolding value_from
grows [] n = omega arith
grows (b ∷ bs) n = omega (arith, grows bs (10 * n + (b - 48)))

no_number : (word : List ℕ) → is_decimal word ≡ false → None ≡ number_of_word word
unfolding number_of_word
no_number word e = rw e

pub empty-word : (word : List ℕ) → length word ≡ 0 → None ≡ number_of_word word
unfolding is_decimal
empty-word word e = no_number word (simp (lt-leb 1 (length word) (omega arith)))

-- a loop over the word has come to byte i, with the number so far
pub record Read (word : List ℕ) (number i : ℕ) : Type 0 where
  pub place : i ≤ length word
  pub small : number ≤ 4294967295
  pub value-so : value_from number (drop i word) ≡ value_from 0 word
  pub digits-so : all_digits (drop i word) ≡ all_digits word

pub none_read : (word : List ℕ) → Read word 0 0
none_read word = record { place = omega arith; small = omega arith; value-so = refl; digits-so = refl }

module _ (word : List ℕ) (number i : ℕ) (r : Read word number i) (l : i < length word) where
  first_byte : drop i word ≡ get_or word i 0 ∷ drop (suc i) word
  first_byte = drop-cons word i 0 l

  next-value : value_from (10 * number + (get_or word i 0 - 48)) (drop (suc i) word) ≡ value_from 0 word
  unfolding value_from
  next-value = sym (ap (value_from number) first_byte) ∙ r.value-so

  next-digits : (is_digit (get_or word i 0) && all_digits (drop (suc i) word)) ≡ all_digits word
  unfolding all_digits
  next-digits = sym (ap all_digits first_byte) ∙ r.digits-so

  pub not_digit : is_digit (get_or word i 0) ≡ false → None ≡ number_of_word word
  unfolding is_decimal
  not_digit e =
      let d : all_digits word ≡ false = sym next-digits ∙ ap (λ (t : Bool). t && all_digits (drop (suc i) word)) e in
      no_number word (simp (d, and-false))

  pub too_large : 4294967295 < 10 * number + (get_or word i 0 - 48) → None ≡ number_of_word word
  unfolding is_decimal
  too_large h =
      let v = next-value in
      let g = grows (drop (suc i) word) (10 * number + (get_or word i 0 - 48)) in
      no_number word (simp (lt-leb (value_from 0 word) 4294967295 (omega arith), and-false))

  pub more-read : (n : ℕ) → n ≡ 10 * number + (get_or word i 0 - 48) → n ≤ 4294967295 → is_digit (get_or word i 0) ≡ true → Read word n (i + 1)
  more-read n e h d =
      record {
        place = omega arith;
        small = h;
        value-so = (λ j. value_from (e j) (drop (add-one i j) word)) ∙ next-value;
        digits-so = ap (λ (k : ℕ). all_digits (drop k word)) (add-one i) ∙ sym (ap (λ (t : Bool). t && all_digits (drop (suc i) word)) d) ∙ next-digits;
      }

pub all_read : (word : List ℕ) (number i : ℕ) → Read word number i → length word ≤ i → (length word ≡ 0 → ⊥) → Some number ≡ number_of_word word
unfolding is_decimal number_of_word value_from all_digits
all_read word number i r h k =
    let e : drop i word ≡ [] = drop_of_length-le word {i = i} h in
    let v : number ≡ value_from 0 word = sym (ap (value_from number) e) ∙ r.value-so in
    let d : all_digits word ≡ true = sym r.digits-so ∙ ap all_digits e in
    let t : is_decimal word ≡ true = simp (le-leb 1 (length word) (omega arith), d, le-leb (value_from 0 word) 4294967295 (omega (arith, r.small))) in
    ap Some v ∙ sym (ap (λ (t : Bool). pick t (Some (value_from 0 word)) None) t)
