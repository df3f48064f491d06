-- What adds up over a cut adds up over any list of parts.
-- Assumes nothing.
use Prim.Native.Nat.{ℕ, ◌+◌, ◌≤◌, ◌<◌}
use mathlib.Core.Path.{◌≡◌, ap, ap₂, ◌∙◌}
use mathlib.Core.Bool.{true, ◌&&◌}
use mathlib.Core.List.{List, [], ◌∷◌}
use lib.Dec.{leb}
use borrow.Author.Tests.{leb-true}
use Rattle.basics.proofs.Tests.{tests, by, and_left, and_right}
use Rattle.calendar.specs.Calendar.{last_day_number}
use Rattle.claim_months.specs.declared.Window.{Window}
use Rattle.claim_months.specs.Windows.{window_sound, Parts, total, EveryPart, NoPart, ExactlyOnePart}
use mathlib.Core.Logic.{◌⊎◌, inl, inr, ⊎_elim}

-- parts that are sound windows
abbrev pub SoundParts : {A : Type 0} → (A → Window) → ℕ → ℕ → A → List A → Type 0
SoundParts win = Parts (λ v. window_sound (win v).first.0 (win v).last.0 ≡ true) win

-- parts of one kind are parts of another, and each is of its kind
pub parts-map : {A : Type 0} (P Q : A → Type 0) (win : A → Window) → ((v : A) → P v → Q v) → (b e : ℕ) (w : A) (ws : List A) → Parts P win b e w ws → Parts Q win b e w ws
parts-map P Q win f b e w [] h = (f w h.0, h.1, h.2)
parts-map P Q win f b e w (v ∷ ws) h = (f w h.0, h.1, parts-map P Q win f ((win w).last.0 + 1) e v ws h.2)

pub parts-every : {A : Type 0} (P : A → Type 0) (win : A → Window) (b e : ℕ) (w : A) (ws : List A) → Parts P win b e w ws → EveryPart P w ws
parts-every P win b e w [] h = h.0
parts-every P win b e w (v ∷ ws) h = (h.0, parts-every P win ((win w).last.0 + 1) e v ws h.2)

-- the day t is in the window
abbrev pub Holds : ℕ → Window → Type 0
Holds t v = (v.first.0 ≤ t) × (t ≤ v.last.0)

pub record WindowBounds (b e : ℕ) : Type 0 where
  pub ordered : b ≤ e
  pub last : e ≤ last_day_number

pub window-bounds : (b e : ℕ) → window_sound b e ≡ true → WindowBounds b e
unfolding window_sound
window-bounds b e h =
    record {
      ordered = leb-true b e (and_right (leb b last_day_number && leb e last_day_number) (leb b e) h);
      last = leb-true e last_day_number (and_right (leb b last_day_number) (leb e last_day_number) (and_left (leb b last_day_number && leb e last_day_number) (leb b e) h));
    }

pub every_map : {A : Type 0} (P Q : A → Type 0) → ((v : A) → P v → Q v) → (w : A) (ws : List A) → EveryPart P w ws → EveryPart Q w ws
every_map P Q f w [] h = f w h
every_map P Q f w (v ∷ ws) h = (f w h.0, every_map P Q f v ws h.1)

pub every-both : {A : Type 0} (P Q R : A → Type 0) → ((v : A) → P v → Q v → R v) → (w : A) (ws : List A) → EveryPart P w ws → EveryPart Q w ws → EveryPart R w ws
every-both P Q R f w [] p q = f w p q
every-both P Q R f w (v ∷ ws) p q = (f w p.0 q.0, every-both P Q R f v ws p.1 q.1)

-- a statement that fails of every part holds of none
pub never-part : {A : Type 0} (P : A → Type 0) (w : A) (ws : List A) → EveryPart (λ (v : A). P v → ⊥) w ws → NoPart P w ws
never-part P w [] h = h
never-part P w (v ∷ ws) h = (h.0, never-part P v ws h.1)

-- and the other way round
pub part-never : {A : Type 0} (P : A → Type 0) (w : A) (ws : List A) → NoPart P w ws → EveryPart (λ (v : A). P v → ⊥) w ws
part-never P w [] h = h
part-never P w (v ∷ ws) h = (h.0, part-never P v ws h.1)

-- totals of sums that agree on every part
pub total-same : {A B : Type 0} (add : B → B → B) (f g : A → B) (w : A) (ws : List A) → EveryPart (λ (v : A). f v ≡ g v) w ws → total add f w ws ≡ total add g w ws
unfolding total
total-same add f g w [] h = h
total-same add f g w (v ∷ ws) h = ap₂ add h.0 (total-same add f g v ws h.1)

module _ {A : Type 0} (win : A → Window) where
  -- parts of b..e make b..e a window in order
  pub parts-ordered : (b e : ℕ) (w : A) (ws : List A) → SoundParts win b e w ws → b ≤ e
  parts-ordered b e w [] h = let o = window-bounds (win w).first.0 (win w).last.0 h.0 in omega (tests, h.1, h.2)
  parts-ordered b e w (v ∷ ws) h =
      let o = window-bounds (win w).first.0 (win w).last.0 h.0 in
      let r = parts-ordered ((win w).last.0 + 1) e v ws h.2 in
      omega (tests, h.1)

  -- each part lies within b..e
  pub parts_within : (b e : ℕ) (w : A) (ws : List A) → SoundParts win b e w ws → EveryPart (λ (v : A). (b ≤ (win v).first.0) × ((win v).last.0 ≤ e)) w ws
  parts_within b e w [] h = (omega (tests, h.1), omega (tests, h.2))
  parts_within b e w (v ∷ ws) h =
      let o = window-bounds (win w).first.0 (win w).last.0 h.0 in
      let r = parts-ordered ((win w).last.0 + 1) e v ws h.2 in (
        (omega (tests, h.1), omega tests),
        every_map _ _ (λ u q. (omega (tests, h.1, q.0), q.1)) v ws (parts_within ((win w).last.0 + 1) e v ws h.2),
      )

  -- what holds of each sound window holds of every part
  pub every-part : (P : A → Type 0) → ((v : A) → window_sound (win v).first.0 (win v).last.0 ≡ true → P v)
      → (b e : ℕ) (w : A) (ws : List A) → SoundParts win b e w ws → EveryPart P w ws
  every-part P f b e w [] h = f w h.0
  every-part P f b e w (v ∷ ws) h = (f w h.0, every-part P f ((win w).last.0 + 1) e v ws h.2)

  -- any sum of a window that adds up over each cut adds up over parts
  pub parts_total : {B : Type 0} (add : B → B → B) (f : ℕ → ℕ → B) → ((b m e : ℕ) → b ≤ m → m < e → add (f b m) (f (m + 1) e) ≡ f b e)
      → (b e : ℕ) (w : A) (ws : List A) → SoundParts win b e w ws → total add (λ (v : A). f (win v).first.0 (win v).last.0) w ws ≡ f b e
  unfolding total
  parts_total add f cut b e w [] h = ap₂ f h.1 h.2
  parts_total add f cut b e w (v ∷ ws) h =
      let o = window-bounds (win w).first.0 (win w).last.0 h.0 in
      let r = parts-ordered ((win w).last.0 + 1) e v ws h.2 in
      ap₂ add (ap (λ (x : ℕ). f x (win w).last.0) h.1) (parts_total add f cut ((win w).last.0 + 1) e v ws h.2)
      ∙ cut b (win w).last.0 e (omega (tests, h.1)) (omega tests)

  -- a day before b or after e is in no part of b..e
  pub outside-parts : (t b e : ℕ) (w : A) (ws : List A) → SoundParts win b e w ws → (t < b) ⊎ (e < t) → NoPart (λ (v : A). Holds t (win v)) w ws
  outside-parts t b e w [] h o = λ q. ⊎_elim (λ k. omega (tests, h.1, q.0)) (λ k. omega (tests, h.2, q.1)) o
  outside-parts t b e w (v ∷ ws) h o =
      let r = parts-ordered ((win w).last.0 + 1) e v ws h.2 in
      let k = window-bounds (win w).first.0 (win w).last.0 h.0 in (
        λ q. ⊎_elim (λ l. omega (tests, h.1, q.0)) (λ l. omega (tests, q.1)) o,
        outside-parts t ((win w).last.0 + 1) e v ws h.2 (⊎_elim (λ l. inl (omega (tests, h.1))) (λ l. inr l) o),
      )

  -- a day of b..e is in exactly one part
  pub inside-parts : (t b e : ℕ) (w : A) (ws : List A) → SoundParts win b e w ws → b ≤ t → t ≤ e → ExactlyOnePart (λ (v : A). Holds t (win v)) w ws
  inside-parts t b e w [] h p q = (omega (tests, h.1), omega (tests, h.2))
  inside-parts t b e w (v ∷ ws) h p q =
      by (leb t (win w).last.0) (λ _. ExactlyOnePart (λ (v : A). Holds t (win v)) w (v ∷ ws))
      (λ y. inl ((omega (tests, h.1), omega tests), outside-parts t ((win w).last.0 + 1) e v ws h.2 (inl (omega tests))))
      (λ y. inr (λ k. omega (tests, k.1), inside-parts t ((win w).last.0 + 1) e v ws h.2 (omega tests) q))

-- a statement that holds of just the parts of which another one does
pub no_part : {A : Type 0} (P Q : A → Type 0) (w : A) (ws : List A) → EveryPart (λ (v : A). Q v → P v) w ws → NoPart P w ws → NoPart Q w ws
no_part P Q w [] h n = λ q. n (h q)
no_part P Q w (v ∷ ws) h n = (λ q. n.0 (h.0 q), no_part P Q v ws h.1 n.1)

backward : {A : Type 0} (P Q : A → Type 0) (w : A) (ws : List A) → EveryPart (λ (v : A). (P v → Q v) × (Q v → P v)) w ws → EveryPart (λ (v : A). Q v → P v) w ws
backward P Q w [] h = h.1
backward P Q w (v ∷ ws) h = (h.0.1, backward P Q v ws h.1)

pub one-part : {A : Type 0} (P Q : A → Type 0) (w : A) (ws : List A) → EveryPart (λ (v : A). (P v → Q v) × (Q v → P v)) w ws
    → ExactlyOnePart P w ws → ExactlyOnePart Q w ws
one-part P Q w [] h q = h.0 q
one-part P Q w (v ∷ ws) h q =
    ⊎_elim (λ k. inl (h.0.0 k.0, no_part P Q v ws (backward P Q v ws h.1) k.1))
    (λ k. inr (λ y. k.0 (h.0.1 y), one-part P Q v ws h.1 k.1)) q
