-- Parts that are read off others: where f reads each of them off, a statement of the parts read is one of the parts, each of which is ok.
-- Assumes nothing.
use Prim.Native.Nat.{ℕ, ◌+◌}
use mathlib.Core.List.{List, [], ◌∷◌, map}
use mathlib.Core.Logic.{inl, inr, ⊎_elim}
use Rattle.claim_months.specs.declared.Window.{Window}
use Rattle.claim_months.specs.Windows.{Parts, EveryPart, NoPart, ExactlyOnePart}

module _ {A B : Type 0} (f : A → B) (ok : A → Type 0) where
  pub parts-along : (read-ok : B → Type 0) (win : B → Window) → ((v : A) → ok v → read-ok (f v)) → (b e : ℕ) (w : A) (ws : List A)
      → Parts ok (λ (v : A). win (f v)) b e w ws → Parts read-ok win b e (f w) (map f ws)
  parts-along read-ok win g b e w [] h = (g w h.0, h.1, h.2)
  parts-along read-ok win g b e w (v ∷ ws) h = (g w h.0, h.1, parts-along read-ok win g ((win (f w)).last.0 + 1) e v ws h.2)

  module _ (P : B → Type 0) (Q : A → Type 0) where
    pub every-along : ((v : A) → ok v → P (f v) → Q v) → (w : A) (ws : List A) → EveryPart ok w ws → EveryPart P (f w) (map f ws) → EveryPart Q w ws
    every-along g w [] o h = g w o h
    every-along g w (v ∷ ws) o h = (g w o.0 h.0, every-along g v ws o.1 h.1)

    pub none-along : ((v : A) → ok v → Q v → P (f v)) → (w : A) (ws : List A) → EveryPart ok w ws → NoPart P (f w) (map f ws) → NoPart Q w ws
    none-along k w [] o h = λ q. h (k w o q)
    none-along k w (v ∷ ws) o h = (λ q. h.0 (k w o.0 q), none-along k v ws o.1 h.1)

    pub one_along : ((v : A) → ok v → P (f v) → Q v) → ((v : A) → ok v → Q v → P (f v)) → (w : A) (ws : List A) → EveryPart ok w ws
        → ExactlyOnePart P (f w) (map f ws) → ExactlyOnePart Q w ws
    one_along g k w [] o h = g w o h
    one_along g k w (v ∷ ws) o h =
        ⊎_elim (λ p. inl (g w o.0 p.0, none-along k v ws o.1 p.1)) (λ p. inr (λ q. p.0 (k w o.0 q), one_along g k v ws o.1 p.1)) h
