-- Bytes handed out one read behind another, up to the end.
-- Assumes nothing.
use Prim.Native.Nat.{ℕ, ◌+◌, ◌≤◌}
use mathlib.Core.Path.{◌≡◌, refl, sym, ap, ◌∙◌, subst⁻¹}
use mathlib.Core.Bool.{Bool, true, false}
use mathlib.Core.List.{List, [], ◌∷◌, ◌++◌, append_assoc, append-nil}
use native.Mathlib.Omega.{arith}
use lib.ListN.{length, take}
use lib.Seq.{length-take-le, take-append-le, take-append-add}
use borrow.Rule.Slice.PartMut.{post_of, put_mid}
use Rattle.std.specs.Prelude.{Option, Some, None}
use Rattle.ltd_study.specs.Sources.{Stream, Hands, IsOver, Gives, Handed}
use Rattle.ltd_study.proofs.Answers.{both}

-- what a read promises can be kept, whatever is left: by one byte at a time
one-handed : (byte : ℕ) (rest more : List ℕ) (fails : Bool)
    → Handed (Some (record { bytes = byte ∷ rest; fails = fails })) (Some (record { bytes = rest; fails = fails })) (byte ∷ more) (record { count = 1; over = false; failed = false })
one-handed byte rest more fails =
    record { within = omega arith; some = λ _. omega arith; none = λ t. both (sym t); handed = (refl, refl); over = λ t. both (sym t) }

end-handed : (bytes : List ℕ) (fails : Bool)
    → Handed (Some (record { bytes = []; fails = fails })) (Some (record { bytes = []; fails = fails })) bytes (record { count = 0; over = true; failed = fails })
end-handed bytes fails = record { within = omega arith; some = λ t. both t; none = λ _. refl; handed = (refl, refl); over = λ _ _. (refl, refl) }

pub hands-none : (a : Option Stream) → Hands a [] a
hands-none None = tt
hands-none (Some l) = (refl, refl)

pub hands-on : (a b c : Option Stream) (x y : List ℕ) → Hands a x b → Hands b y c → Hands a (x ++ y) c
hands-on None b c x y h i = tt
hands-on (Some l) None c x y h i = absurd h
hands-on (Some l) (Some m) None x y h i = absurd i
hands-on (Some l) (Some m) (Some n) x y h i = (h.0 ∙ ap (λ (z : List ℕ). x ++ z) i.0 ∙ sym (append_assoc x y n.bytes), h.1 ∙ i.1)

-- at the end all is handed out
pub given : (a b : Option Stream) (x : List ℕ) (failed : Bool) → Hands a x b → IsOver b failed → Gives a (record { bytes = x; fails = failed })
given None b x failed h o = tt
given (Some l) None x failed h o = absurd h
given (Some l) (Some m) x failed h o = (h.0 ∙ ap (λ (z : List ℕ). x ++ z) o.0 ∙ append-nil x, h.1 ∙ o.1)

-- a read into a list behind what it holds
pub filled-on : (buffer bytes : List ℕ) (done count k n : ℕ) (a b c : Option Stream) → done ≤ length buffer → count ≤ length bytes → n ≡ done + count
    → Hands a (take done buffer) b → Hands b (take count bytes) c → Hands a (take n (put_mid done k buffer bytes)) c
filled-on buffer bytes done count k n a b c h w e p q =
    let front = take done buffer in
    let rest = bytes ++ post_of done k buffer in
    let s : n ≡ length front + count = omega (arith, length-take-le done buffer h, e) in
    subst⁻¹ (λ (x : List ℕ). Hands a x c)
    (ap (λ (i : ℕ). take i (front ++ rest)) s ∙ take-append-add front rest count ∙ ap (λ (x : List ℕ). front ++ x) (take-append-le count bytes (post_of done k buffer) w))
    (hands-on a b c front (take count bytes) p q)
