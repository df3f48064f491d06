-- Where bytes come from: what a source has left to hand out, and what one read hands out of it.
use Rattle.std.specs.Prelude.{ℕ, ◌≡◌, ◌≤◌, ◌<◌, Bool, true, false, List, [], ◌++◌, length, take, ⊤, Option, None, Some}
use Rattle.ltd_study.specs.declared.input.Filled.{Filled}

-- bytes, and whether a read fails behind them
pub record Stream : Type 0 where
  pub bytes : List ℕ
  pub fails : Bool

-- bytes were handed out: what was left begins with them, where it is known
abbrev pub Hands : Option Stream → List ℕ → Option Stream → Type 0
Hands None bytes new = ⊤
Hands (Some l) bytes None = ⊥
Hands (Some l) bytes (Some m) = (l.bytes ≡ bytes ++ m.bytes) × (l.fails ≡ m.fails)

-- no byte is left, and a read fails there or not, where it is known
abbrev pub IsOver : Option Stream → Bool → Type 0
IsOver None failed = ⊤
IsOver (Some m) failed = (m.bytes ≡ []) × (m.fails ≡ failed)

-- what was left is this, where it is known
abbrev pub Gives : Option Stream → Stream → Type 0
Gives None s = ⊤
Gives (Some l) s = (l.bytes ≡ s.bytes) × (l.fails ≡ s.fails)

-- one read into a list: bytes that were left, or none where the input is over or the read failed
pub record Handed (old new : Option Stream) (bytes : List ℕ) (f : Filled) : Type 0 where
  pub within : f.count ≤ length bytes
  pub some : f.over ≡ false → 0 < f.count
  pub none : f.over ≡ true → f.count ≡ 0
  pub handed : Hands old (take f.count bytes) new
  pub over : f.over ≡ true → 0 < length bytes → IsOver new f.failed

-- what a file has left that may be missing: a missing one is an empty one
abbrev pub left_of : {F : Type 0} → (F → Option Stream) → Option F → Option Stream
left_of left None = Some (record { bytes = []; fails = false })
left_of left (Some f) = left f
