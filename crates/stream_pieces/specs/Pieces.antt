-- Trusted: a line of a stream that comes in pieces ("exceeds 1,024 bytes").
use Rattle.std.specs.Prelude.{ℕ, zero, suc, Bool, true, false, List, [], ◌∷◌, ◌++◌, ltb, eqb, length, if◌then◌else◌}

-- a line's bytes so far, or, if it is long, those that were not dropped
pub record Begun : Type 0 where
  pub long : Bool
  pub line : List ℕ

abbrev pub none_begun : Begun
none_begun = record { long = false; line = [] }

-- one byte more
abbrev pub longer : Begun → ℕ → Begun
longer b c = record { long = b.long; line = b.line ++ (c ∷ []) }

-- how many bytes stand before the first newline
abbrev pub before : List ℕ → ℕ
before [] = zero
before (c ∷ s) = if eqb c 10 then zero else suc (before s)

-- what is kept of a line from piece to piece: none of its bytes once it has more than 1,024
unfoldable pub kept : Begun → Begun
kept b = if ltb 1024 (length b.line) then record { long = true; line = [] } else b

abbrev pub concat : List (List ℕ) → List ℕ
concat [] = []
concat (p ∷ ps) = p ++ concat ps
