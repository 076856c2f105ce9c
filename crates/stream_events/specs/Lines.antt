-- Trusted: document 01, "The event program": what is written for a stream of event lines.
use Rattle.std.specs.Prelude.{ℕ, ◌+◌, ◌-◌, ◌^◌, ◌<◌, ◌≡◌, ◌||◌, List, [], ◌∷◌, ◌++◌, ltb, eqb, length, if◌then◌else◌}
use Rattle.words.specs.Text.{Bytes}
use Rattle.line_host.specs.Host.{Host, fresh_host, LineResult, refused_line, answer_line, answer_lines, text_of}
use Rattle.stream_pieces.specs.Pieces.{Begun, none_begun, concat}
use Rattle.stream_pieces.specs.Streamed.{LineOutput, piecewise}

-- what goes from line to line: the host, and the number of the next line
pub record State : Type 0 where
  pub host : Host
  pub number : ℕ

abbrev pub start : State
start = record { host = fresh_host; number = 1 }

-- "LINE counts all lines from 1"; past the largest number it stays there
abbrev pub bumped : ℕ → ℕ
bumped n = if ltb n (2 ^ 64 - 1) then n + 1 else n

-- refusal 1: a line "exceeds 1,024 bytes", of which some were dropped; where none were, heard tells by the length
unfoldable pub result_of : Host → Begun → LineResult
result_of h b = if b.long then refused_line h 1 else answer_line h b.line

-- a line's text, and the state after it
unfoldable pub line_output : State → Begun → LineOutput State
line_output s b = let t = result_of s.host b in record { text = text_of s.number t.outcome; next = record { host = t.host; number = bumped s.number } }

-- the state after a last line without a newline, which is one if it has a byte (last_line)
unfoldable pub last_state : State → Begun → State
last_state s b = if b.long || ltb 0 (length b.line) then (line_output s b).next else s

-- ---- the same without pieces

-- the lines of a stream: each up to its newline, and a last one without a newline if it has a byte; acc is what its
-- first line has already
unfoldable pub lines_from : Bytes → Bytes → List Bytes
lines_from acc [] = if ltb 0 (length acc) then acc ∷ [] else []
lines_from acc (c ∷ s) = if eqb c 10 then acc ∷ lines_from [] s else lines_from (acc ++ (c ∷ [])) s

abbrev pub lines_of : Bytes → List Bytes
lines_of s = lines_from [] s

-- a stream of fewer lines than the number can count, in whatever pieces it comes, is answered as its lines are one
-- after the other
abbrev pub PiecesAsWhole : Type 0
PiecesAsWhole = (ps : List Bytes) → length (lines_of (concat ps)) < 2 ^ 64 - 1 → piecewise line_output start none_begun ps ≡ answer_lines fresh_host 1 (lines_of (concat ps))
