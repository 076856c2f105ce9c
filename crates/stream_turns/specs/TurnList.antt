-- Trusted: every list of turns, each by the statement of `turn`, and what their texts are together.
use Rattle.std.specs.Prelude.{◌≡◌, true, false, List, [], ◌∷◌, ◌++◌, ℕ, ◌-◌, ◌^◌, ◌≤◌, ◌<◌, length, take, drop}
use Rattle.words.specs.Text.{Bytes}
use Rattle.line_host.specs.Host.{fresh_host, answer_lines}
use Rattle.stream_pieces.specs.Pieces.{none_begun, concat}
use Rattle.stream_pieces.specs.Streamed.{streamed}
use Rattle.stream_events.specs.Lines.{start, line_output, lines_of}
use Rattle.stream_events.specs.Fed.{LineWritten, WritesLastLine}
use Rattle.stream_turns.specs.declared.Stream.{Stream}
use Rattle.stream_turns.specs.declared.TurnResult.{TurnResult}
use Rattle.stream_turns.specs.Turn.{Begins, TurnLeaves, waiting}

-- bytes stand in the buffer from have up to end, behind the ones that stood there, which are as they were
pub record Fills (buf : Bytes) (have end : ℕ) (buf' : Bytes) : Type 0 where
  pub order : have ≤ end
  pub within : end ≤ length buf'
  pub same : take have buf' ≡ take have buf

-- the stream with them, of which lines may end in them
abbrev pub filled : Stream → ℕ → Stream
filled s end = record { place = s.place; end = end; more = true }

-- From the start these pieces were read, and the turns' texts came to this: where the stream and its buffers stand
-- then. Each turn begins from what the last one left; the output before it is free, and so are the answer area and the
-- groups. Nothing is read while lines may end in the bytes.
pub data TurnList : List Bytes → Bytes → Stream → Bytes → List ℕ → List ℕ → Type 0 where
  none : {s : Stream} {buf : Bytes} {mem rows : List ℕ} → Begins s → TurnList [] [] s buf mem rows
  read : {ps : List Bytes} {text : Bytes} {s : Stream} {buf : Bytes} {mem rows : List ℕ} (end : ℕ) (buf' : Bytes)
      → TurnList ps text s buf mem rows → s.more ≡ false → Fills buf s.end end buf' → TurnList (ps ++ (drop s.end (take end buf') ∷ [])) text (filled s end) buf' mem rows
  turn : {ps : List Bytes} {text : Bytes} {s : Stream} {buf : Bytes} {mem rows : List ℕ} (out : Bytes) (r : TurnResult) (buf' : Bytes) (mem' rows' area' groups' : List ℕ) (out' : Bytes)
      → TurnList ps text s buf mem rows → TurnLeaves buf s mem rows out r buf' mem' rows' area' groups' out' → TurnList ps (text ++ take r.used out') r.stream buf' mem' rows'

-- Whatever the pieces are, the texts and then that of the last line, when the input has ended, are what document 01
-- says of the stream's lines.
abbrev pub TurnsAsWhole : Type 0
TurnsAsWhole = (ps : List Bytes) (text : Bytes) (s : Stream) (buf : Bytes) (mem rows : List ℕ) (out : Bytes) (r : LineWritten) (mem' rows' area' groups' : List ℕ) (out' : Bytes)
    → TurnList ps text s buf mem rows → s.more ≡ false
    → WritesLastLine s.place.state mem rows (record { long = s.place.long; line = waiting s buf }) out r mem' rows' area' groups' out' → 65536 ≤ length out
    → length (lines_of (concat ps)) < 2 ^ 64 - 1 → text ++ take r.end out' ≡ answer_lines fresh_host 1 (lines_of (concat ps))

-- Without it, as where a read failed: the answers to the lines that have ended, and no more.
abbrev pub TurnsCutOff : Type 0
TurnsCutOff = (ps : List Bytes) (text : Bytes) (s : Stream) (buf : Bytes) (mem rows : List ℕ) → TurnList ps text s buf mem rows → s.more ≡ false → text ≡ (streamed line_output start none_begun (concat ps)).out
