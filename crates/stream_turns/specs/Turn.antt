-- Trusted: what a turn answers and leaves.
use Rattle.std.specs.Prelude.{◌≡◌, true, false, List, [], ℕ, ◌-◌, ◌≤◌, ◌<◌, length, take, drop}
use Rattle.words.specs.Text.{Bytes}
use Rattle.stream_pieces.specs.Pieces.{kept}
use Rattle.stream_pieces.specs.Streamed.{Streamed, streamed, OutputAfter, output_after}
use Rattle.stream_events.specs.Lines.{State, start, line_output}
use Rattle.stream_events.specs.Fed.{Lent, state_of}
use Rattle.stream_turns.specs.declared.Stream.{Stream}
use Rattle.stream_turns.specs.declared.TurnResult.{TurnResult}

-- no byte was read
pub record Begins (s : Stream) : Type 0 where
  pub state : (mem rows : List ℕ) → state_of s.place.state mem rows ≡ start
  pub draft : s.place.state.host.draft.count ≤ 64
  pub at_start : s.place.at ≡ 0
  pub no_byte : s.end ≡ 0
  pub short : s.place.long ≡ false
  pub none : s.more ≡ false

-- the bytes that were read and are not answered
abbrev pub waiting : Stream → Bytes → Bytes
waiting s buf = drop s.place.at (take s.end buf)

-- what some of these bytes leave
abbrev pub streamed_on : Stream → List ℕ → List ℕ → Bytes → Streamed State
streamed_on s mem rows l = streamed line_output (state_of s.place.state mem rows) (record { long = s.place.long; line = [] }) l

-- a run whose begun line is kept
abbrev pub keeping : Streamed State → Streamed State
keeping r = record { out = r.out; state = r.state; begun = kept r.begun }

-- what the code has left: the output, how much of it is used, the state, and the line that has begun
abbrev pub leaves : TurnResult → List ℕ → List ℕ → Bytes → Bytes → OutputAfter State
leaves r mem' rows' out' line =
    record { bytes = out'; used = r.used; state = state_of r.stream.place.state mem' rows'; begun = record { long = r.stream.place.long; line = line } }

-- all bytes were gone through: the line that has begun is at the buffer's start
pub record Rests (buf : Bytes) (s : Stream) (mem rows : List ℕ) (out : Bytes) (r : TurnResult) (buf' : Bytes) (mem' rows' : List ℕ) (out' : Bytes) : Type 0 where
  pub at_start : r.stream.place.at ≡ 0
  pub few : r.stream.end ≤ 1024
  pub answered : leaves r mem' rows' out' (waiting r.stream buf') ≡ output_after out 0 (keeping (streamed_on s mem rows (waiting s buf)))

-- the output has no room for any answer: the bytes are gone through up to a line's end, and stand where they stood
pub record Stops (buf : Bytes) (s : Stream) (mem rows : List ℕ) (out : Bytes) (r : TurnResult) (buf' : Bytes) (mem' rows' : List ℕ) (out' : Bytes) : Type 0 where
  pub same_bytes : buf' ≡ buf
  pub same_end : r.stream.end ≡ s.end
  pub on : s.place.at < r.stream.place.at
  pub within : r.stream.place.at ≤ s.end
  pub full : length out - r.used < 65536
  pub answered : leaves r mem' rows' out' [] ≡ output_after out 0 (streamed_on s mem rows (take (r.stream.place.at - s.place.at) (waiting s buf)))

pub record TurnLeaves (buf : Bytes) (s : Stream) (mem rows : List ℕ) (out : Bytes) (r : TurnResult) (buf' : Bytes) (mem' rows' area' groups' : List ℕ) (out' : Bytes) : Type 0 where
  pub rests : r.stream.more ≡ false → Rests buf s mem rows out r buf' mem' rows' out'
  pub stops : r.stream.more ≡ true → Stops buf s mem rows out r buf' mem' rows' out'
  pub order : r.stream.place.at ≤ r.stream.end
  pub within : r.stream.end ≤ length buf
  pub held : r.used ≤ length out
  pub lent : Lent r.stream.place.state.host mem' rows' area' groups'
