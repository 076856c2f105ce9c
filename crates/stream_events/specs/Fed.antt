-- Trusted: what the functions of a stream's lines answer and leave.
use Rattle.std.specs.Prelude.{◌≡◌, true, false, List, [], ℕ, ◌-◌, ◌≤◌, ◌<◌, length, take, drop}
use Rattle.words.specs.Text.{Bytes}
use Rattle.ids.specs.Limits.{items}
use Rattle.items.specs.Item.{places}
use Rattle.text.specs.Wrote.{Wrote}
use Rattle.line_buffers.specs.declared.Buffers.{Buffers}
use Rattle.line_host.specs.declared.Host.{Host}
use Rattle.line_host.specs.Follows.{host_of, sound}
use Rattle.stream_pieces.specs.Pieces.{Begun, before}
use Rattle.stream_pieces.specs.Streamed.{streamed, last_line, output_after}
use Rattle.stream_events.specs.declared.LineState.{LineState}
use Rattle.stream_events.specs.declared.Place.{Place}
use Rattle.stream_events.specs.declared.Fed.{Fed}
use Rattle.stream_events.specs.Lines.{State, line_output, last_state}

-- the buffers that are lent for every line: long enough, with an area of 546 places, and a draft that edits can have
-- made
pub record Lent (h : Host) (mem rows area groups : List ℕ) : Type 0 where
  pub is_sound : sound h.draft mem rows ≡ true
  pub area_size : places area ≡ items
  pub groups_size : 1542 ≤ length groups

abbrev pub LentBy : Host → Buffers → Type 0
LentBy h b = Lent h b.mem.now b.rows.now b.area.now b.groups.now

unfoldable pub state_of : LineState → List ℕ → List ℕ → State
state_of c mem rows = record { host = host_of c.host mem rows; number = c.number }

-- what a line leaves, and where its text ends
pub record LineWritten : Type 0 where
  pub state : LineState
  pub end : ℕ

-- a line was answered, and its text is at the start of out; words of area and groups are free
pub record WritesLine (c : LineState) (mem rows : List ℕ) (b : Begun) (out : Bytes) (r : LineWritten) (mem' rows' area' groups' : List ℕ) (out' : Bytes) : Type 0 where
  pub next : state_of r.state mem' rows' ≡ (line_output (state_of c mem rows) b).next
  pub text : Wrote out 0 (line_output (state_of c mem rows) b).text 65536 r.end out'
  pub lent : Lent r.state.host mem' rows' area' groups'

-- a last line without a newline was answered, if it has a byte
pub record WritesLastLine (c : LineState) (mem rows : List ℕ) (b : Begun) (out : Bytes) (r : LineWritten) (mem' rows' area' groups' : List ℕ) (out' : Bytes) : Type 0 where
  pub next : state_of r.state mem' rows' ≡ last_state (state_of c mem rows) b
  pub text : Wrote out 0 (last_line line_output (state_of c mem rows) b) 65536 r.end out'
  pub lent : Lent r.state.host mem' rows' area' groups'

-- the lines from a place in a piece up to the next place were answered; then no line ends in the piece any more, or the
-- output is too full for one
pub record WritesLines (piece : Bytes) (p : Place) (mem rows : List ℕ) (out : Bytes) (r : Fed) (mem' rows' area' groups' : List ℕ) (out' : Bytes) : Type 0 where
  pub answered : record { bytes = out'; used = r.used; state = state_of r.place.state mem' rows'; begun = record { long = r.place.long; line = [] } }
      ≡ output_after out 0 (streamed line_output (state_of p.state mem rows) (record { long = p.long; line = [] }) (take (r.place.at - p.at) (drop p.at piece)))
  pub order : p.at ≤ r.place.at
  pub within : r.place.at ≤ length piece
  pub held : r.used ≤ length out
  pub ended : r.more ≡ false → before (drop r.place.at piece) ≡ length (drop r.place.at piece)
  pub on : r.more ≡ true → p.at < r.place.at
  pub full : r.more ≡ true → length out - r.used < 65536
  pub lent : Lent r.place.state.host mem' rows' area' groups'
