-- Bridge: what the program's steps leave, whatever was read and written; tied to `TurnList` by proofs/Laws.
use Rattle.std.specs.Prelude.{◌≡◌, false, List, ℕ, ◌≤◌, length}
use Rattle.words.specs.Text.{Bytes}
use Rattle.line_buffers.specs.declared.Buffers.{Buffers}
use Rattle.stream_events.specs.Fed.{Lent}
use Rattle.stream_turns.specs.declared.Stream.{Stream}
use Rattle.stream_turns.specs.TurnList.{TurnList}

-- the bytes that wait are in the buffer, and where no line ends in them there is room for a piece behind them
pub record Stands (s : Stream) (buf : Bytes) (mem rows area groups : List ℕ) : Type 0 where
  pub order : s.place.at ≤ s.end
  pub within : s.end ≤ length buf
  pub few : s.more ≡ false → s.end ≤ 1024
  pub lent : Lent s.place.state.host mem rows area groups

-- the turns went on
pub record TurnsSoFar (s : Stream) (buf : Bytes) (mem rows : List ℕ) : Type 0 where
  pub pieces : List Bytes
  pub text : Bytes
  pub went : TurnList pieces text s buf mem rows

pub record Steps (s : Stream) (buf : Bytes) (mem rows : List ℕ) (s' : Stream) (buf' : Bytes) (mem' rows' area' groups' : List ℕ) : Type 0 where
  pub stands : Stands s' buf' mem' rows' area' groups'
  pub on : TurnsSoFar s buf mem rows → TurnsSoFar s' buf' mem' rows'

abbrev pub StandsIn : Stream → Bytes → Buffers → Type 0
StandsIn s buf b = Stands s buf b.mem.now b.rows.now b.area.now b.groups.now

abbrev pub StepsIn : Stream → Bytes → Buffers → Stream → Bytes → Buffers → Type 0
StepsIn s buf b s' buf' b' = Steps s buf b.mem.now b.rows.now s' buf' b'.mem.now b'.rows.now b'.area.now b'.groups.now
