-- Trusted: what the code's host stands for, and what a line leaves in its buffers.
use Rattle.std.specs.Prelude.{◌≡◌, Bool, true, false, ◌&&◌, List, ℕ, ◌<◌, leb, ltb, length, if◌then◌else◌}
use Rattle.std.specs.Prelude.{Option, None, Some, Result, Ok, Err}
use Rattle.words.specs.Choice.{if_none◌then◌else◌}
use Rattle.words.specs.Writes.{writes}
use Rattle.words.specs.Part.{Untouched}
use Rattle.layout.specs.Layout.{roster_words}
use Rattle.ids.specs.declared.Refusal.{Refusal}
use Rattle.ids.specs.Refusal.{number_of}
use Rattle.items.specs.Item.{Item, encode}
use Rattle.roster_conf.specs.declared.RespondersConf.{RespondersConf}
use Rattle.roster_conf.specs.Edit.{Edit, refused}
use Rattle.roster_conf.specs.Edits.{view as roster_of, holds_rows, Gives, Edits}
use Rattle.bodega.specs.Replica.{Call}
use Rattle.bodega.specs.Answers.{Refuses, Answers}
use Rattle.node.specs.declared.Node.{Node}
use Rattle.node.specs.declared.Taken.{Taken}
use Rattle.node.specs.View.{size, view, ready, given_of}
use Rattle.line_host.specs.declared.Host as code
use Rattle.line_host.specs.Host.{Host, Outcome, LineResult, refused_line, at_host}
use Rattle.line_host.specs.Host as lines
use Rattle.line_host.specs.Line.{Line}

-- ---- the host: a struct, the node's buffer and the draft's rows

-- there is a node where a call can have made it
abbrev pub host_of : code.Host → List ℕ → List ℕ → Host
host_of h mem rows = record { node = if ready h.node mem then Some (view h.node mem) else None; draft = roster_of h.draft rows }

-- buffers that are long enough, and a draft that edits can have made
unfoldable pub sound : RespondersConf → List ℕ → List ℕ → Bool
sound draft mem rows = leb size (length mem) && holds_rows (length rows) draft.count

-- ---- what a line comes to

-- what a line gives that is taken: the host after it, and how many items answer it
pub record LineTaken : Type 0 where
  pub host : code.Host
  pub count : ℕ

-- what any line gives: the number of a refusal or 0, the number of its items, the host
pub record LineGiven : Type 0 where
  pub number : ℕ
  pub count : ℕ
  pub host : code.Host

-- what a line answers that was handed h: where it is refused, the number, no items, and h as it was
abbrev pub line_given : code.Host → Result LineTaken Refusal → LineGiven
line_given h (Ok t) = record { number = 0; count = t.count; host = t.host }
line_given h (Err r) = record { number = number_of r; count = 0; host = h }

-- after a refusal all is as it was; else the items stand at the start of the area, and the words past the node's and
-- the draft's are as they were
pub record LineRefuses (n : ℕ) (h : code.Host) (mem rows area : List ℕ) (g : LineGiven) (mem' rows' area' : List ℕ) : Type 0 where
  pub refused : 0 < n
  pub number : g.number ≡ n
  pub count : g.count ≡ 0
  pub same_host : g.host ≡ h
  pub same_mem : mem' ≡ mem
  pub same_rows : rows' ≡ rows
  pub same_area : area' ≡ area

pub record LineTakes (next : Host) (l : List Item) (h : code.Host) (mem rows area : List ℕ) (g : LineGiven) (mem' rows' area' : List ℕ) : Type 0 where
  pub number : g.number ≡ 0
  pub count : g.count ≡ length l
  pub host : host_of g.host mem' rows' ≡ next
  pub items : area' ≡ writes area 0 (encode l)
  pub mem_size : length mem' ≡ length mem
  pub rows_size : length rows' ≡ length rows
  pub beyond_mem : Untouched size mem mem'
  pub beyond_rows : Untouched roster_words rows rows'
  pub sound_again : sound g.host.draft mem' rows' ≡ true

abbrev pub LineFollowsBy : Host → Outcome → code.Host → List ℕ → List ℕ → List ℕ → LineGiven → List ℕ → List ℕ → List ℕ → Type 0
LineFollowsBy next (lines.Refusal n) h mem rows area g mem' rows' area' = LineRefuses n h mem rows area g mem' rows' area'
LineFollowsBy next (lines.Items l) h mem rows area g mem' rows' area' = LineTakes next l h mem rows area g mem' rows' area'

abbrev pub LineFollows : LineResult → code.Host → List ℕ → List ℕ → List ℕ → Result LineTaken Refusal → List ℕ → List ℕ → List ℕ → Type 0
LineFollows t h mem rows area r mem' rows' area' = LineFollowsBy t.host t.outcome h mem rows area (line_given h r) mem' rows' area'

-- a line of well-formed fields, or refusal 1
abbrev pub result_by : Host → Option Line → LineResult
result_by h o = if_none o then refused_line h 1 else at_host h

-- ---- the lines of calls, and of the draft's edits: where the fields are not well-formed it is refused 1, else it is
-- that call or edit

pub record AnswersLine (good : Bool) (c : Call) (node : Node) (mem area : List ℕ) (a : Result Taken Refusal) (mem' area' : List ℕ) : Type 0 where
  pub bad : good ≡ false → Refuses ready view 1 node mem area (given_of node a) mem' area'
  pub well : good ≡ true → Answers ready view c node mem area (given_of node a) mem' area'

pub record EditsLine (good : Bool) (e : Edit) (population : ℕ) (c : RespondersConf) (rows : List ℕ) (r : Result RespondersConf Refusal) (rows' : List ℕ) : Type 0 where
  pub bad : good ≡ false → Gives (refused 1) r rows rows'
  pub well : good ≡ true → Edits e population c rows r rows'

-- ---- a replica number that no byte has is refused as 255 is

abbrev pub as_byte : ℕ → ℕ
as_byte n = if ltb 255 n then 255 else n
