-- Trusted: document 01, "The event program": the seventeen kinds of lines, each with its fields.
use Rattle.std.specs.Prelude.{ℕ, Bool, true, false, ◌&&◌, ◌||◌, not, List, [], ◌∷◌, eqb, ltb, leb, length, get_or, drop, if◌then◌else◌}
use Rattle.std.specs.Prelude.{Option, None, Some}
use Rattle.words.specs.Text.{Bytes}
use Rattle.line_fields.specs.Split.{fields_of}
use Rattle.line_kind.specs.Kind.{kind_of}
use Rattle.line_kind.specs.declared.Kind.{Kind}
use Rattle.line_kind.specs.declared.Kind.TheVariants as kinds
use Rattle.line_kind.specs.declared.EditKind.{EditKind}
use Rattle.line_kind.specs.declared.EditKind.TheVariants.{Lead, Range, Whole, Drop, Reset}
use Rattle.line_kind.specs.declared.CallKind.{CallKind}
use Rattle.line_kind.specs.declared.CallKind.TheVariants.{Guard, Prepared, Reply, Notice, Commit, Bars, Read, Release}
use Rattle.line_fields.specs.Number.{has_byte, is_number, value_of, numbers, number_at}
use Rattle.roster_conf.specs.Edit.{Edit, SetLeader, SetResponders, SetFull, IntoFiltered, ResetFull}
use Rattle.bodega.specs.Replica.{Command, Get, Put, Request, Call}
use Rattle.bodega.specs.Replica as call

pub data Line : Type 0 where
  -- id, population, quorum
  NodeLine : ℕ → ℕ → ℕ → Line
  -- a line of the draft
  EditLine : Edit → Line
  ShowLine : Line
  -- peer, ballot, whether the draft is attached, commit, exec, snap
  HeardLine : ℕ → ℕ → Bool → ℕ → ℕ → ℕ → Line
  CallLine : Call → Line

-- a line of well-formed fields, else none
abbrev pub only : Bool → Line → Option Line
only good l = if good then Some l else None

-- ---- the groups of four fields of a record line: CLIENT,REQUEST,KEY,VALUE, "empty VALUE meaning a Get"

unfoldable pub are_groups : List Bytes → Bool
are_groups [] = true
are_groups (client ∷ []) = false
are_groups (client ∷ request ∷ []) = false
are_groups (client ∷ request ∷ key ∷ []) = false
are_groups (client ∷ request ∷ key ∷ value ∷ fs) = is_number client && is_number request && (not (has_byte value) || is_number value) && are_groups fs

abbrev pub command_of : Bytes → Command
command_of value = if has_byte value then Put (value_of value) else Get

unfoldable pub batch_of : List Bytes → List Request
batch_of [] = []
batch_of (client ∷ []) = []
batch_of (client ∷ request ∷ []) = []
batch_of (client ∷ request ∷ key ∷ []) = []
batch_of (client ∷ request ∷ key ∷ value ∷ fs) = record { client = value_of client; request = value_of request; key = key; command = command_of value } ∷ batch_of fs

-- two numbers, and then whole groups
abbrev pub is_record : List Bytes → Bool
is_record fs = leb 2 (length fs) && is_number (get_or fs 0 []) && is_number (get_or fs 1 []) && are_groups (drop 2 fs)

abbrev pub record_of : List Bytes → Call
record_of fs = call.Record (number_at fs 0) (number_at fs 1) (batch_of (drop 2 fs))

abbrev pub record_line : List Bytes → Option Line
record_line fs = only (is_record fs) (CallLine (record_of fs))

-- ---- the heartbeat

-- WITH: "1 attaches the draft, 0 none, else refusal 1"
abbrev pub is_heard : List Bytes → Bool
is_heard fs = numbers 6 fs && ltb (number_at fs 2) 2

abbrev pub heard_line : List Bytes → Option Line
heard_line fs = only (is_heard fs) (HeardLine (number_at fs 0) (number_at fs 1) (eqb (number_at fs 2) 1) (number_at fs 3) (number_at fs 4) (number_at fs 5))

-- ---- the edits of the draft: whether the fields of a line are well-formed, and the edit that they are

abbrev pub is_range : List Bytes → Bool
is_range fs = eqb (length fs) 3 && is_number (get_or fs 2 [])

abbrev pub is_edit : EditKind → List Bytes → Bool
is_edit Lead fs = numbers 1 fs
is_edit Range fs = is_range fs
is_edit Whole fs = numbers 1 fs
is_edit Drop fs = numbers 1 fs
is_edit Reset fs = numbers 0 fs

abbrev pub edit_of : EditKind → List Bytes → Edit
edit_of Lead fs = SetLeader (number_at fs 0)
edit_of Range fs = SetResponders (get_or fs 0 []) (get_or fs 1 []) (number_at fs 2)
edit_of Whole fs = SetFull (number_at fs 0)
edit_of Drop fs = IntoFiltered (number_at fs 0)
edit_of Reset fs = ResetFull

-- ---- eight of the calls, in the same way

abbrev pub is_read : List Bytes → Bool
is_read fs = eqb (length fs) 4 && is_number (get_or fs 0 []) && is_number (get_or fs 1 []) && is_number (get_or fs 2 [])

abbrev pub is_call : CallKind → List Bytes → Bool
is_call Guard fs = numbers 3 fs
is_call Prepared fs = numbers 1 fs
is_call Reply fs = numbers 3 fs
is_call Notice fs = numbers 3 fs
is_call Commit fs = numbers 3 fs
is_call Bars fs = numbers 4 fs
is_call Read fs = is_read fs
is_call Release fs = numbers 1 fs

-- the call of these numbers; a read has a key too
abbrev pub call_by : CallKind → (ℕ → ℕ) → Bytes → Call
call_by Guard v key = call.Guard (v 0) (v 1) (v 2)
call_by Prepared v key = call.Prepared (v 0)
call_by Reply v key = call.Reply (v 0) (v 1) (v 2)
call_by Notice v key = call.Notice (v 0) (v 1) (v 2)
call_by Commit v key = call.CommitNotice (v 0) (v 1) (v 2)
call_by Bars v key = call.Bars (v 0) (v 1) (v 2) (v 3)
call_by Read v key = call.Read (v 2) (record { client = v 0; request = v 1; key = key })
call_by Release v key = call.Release (v 0)

abbrev pub call_of : CallKind → List Bytes → Call
call_of k fs = call_by k (number_at fs) (get_or fs 3 [])

-- by its name's kind, and the fields after it
abbrev pub line_by : Kind → List Bytes → Option Line
line_by kinds.Node fs = only (numbers 3 fs) (NodeLine (number_at fs 0) (number_at fs 1) (number_at fs 2))
line_by (kinds.Edit k) fs = only (is_edit k fs) (EditLine (edit_of k fs))
line_by kinds.Show fs = only (numbers 0 fs) ShowLine
line_by kinds.Heard fs = heard_line fs
line_by kinds.Record fs = record_line fs
line_by (kinds.Call k) fs = only (is_call k fs) (CallLine (call_of k fs))
line_by kinds.Unknown fs = None

abbrev pub of_fields : List Bytes → Option Line
of_fields [] = None
of_fields (name ∷ fs) = line_by (kind_of name) fs

-- "exceeds 1,024 bytes"
unfoldable pub line_of : Bytes → Option Line
line_of s = if ltb 1024 (length s) then None else of_fields (fields_of s)
