-- Trusted: document 01, "The event program": the node, the draft, and what a line answers.
use Rattle.std.specs.Prelude.{ℕ, ◌+◌, List, [], ◌∷◌, ◌++◌, if◌then◌else◌}
use Rattle.std.specs.Prelude.{Option, None, Some}
use Rattle.words.specs.Text.{Bytes}
use Rattle.words.specs.Choice.{if_none◌then◌else◌}
use Rattle.ids.specs.Limits.{items}
use Rattle.items.specs.Item.{Item}
use Rattle.roster_conf.specs.Conf.{Conf, empty}
use Rattle.roster_conf.specs.Edit.{Edit, edit_result, refused, taken}
use Rattle.roster_conf.specs.Edit as edits
use Rattle.roster_show.specs.Show.{show}
use Rattle.bodega.specs.Replica.{Replica, fresh, Heartbeat}
use Rattle.bodega.specs.Step.{Step, Refused, Taken, step}
use Rattle.node.specs.View.{in_range}
use Rattle.line_answer.specs.Text.{refused_text, taken_text}
use Rattle.line_host.specs.Line.{Line, NodeLine, EditLine, ShowLine, HeardLine, CallLine, line_of}

-- the node, once a node line was accepted, and the draft
pub record Host : Type 0 where
  pub node : Option Replica
  pub draft : Conf

-- "The draft starts as the fresh node's roster"
abbrev pub fresh_host : Host
fresh_host = record { node = None; draft = empty }

pub data Outcome : Type 0 where
  Refusal : ℕ → Outcome
  Items : List Item → Outcome

pub record LineResult : Type 0 where
  pub host : Host
  pub outcome : Outcome

abbrev pub refused_line : Host → ℕ → LineResult
refused_line h n = record { host = h; outcome = Refusal n }

-- ---- each kind of line at a host with a node

abbrev pub called : Host → Step → LineResult
called h (Refused n) = refused_line h n
called h (Taken r l) = record { host = record { node = Some r; draft = h.draft }; outcome = Items l }

abbrev pub edited : Host → edits.EditResult → LineResult
edited h (refused n) = refused_line h n
edited h (taken c) = record { host = record { node = h.node; draft = c }; outcome = Items [] }

unfoldable pub line_at : Host → Replica → Line → LineResult
line_at h r (NodeLine id population quorum) = refused_line h 2
line_at h r (EditLine e) = edited h (edit_result r.me.population h.draft e)
line_at h r ShowLine = record { host = h; outcome = Items (show h.draft) }
line_at h r (HeardLine peer ballot with commit exec snap) = called h (step r (Heartbeat peer ballot (if with then Some h.draft else None) commit exec snap) items)
line_at h r (CallLine c) = called h (step r c items)

-- refusal 2: "population, quorum or own number is outside its range, any other line precedes an accepted node line"
unfoldable pub first_line : Host → Line → LineResult
first_line h (NodeLine id population quorum) =
    if in_range id population quorum then record { host = record { node = Some (fresh id population quorum); draft = h.draft }; outcome = Items [] } else refused_line h 2
first_line h (EditLine e) = refused_line h 2
first_line h ShowLine = refused_line h 2
first_line h (HeardLine peer ballot with commit exec snap) = refused_line h 2
first_line h (CallLine c) = refused_line h 2

abbrev pub at_host : Host → Line → LineResult
at_host h l = if_none h.node then first_line h l else λ r. line_at h r l

-- what a line does; one that is none of the seventeen is refused 1
unfoldable pub answer_line : Host → Bytes → LineResult
answer_line h s = if_none line_of s then refused_line h 1 else at_host h

-- its text, as the n-th line
abbrev pub text_of : ℕ → Outcome → Bytes
text_of n (Refusal number) = refused_text n number
text_of n (Items l) = taken_text n l

-- lines one after the other, the first one being the n-th
unfoldable pub answer_lines : Host → ℕ → List Bytes → Bytes
answer_lines h n [] = []
answer_lines h n (s ∷ ss) = let t = answer_line h s in text_of n t.outcome ++ answer_lines t.host (n + 1) ss
