-- Trusted: what the function of an event line answers and leaves.
use Rattle.std.specs.Prelude.{◌≡◌, Result, Ok, Err, Bool, ◌&&◌, List, ℕ, ◌≤◌, ◌<◌, leb, eqb, length, if◌then◌else◌}
use Rattle.words.specs.Text.{Bytes}
use Rattle.ids.specs.Limits.{items}
use Rattle.ids.specs.declared.Refusal.{Refusal}
use Rattle.items.specs.Item.{places}
use Rattle.roster_conf.specs.declared.RespondersConf.{RespondersConf}
use Rattle.text.specs.Wrote.{Wrote}
use Rattle.line_host.specs.declared.Host.{Host}
use Rattle.line_host.specs.Host.{LineResult, refused_line, answer_line, text_of}
use Rattle.line_host.specs.Follows.{host_of, sound, LineTaken, LineFollows}
use Rattle.line_event.specs.declared.LineAnswer.{LineAnswer}

-- buffers that are long enough, and an answer area of 546 places
unfoldable pub whole : RespondersConf → List ℕ → List ℕ → List ℕ → List ℕ → Bool
whole draft mem rows area groups = sound draft mem rows && eqb (places area) items && leb 1542 (length groups)

unfoldable pub fit : RespondersConf → List ℕ → List ℕ → List ℕ → List ℕ → Bytes → Bool
fit draft mem rows area groups out = whole draft mem rows area groups && leb 65536 (length out)

-- what the line leaves; 2 where the lent buffers do not fit
unfoldable pub due : Host → List ℕ → List ℕ → List ℕ → List ℕ → Bytes → Bytes → LineResult
due h mem rows area groups out line = if fit h.draft mem rows area groups out then answer_line (host_of h mem rows) line else refused_line (host_of h mem rows) 2

-- the same where out has room for any text
unfoldable pub due_in : Host → List ℕ → List ℕ → List ℕ → List ℕ → Bytes → LineResult
due_in h mem rows area groups line = if whole h.draft mem rows area groups then answer_line (host_of h mem rows) line else refused_line (host_of h mem rows) 2

-- what a line did that answers so many items, or is refused, and leaves the host h
abbrev pub told : Host → Result ℕ Refusal → Result LineTaken Refusal
told h (Ok n) = Ok (record { host = h; count = n })
told h (Err r) = Err r

-- a line that is refused leaves the host as it was
abbrev pub Stays : Host → Result ℕ Refusal → Host → Type 0
Stays h (Ok n) h' = Unit {0}
Stays h (Err r) h' = h' ≡ h

-- the line done, and its text at the start of out, which has room for any; words of groups are free
pub record AnswersEvent (h : Host) (mem rows area groups : List ℕ) (n : ℕ) (line out : Bytes) (r : LineAnswer) (h' : Host) (mem' rows' area' groups' : List ℕ) (out' : Bytes) : Type 0 where
  pub acts : LineFollows (due h mem rows area groups out line) h mem rows area (told h' r.acted) mem' rows' area'
  pub stays : Stays h r.acted h'
  pub text : 65536 ≤ length out → Wrote out 0 (text_of n (due h mem rows area groups out line).outcome) 65536 r.end out'
  pub silent : length out < 65536 → (r.end ≡ 0) × (out' ≡ out)
  pub groups_size : length groups' ≡ length groups
