-- Trusted: demand 3 of the code: the ten calls, by the statement of `apply`, from a node that `Node::fresh` made.
use Rattle.std.specs.Prelude.{◌≡◌, true, List, [], ◌∷◌, ◌++◌, ℕ}
use Rattle.ids.specs.declared.Slot.{Slot}
use Rattle.bodega.specs.Replica as machine
use Rattle.bodega.specs.Answers.{Answers}
use Rattle.history.specs.Table.{Fed, fresh_table, feed_all}
use Rattle.history.specs.History.{SameGuards, quiet}
use Rattle.history.specs.Made.{fed_of}
use Rattle.node.specs.declared.Node.{Node}
use Rattle.node.specs.View.{view, ready, given_of}
use Rattle.node.specs.Begins.{Begins}
use Rattle.call_apply.specs.declared.Call.{Call}
use Rattle.call_apply.specs.Call.{call_of, ready_for}
use Rattle.std.specs.Prelude.{Result, Ok}
use Rattle.ids.specs.declared.Refusal.{Refusal}
use Rattle.node.specs.declared.Taken.{Taken}

-- what the table is fed: the call's arguments, and whether it answered "taken"
abbrev pub fed : machine.Call → Node → Result Taken Refusal → Fed
fed c node r = fed_of ready view c (given_of node r)

-- any of the ten calls, refused ones included, in any order: each gets the node and its lent buffer as the last one
-- left them, and an answer area of its own
pub data CallList : Node → List ℕ → List Fed → Node → List ℕ → Type 0 where
  none : {node : Node} {mem : List ℕ} → CallList node mem [] node mem
  applied : {node last : Node} {mem end : List ℕ} {fs : List Fed} (c : Call) (rows text : List ℕ) (area area' mem' : List ℕ) (r : Result Taken Refusal)
      → Answers (ready_for c rows) view (call_of c rows text) node mem area (given_of node r) mem' area' → CallList (given_of node r).node mem' fs last end
      → CallList node mem (fed (call_of c rows text) node r ∷ fs) last end

-- a list of calls from a node that `Node::fresh` made, and what `Node::reading_bar` gives of the node that it leaves
pub record CallHistory (id population quorum : ℕ) (fs : List Fed) (bar : Slot) : Type 0 where
  pub first : Node
  pub last : Node
  pub before : List ℕ
  pub begin : List ℕ
  pub end : List ℕ
  pub begins : Begins id population quorum before (Ok first) begin
  pub called : CallList first begin fs last end
  pub shows : bar ≡ last.peer_accept_max

-- The reading bar equals the table's figure.
abbrev pub ReadingBarStands : Type 0
ReadingBarStands = (id population quorum : ℕ) (fs : List Fed) (bar : Slot) → CallHistory id population quorum fs bar → bar.0 ≡ (feed_all (fresh_table id population quorum) fs).figure

-- Two lists that agree up to some point in arguments and in which calls were taken; after it the same set of accepted
-- guards, and no adoption or raised ballot: the same reading bar.
abbrev pub ReadingBarOrderFree : Type 0
ReadingBarOrderFree = (id population quorum : ℕ) (before rest₁ rest₂ : List Fed) (bar₁ bar₂ : Slot) → CallHistory id population quorum (before ++ rest₁) bar₁ → CallHistory id population quorum (before ++ rest₂) bar₂
    → SameGuards rest₁ rest₂ → quiet (feed_all (fresh_table id population quorum) before) rest₁ ≡ true → quiet (feed_all (fresh_table id population quorum) before) rest₂ ≡ true
    → bar₁.0 ≡ bar₂.0
