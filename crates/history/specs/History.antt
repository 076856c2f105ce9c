-- Trusted: demand 3, its terms: what the table is fed by a list of calls, and when two lists are alike for the figure.
use Rattle.std.specs.Prelude.{ℕ, Bool, true, false, ◌&&◌, not, ◌≡◌, ◌↔◌}
use mathlib.Core.List.{List, [], ◌∷◌, ◌++◌, Mem}
use Rattle.bodega.specs.Replica.{Replica, fresh, Call, Heartbeat, Guard, Prepared, Record, Reply, Notice, CommitNotice, Bars, Read, Release}
use Rattle.bodega.specs.Step.{Event, step_of, after, is_taken, run}
use Rattle.history.specs.Table.{Table, Fed, fresh_table, feed, feed_all, adopts, raises}

-- each call of the list, and whether the replica took it
unfoldable pub history : Replica → List Event → List Fed
history r [] = []
history r (e ∷ es) = record { call = e.call; taken = is_taken (step_of r e) } ∷ history (after r (step_of r e)) es

-- an adoption or a raised ballot
abbrev pub changes : Table → Call → Bool
changes t (Heartbeat peer ballot conf commit exec snap) = adopts t peer ballot conf
changes t (Guard peer number bar) = false
changes t (Prepared ballot) = false
changes t (Record slot ballot reqs) = false
changes t (Reply peer slot ballot) = false
changes t (Notice peer slot ballot) = raises t slot ballot
changes t (CommitNotice peer ballot bar) = false
changes t (Bars start accept commit exec) = false
changes t (Read leases q) = false
changes t (Release slot) = false

-- none of the calls taken is one
unfoldable pub quiet : Table → List Fed → Bool
quiet t [] = true
quiet t (f ∷ fs) = not (f.taken && changes t f.call) && quiet (feed t f) fs

-- the same set of accepted guards, order and repeats aside
abbrev pub accepted : ℕ → ℕ → ℕ → Fed
accepted peer number bar = record { call = Guard peer number bar; taken = true }

abbrev pub SameGuards : List Fed → List Fed → Type 0
SameGuards a b = (peer number bar : ℕ) → Mem (accepted peer number bar) a ↔ Mem (accepted peer number bar) b

-- ---- demand 3

-- the replica, what the table was fed, and the table, after a list of calls from a fresh replica
module _ (id population quorum : ℕ) where
  abbrev pub replica_after : List Event → Replica
  replica_after es = run (fresh id population quorum) es

  abbrev pub fed_by : List Event → List Fed
  fed_by es = history (fresh id population quorum) es

  abbrev pub table_after : List Event → Table
  table_after es = feed_all (fresh_table id population quorum) (fed_by es)

-- After every list of calls, refused ones included, the reading bar is the table's figure.
abbrev pub FigureStands : Type 0
FigureStands = (id population quorum : ℕ) (es : List Event) → (replica_after id population quorum es).peer_accept.max ≡ (table_after id population quorum es).figure

-- Two lists that agree up to some point in arguments and in which calls were taken; after it the same set of accepted
-- guards, and no adoption or raised ballot.
pub record Alike (id population quorum : ℕ) (before₁ after₁ before₂ after₂ : List Event) : Type 0 where
  pub agree : fed_by id population quorum before₁ ≡ fed_by id population quorum before₂
  pub guards : SameGuards (history (replica_after id population quorum before₁) after₁) (history (replica_after id population quorum before₂) after₂)
  pub quiet₁ : quiet (table_after id population quorum before₁) (history (replica_after id population quorum before₁) after₁) ≡ true
  pub quiet₂ : quiet (table_after id population quorum before₂) (history (replica_after id population quorum before₂) after₂) ≡ true

-- They end with the same figure.
abbrev pub OrderFree : Type 0
OrderFree = (id population quorum : ℕ) (before₁ after₁ before₂ after₂ : List Event) → Alike id population quorum before₁ after₁ before₂ after₂
    → (replica_after id population quorum (before₁ ++ after₁)).peer_accept.max ≡ (replica_after id population quorum (before₂ ++ after₂)).peer_accept.max
