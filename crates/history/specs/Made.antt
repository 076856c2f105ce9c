-- Trusted: demand 3 for code: any functions that meet `Answers`, called one after the other.
use Rattle.std.specs.Prelude.{◌≡◌, Bool, true, ◌&&◌, List, [], ◌∷◌, ◌++◌, ℕ, eqb}
use Rattle.bodega.specs.Replica.{Replica, fresh, Call}
use Rattle.bodega.specs.Answers.{Given, Answers}
use Rattle.history.specs.Table.{Fed, fresh_table, feed_all}
use Rattle.history.specs.History.{SameGuards, quiet}

module _ {Node : Type 0} (ready : Node → List ℕ → Bool) (view : Node → List ℕ → Replica) where
  -- what the table is fed: the call's arguments, and whether it answered "taken"
  abbrev pub fed_of : Call → Given Node → Fed
  fed_of c g = record { call = c; taken = eqb g.number 0 }

  -- each call gets the node and its lent buffer as the last one left them, and an answer area of its own; nobody else
  -- writes them meanwhile
  pub data Made : Node → List ℕ → List Fed → Node → List ℕ → Type 0 where
    none : {node : Node} {mem : List ℕ} → Made node mem [] node mem
    call : {node last : Node} {mem mem' end : List ℕ} {fs : List Fed} (c : Call) (area area' : List ℕ) (g : Given Node) → Answers ready view c node mem area g mem' area'
        → Made g.node mem' fs last end → Made node mem (fed_of c g ∷ fs) last end
    -- a call that is also lent a roster, whole or not
    call_with : {node last : Node} {mem mem' end : List ℕ} {fs : List Fed} (whole : Bool) (c : Call) (area area' : List ℕ) (g : Given Node)
        → Answers (λ n m. ready n m && whole) view c node mem area g mem' area' → Made g.node mem' fs last end → Made node mem (fed_of c g ∷ fs) last end

  -- a list of calls from a node and a buffer that stand for a fresh replica, and the reading bar that it leaves
  pub record CodeHistory (id population quorum : ℕ) (fs : List Fed) (bar : ℕ) : Type 0 where
    pub first : Node
    pub last : Node
    pub begin : List ℕ
    pub end : List ℕ
    pub stands : view first begin ≡ fresh id population quorum
    pub made : Made first begin fs last end
    pub shows : bar ≡ (view last end).peer_accept.max

  -- Whatever a list of calls leaves shows the table's figure as the reading bar.
  abbrev pub CodeFigureStands : Type 0
  CodeFigureStands = (id population quorum : ℕ) (fs : List Fed) (bar : ℕ) → CodeHistory id population quorum fs bar → bar ≡ (feed_all (fresh_table id population quorum) fs).figure

  -- Two lists that agree up to some point; after it the same set of accepted guards, and no adoption or raised ballot:
  -- the same reading bar.
  abbrev pub CodeOrderFree : Type 0
  CodeOrderFree = (id population quorum : ℕ) (before rest₁ rest₂ : List Fed) (bar₁ bar₂ : ℕ) → CodeHistory id population quorum (before ++ rest₁) bar₁ → CodeHistory id population quorum (before ++ rest₂) bar₂
      → SameGuards rest₁ rest₂ → quiet (feed_all (fresh_table id population quorum) before) rest₁ ≡ true → quiet (feed_all (fresh_table id population quorum) before) rest₂ ≡ true
      → bar₁ ≡ bar₂
