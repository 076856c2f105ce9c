-- Trusted: document 01, "Strength of the statements", 1: the one statement that every public call of the code meets,
-- for a node and a lent buffer that stand for a replica by `view`.
use Rattle.std.specs.Prelude.{◌≡◌, Bool, true, List, ℕ, length, if◌then◌else◌}
use Rattle.words.specs.Writes.{writes}
use Rattle.words.specs.Part.{Untouched}
use Rattle.layout.specs.Layout.{node_words}
use Rattle.items.specs.Item.{Item, encode, places}
use Rattle.bodega.specs.Replica.{Replica, Call}
use Rattle.bodega.specs.Step.{Step, Refused, Taken, step}

-- what a call gives back: the number of a refusal or 0, the number of its items, the node
pub record Given (Node : Type 0) : Type 0 where
  pub number : ℕ
  pub count : ℕ
  pub node : Node

module _ {Node : Type 0} (ready : Node → List ℕ → Bool) (view : Node → List ℕ → Replica) where
  -- refusal 2 where the buffer is too short or the node is none that a call made; else what the machine does at what
  -- they stand for
  unfoldable pub due : Call → Node → List ℕ → List ℕ → Step
  due c node mem area = if ready node mem then step (view node mem) c (places area) else Refused 2

  -- a refusal changes nothing
  pub record Refuses (n : ℕ) (node : Node) (mem area : List ℕ) (g : Given Node) (mem' area' : List ℕ) : Type 0 where
    pub number : g.number ≡ n
    pub count : g.count ≡ 0
    pub same_node : g.node ≡ node
    pub same_mem : mem' ≡ mem
    pub same_area : area' ≡ area

  -- the items stand at the start of the area, and all else in it is as it was, like the words past the node's; of those
  -- words only what the view does not see is free
  pub record Takes (s : Replica) (l : List Item) (mem area : List ℕ) (g : Given Node) (mem' area' : List ℕ) : Type 0 where
    pub number : g.number ≡ 0
    pub count : g.count ≡ length l
    pub next : view g.node mem' ≡ s
    pub items : area' ≡ writes area 0 (encode l)
    pub size : length mem' ≡ length mem
    pub beyond : Untouched node_words mem mem'
    pub ready_again : ready g.node mem' ≡ true

  abbrev pub Follows : Step → Node → List ℕ → List ℕ → Given Node → List ℕ → List ℕ → Type 0
  Follows (Refused n) node mem area g mem' area' = Refuses n node mem area g mem' area'
  Follows (Taken s l) node mem area g mem' area' = Takes s l mem area g mem' area'

  abbrev pub Answers : Call → Node → List ℕ → List ℕ → Given Node → List ℕ → List ℕ → Type 0
  Answers c node mem area g mem' area' = Follows (due c node mem area) node mem area g mem' area'

  -- ---- two that answer the same call of the same node, buffer and area give the same

  pub record Same (g h : Given Node) (mem₁ mem₂ area₁ area₂ : List ℕ) : Type 0 where
    pub number : g.number ≡ h.number
    pub count : g.count ≡ h.count
    pub next : view g.node mem₁ ≡ view h.node mem₂
    pub size : length mem₁ ≡ length mem₂
    pub beyond : Untouched node_words mem₁ mem₂
    pub area : area₁ ≡ area₂

  abbrev pub Determined : Type 0
  Determined = (c : Call) (node : Node) (mem area : List ℕ) (g h : Given Node) (mem₁ mem₂ area₁ area₂ : List ℕ)
      → Answers c node mem area g mem₁ area₁ → Answers c node mem area h mem₂ area₂ → Same g h mem₁ mem₂ area₁ area₂
