-- Trusted: document 01, "A fresh node has ballot 0, no leader, no slots": `Node::fresh`, or 2.
use Rattle.std.specs.Prelude.{◌≡◌, Bool, true, false, ◌&&◌, List, [], ℕ, leb, length, replicate, Result, Ok, Err}
use Rattle.words.specs.Part.{part, Untouched}
use Rattle.ids.specs.Limits.{beyond}
use Rattle.layout.specs.Layout.{replica_places, bars_at, written_words, execs_at, written_at}
use Rattle.highest_slot.specs.Written.{written_of}
use Rattle.bodega.specs.Replica.{fresh}
use Rattle.node.specs.declared.Node.{Node}
use Rattle.ids.specs.declared.Refusal.{Refusal}
use Rattle.ids.specs.Refusal.{number_of}
use Rattle.node.specs.View.{size, view, in_range, ready}

-- no guard and no exec bar heard, no key written
pub record Reset (before after : List ℕ) : Type 0 where
  pub nums : part after 0 replica_places ≡ replicate replica_places 0
  pub bars : part after bars_at replica_places ≡ replicate replica_places beyond
  pub execs : part after execs_at replica_places ≡ replicate replica_places 0
  pub written : written_of (part after written_at written_words) ≡ []
  pub rest : Untouched size before after

-- the node and the buffer stand for a fresh replica; what lies past the buffer's tables is as it was
pub record Stands (id population quorum : ℕ) (before : List ℕ) (n : Node) (after : List ℕ) : Type 0 where
  pub replica : view n after ≡ fresh id population quorum
  pub readied : ready n after ≡ true
  pub beyond : Untouched size before after

abbrev pub Gives : Bool → ℕ → ℕ → ℕ → List ℕ → Result Node Refusal → List ℕ → Type 0
Gives true id population quorum before (Ok n) after = Stands id population quorum before n after
Gives true id population quorum before (Err r) after = ⊥
Gives false id population quorum before (Ok n) after = ⊥
Gives false id population quorum before (Err r) after = (number_of r ≡ 2) × (after ≡ before)

abbrev pub Begins : ℕ → ℕ → ℕ → List ℕ → Result Node Refusal → List ℕ → Type 0
Begins id population quorum before r after = Gives (leb size (length before) && in_range id population quorum) id population quorum before r after
