-- Bridge: what the functions of the node line and of the draft leave; tied to `answer_line` by line_event/proofs/Laws.
use Rattle.std.specs.Prelude.{◌≡◌, Bool, true, false, List, ℕ, length, Result, Err}
use Rattle.words.specs.Part.{Untouched}
use Rattle.ids.specs.declared.Refusal.{Refusal}
use Rattle.ids.specs.declared.Refusal.TheVariants.{Malformed, NotReady}
use Rattle.layout.specs.Layout.{node_words}
use Rattle.roster_conf.specs.declared.RespondersConf.{RespondersConf}
use Rattle.roster_show.specs.Show.{Listing, listing}
use Rattle.bodega.specs.Replica.{fresh}
use Rattle.bodega.specs.Answers.{Given}
use Rattle.node.specs.declared.Node.{Node}
use Rattle.node.specs.declared.Taken.{Taken}
use Rattle.node.specs.View.{view, ready, in_range, given_of}

-- ---- show: where no node is made the population is 0

pub record ShowsLine (good : Bool) (population : ℕ) (c : RespondersConf) (rows area : List ℕ) (r : Result ℕ Refusal) (area' : List ℕ) : Type 0 where
  pub bad : good ≡ false → (r ≡ Err Malformed) × (area' ≡ area)
  pub unmade : good ≡ true → population ≡ 0 → (r ≡ Err NotReady) × (area' ≡ area)
  pub well : good ≡ true → (population ≡ 0 → ⊥) → ◌≡◌ {A = Listing} (record { answer = r; area = area' }) (listing c rows area)

-- ---- the node line

pub record Refuses (n : ℕ) (node : Node) (mem : List ℕ) (a : Result Taken Refusal) (mem' : List ℕ) : Type 0 where
  pub answer : given_of node a ≡ record { number = n; count = 0; node = node }
  pub same_mem : mem' ≡ mem

pub record Makes (id population quorum : ℕ) (mem : List ℕ) (g : Given Node) (mem' : List ℕ) : Type 0 where
  pub number : g.number ≡ 0
  pub count : g.count ≡ 0
  pub replica : view g.node mem' ≡ fresh id population quorum
  pub readied : ready g.node mem' ≡ true
  pub size : length mem' ≡ length mem
  pub beyond : Untouched node_words mem mem'

-- by whether population, quorum and own number are in range
abbrev pub BeginsBy : Bool → ℕ → ℕ → ℕ → Node → List ℕ → Result Taken Refusal → List ℕ → Type 0
BeginsBy true id population quorum node mem a mem' = Makes id population quorum mem (given_of node a) mem'
BeginsBy false id population quorum node mem a mem' = Refuses 2 node mem a mem'

pub record BeginsLine (good : Bool) (id population quorum : ℕ) (node : Node) (mem : List ℕ) (a : Result Taken Refusal) (mem' : List ℕ) : Type 0 where
  pub bad : good ≡ false → Refuses 1 node mem a mem'
  pub second : good ≡ true → ready node mem ≡ true → Refuses 2 node mem a mem'
  pub first : good ≡ true → ready node mem ≡ false → BeginsBy (in_range id population quorum) id population quorum node mem a mem'
