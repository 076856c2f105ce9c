-- Bridge: what a part of a call does: the machine's replica and items, the items from a place of the area on, up to
-- the next place r; tied to
-- `Answers` by call_heartbeat/proofs/Call.
use Rattle.std.specs.Prelude.{◌≡◌, Bool, true, List, ℕ, ◌+◌, ◌*◌, length}
use Rattle.words.specs.Writes.{writes}
use Rattle.words.specs.Part.{Untouched}
use Rattle.layout.specs.Layout.{node_words}
use Rattle.items.specs.Item.{encode}
use Rattle.bodega.specs.Replica.{Done}
use Rattle.roster_conf.specs.Edits.{holds_rows}
use Rattle.node.specs.declared.Node.{Node}
use Rattle.node.specs.View.{view, ready}

pub record Does (d : Done) (place : ℕ) (mem area : List ℕ) (n : Node) (r : ℕ) (mem' area' : List ℕ) : Type 0 where
  pub count : r ≡ place + length d.items
  pub next : view n mem' ≡ d.replica
  pub items : area' ≡ writes area (place * 6) (encode d.items)
  pub size : length mem' ≡ length mem
  pub beyond : Untouched node_words mem mem'
  pub ready_again : ready n mem' ≡ true

-- a roster that can stand in a node: at most 64 ranges, in rows that are all there
abbrev pub whole : ℕ → List ℕ → Bool
whole count rows = holds_rows (length rows) count
