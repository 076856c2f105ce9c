-- A node as a plain struct and back.
use mathlib.Core.Path.{◌≡◌, refl, ap}
use Rattle.node.specs.declared.Node.{Node}
use Rattle.export_plain.specs.Plain.{leader_at, has_leader, leader_in, node_with, node_of, plain_of}
use Rattle.std.specs.Prelude.{Option, Some, None}
use Rattle.ids.specs.declared.Replica.{Replica}

leader_back : (l : Option Replica) → leader_at (has_leader l) (leader_in l) ≡ l
leader_back None = refl
leader_back (Some r) = refl

pub back : (n : Node) → node_of (plain_of n) ≡ n
back n = ap (λ (l : Option Replica). node_with l (plain_of n)) (leader_back n.bodega_conf.leader)
