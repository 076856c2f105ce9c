-- Trusted: the node and a roster as plain structs, for a caller that has no enums.
use Rattle.std.specs.Prelude.{◌≡◌, ℕ, Bool, true, false, ◌&&◌, List, length, eqb, leb, if◌then◌else◌}
use Rattle.roster_conf.specs.declared.RespondersConf.{RespondersConf}
use Rattle.node.specs.declared.Node.{Node}
use Rattle.bodega.specs.Answers.{Given}
use Rattle.export_plain.specs.declared.Plain.{Plain}
use Rattle.export_plain.specs.declared.PlainAnswered.{PlainAnswered}
use Rattle.export_plain.specs.declared.Roster.{Roster}
use Rattle.std.specs.Prelude.{Option, Some, None}
use Rattle.ids.specs.declared.Replica.{Replica}
use Rattle.std.specs.Prelude.{Result, Ok, Err}
use Rattle.ids.specs.declared.Refusal.{Refusal}
use Rattle.ids.specs.Refusal.{number_of}
use Rattle.node.specs.View.{size, in_range}
use Rattle.node.specs.Begins.{Stands}
use Rattle.node.specs.declared.Taken.{Taken}

abbrev pub leader_at : ℕ → ℕ → Option Replica
leader_at has l = if eqb has 0 then None else Some (record { 0 = l })

abbrev pub has_leader : Option Replica → ℕ
has_leader None = 0
has_leader (Some r) = 1

abbrev pub leader_in : Option Replica → ℕ
leader_in None = 0
leader_in (Some r) = r.0

abbrev pub conf_of : Roster → RespondersConf
conf_of r = record { leader = leader_at r.has_leader r.leader; count = r.ranges; default = r.default }

abbrev pub node_with : Option Replica → Plain → Node
node_with l p =
    record {
      id = record { 0 = p.id };
      population = p.population;
      quorum = p.quorum;
      bodega_conf = record { leader = l; count = p.ranges; default = p.default };
      bal_max_seen = record { 0 = p.bal_max_seen };
      bal_prep_sent = record { 0 = p.bal_prep_sent };
      bal_prepared = record { 0 = p.bal_prepared };
      start_slot = record { 0 = p.start_slot };
      accept_bar = record { 0 = p.accept_bar };
      commit_bar = record { 0 = p.commit_bar };
      exec_bar = record { 0 = p.exec_bar };
      snap_bar = record { 0 = p.snap_bar };
      peer_accept_max = record { 0 = p.peer_accept_max };
      slots = p.slots;
    }

abbrev pub node_of : Plain → Node
node_of p = node_with (leader_at p.has_leader p.leader) p

abbrev pub plain_of : Node → Plain
plain_of n =
    record {
      id = n.id.0;
      population = n.population;
      quorum = n.quorum;
      leader = leader_in n.bodega_conf.leader;
      has_leader = has_leader n.bodega_conf.leader;
      ranges = n.bodega_conf.count;
      default = n.bodega_conf.default;
      bal_max_seen = n.bal_max_seen.0;
      bal_prep_sent = n.bal_prep_sent.0;
      bal_prepared = n.bal_prepared.0;
      start_slot = n.start_slot.0;
      accept_bar = n.accept_bar.0;
      commit_bar = n.commit_bar.0;
      exec_bar = n.exec_bar.0;
      snap_bar = n.snap_bar.0;
      peer_accept_max = n.peer_accept_max.0;
      slots = n.slots;
    }

-- all fields are 0
abbrev pub no_node : Plain
no_node =
    record {
      id = 0;
      population = 0;
      quorum = 0;
      leader = 0;
      has_leader = 0;
      ranges = 0;
      default = 0;
      bal_max_seen = 0;
      bal_prep_sent = 0;
      bal_prepared = 0;
      start_slot = 0;
      accept_bar = 0;
      commit_bar = 0;
      exec_bar = 0;
      snap_bar = 0;
      peer_accept_max = 0;
      slots = 0;
    }

-- ---- what the functions give

-- a number other than 0 is a refusal's: the node that was handed in; whatever it is, it goes through, and the count too
abbrev pub answered_by : Plain → ℕ → ℕ → Node → PlainAnswered
answered_by p number count n = record { number = number; count = count; node = if eqb number 0 then plain_of n else p }

-- where a call is refused, the number, no items, and the node that was handed in
abbrev pub answered_of : Plain → Result Taken Refusal → PlainAnswered
answered_of p (Ok t) = record { number = 0; count = t.count; node = plain_of t.node }
answered_of p (Err r) = record { number = number_of r; count = 0; node = p }

unfoldable pub begun_by : Result Node ℕ → PlainAnswered
begun_by (Ok n) = record { number = 0; count = 0; node = plain_of n }
begun_by (Err number) = record { number = number; count = 0; node = no_node }

unfoldable pub begun_of : Result Node Refusal → PlainAnswered
begun_of (Ok n) = record { number = 0; count = 0; node = plain_of n }
begun_of (Err r) = record { number = number_of r; count = 0; node = no_node }

-- ---- read back

abbrev pub given : PlainAnswered → Given Node
given r = record { number = r.number; count = r.count; node = node_of r.node }

-- `Node::fresh`: 0 and a fresh node, or 2
abbrev pub BeginsIf : Bool → ℕ → ℕ → ℕ → List ℕ → PlainAnswered → List ℕ → Type 0
BeginsIf true id population quorum before r after = (r.number ≡ 0) × Stands id population quorum before (node_of r.node) after
BeginsIf false id population quorum before r after = (r.number ≡ 2) × (after ≡ before)

abbrev pub Begins : ℕ → ℕ → ℕ → List ℕ → PlainAnswered → List ℕ → Type 0
Begins id population quorum before r after = BeginsIf (leb size (length before) && in_range id population quorum) id population quorum before r after

-- No field is free: a call that is taken gives what `plain_of` makes of its node, one that is refused what it was
-- handed.
unfoldable pub GivesBack : Plain → PlainAnswered → Type 0
GivesBack p r = r.node ≡ (if eqb r.number 0 then plain_of (node_of r.node) else p)
