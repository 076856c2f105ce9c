-- Trusted: mod.rs, what a replica holds, the calls that it takes and the items that it answers. Where the Rust has one
-- long struct the fields stand in groups: `bal_max_seen` is `.bal.max_seen`, `commit_bar` is `.bar.commit`,
-- `start_slot` is `.bar.start`, `peer_accept_max` is `.peer_accept.max`.
use Rattle.std.specs.Prelude.{ℕ, ◌+◌, ◌-◌, Bool, List, [], ◌++◌, ltb, eqb, length, replicate, set, if◌then◌else◌}
use Rattle.std.specs.Prelude.{Option, None, Some}
use Rattle.std.specs.Prelude.{slice_get}
use Rattle.words.specs.Text.{Bytes}
use Rattle.ids.specs.Limits.{beyond}
use Rattle.items.specs.Item.{Item}
use Rattle.roster_conf.specs.Conf.{Conf, empty, leads}

-- ---- requests and reads

pub data Command : Type 0 where
  Get : Command
  Put : ℕ → Command

pub record Request : Type 0 where
  pub client : ℕ
  pub request : ℕ
  pub key : Bytes
  pub command : Command

-- a read, as it is held
pub record ReadReq : Type 0 where
  pub client : ℕ
  pub request : ℕ
  pub key : Bytes

-- ---- slots

pub data Status : Type 0 where
  Null Preparing Accepting Committed Executed : Status

abbrev pub order : Status → ℕ
order Null = 0
order Preparing = 1
order Accepting = 2
order Committed = 3
order Executed = 4

-- `status < Committed`, `status == Accepting`
abbrev pub is_open : Status → Bool
is_open s = ltb (order s) 3

abbrev pub is_accepting : Status → Bool
is_accepting s = eqb (order s) 2

-- `ReplicaBookkeeping`: the notices of a ballot, and the reads that wait
pub record Book : Type 0 where
  pub bal : ℕ
  pub notices : ℕ
  pub holding : List ReadReq

abbrev pub new_book : Book
new_book = record { bal = 0; notices = 0; holding = [] }

-- `leader_bk` is the mask of accept acks
pub record Instance : Type 0 where
  pub bal : ℕ
  pub status : Status
  pub reqs : List Request
  pub leader_bk : Option ℕ
  pub replica_bk : Option Book

abbrev pub null_instance : Instance
null_instance = record { bal = 0; status = Null; reqs = []; leader_bk = None; replica_bk = None }

abbrev pub with_status : Status → Instance → Instance
with_status s i = record { bal = i.bal; status = s; reqs = i.reqs; leader_bk = i.leader_bk; replica_bk = i.replica_bk }

abbrev pub with_leader_bk : ℕ → Instance → Instance
with_leader_bk m i = record { bal = i.bal; status = i.status; reqs = i.reqs; leader_bk = Some m; replica_bk = i.replica_bk }

abbrev pub with_replica_bk : Book → Instance → Instance
with_replica_bk b i = record { bal = i.bal; status = i.status; reqs = i.reqs; leader_bk = i.leader_bk; replica_bk = Some b }

abbrev pub with_holding : List ReadReq → Book → Book
with_holding l b = record { bal = b.bal; notices = b.notices; holding = l }

-- ---- the replica

pub record Me : Type 0 where
  pub id : ℕ
  pub population : ℕ
  pub quorum : ℕ

pub record Ballots : Type 0 where
  pub max_seen : ℕ
  pub prep_sent : ℕ
  pub prepared : ℕ

pub record LogBars : Type 0 where
  pub start : ℕ
  pub accept : ℕ
  pub commit : ℕ
  pub exec : ℕ
  pub snap : ℕ

-- a guard's number and bar
pub record Pair : Type 0 where
  pub number : ℕ
  pub bar : ℕ

-- `bar` has a pair for each replica, the own one too
pub record PeerAccept : Type 0 where
  pub bar : List Pair
  pub max : ℕ

pub record Highest : Type 0 where
  pub key : Bytes
  pub slot : ℕ

-- `insts` are those of the slots from `start` on; of `peer_exec_bar` the own place is not read and stays 0
pub record Replica : Type 0 where
  pub me : Me
  pub bal : Ballots
  pub bar : LogBars
  pub peer_accept : PeerAccept
  pub peer_exec_bar : List ℕ
  pub conf : Conf
  pub insts : List Instance
  pub highest_slot : List Highest

abbrev pub pair : ℕ → ℕ → Pair
pair n b = record { number = n; bar = b }

abbrev pub fresh_pair : Pair
fresh_pair = pair 0 beyond

unfoldable pub fresh : ℕ → ℕ → ℕ → Replica
fresh id population quorum =
    record {
      me = record { id = id; population = population; quorum = quorum };
      bal = record { max_seen = 0; prep_sent = 0; prepared = 0 };
      bar = record { start = 0; accept = 0; commit = 0; exec = 0; snap = 0 };
      peer_accept = record { bar = replicate population fresh_pair; max = beyond };
      peer_exec_bar = replicate population 0;
      conf = empty;
      insts = [];
      highest_slot = [];
    }

-- a replica with one group changed
abbrev pub with_bal : Ballots → Replica → Replica
with_bal x r = record { me = r.me; bal = x; bar = r.bar; peer_accept = r.peer_accept; peer_exec_bar = r.peer_exec_bar; conf = r.conf; insts = r.insts; highest_slot = r.highest_slot }

abbrev pub with_bar : LogBars → Replica → Replica
with_bar x r = record { me = r.me; bal = r.bal; bar = x; peer_accept = r.peer_accept; peer_exec_bar = r.peer_exec_bar; conf = r.conf; insts = r.insts; highest_slot = r.highest_slot }

abbrev pub with_peer_accept : PeerAccept → Replica → Replica
with_peer_accept x r = record { me = r.me; bal = r.bal; bar = r.bar; peer_accept = x; peer_exec_bar = r.peer_exec_bar; conf = r.conf; insts = r.insts; highest_slot = r.highest_slot }

abbrev pub with_peer_exec_bar : List ℕ → Replica → Replica
with_peer_exec_bar x r = record { me = r.me; bal = r.bal; bar = r.bar; peer_accept = r.peer_accept; peer_exec_bar = x; conf = r.conf; insts = r.insts; highest_slot = r.highest_slot }

abbrev pub with_conf : Conf → Replica → Replica
with_conf x r = record { me = r.me; bal = r.bal; bar = r.bar; peer_accept = r.peer_accept; peer_exec_bar = r.peer_exec_bar; conf = x; insts = r.insts; highest_slot = r.highest_slot }

abbrev pub with_insts : List Instance → Replica → Replica
with_insts x r = record { me = r.me; bal = r.bal; bar = r.bar; peer_accept = r.peer_accept; peer_exec_bar = r.peer_exec_bar; conf = r.conf; insts = x; highest_slot = r.highest_slot }

abbrev pub with_highest_slot : List Highest → Replica → Replica
with_highest_slot x r = record { me = r.me; bal = r.bal; bar = r.bar; peer_accept = r.peer_accept; peer_exec_bar = r.peer_exec_bar; conf = r.conf; insts = r.insts; highest_slot = x }

abbrev pub with_max_seen : ℕ → Replica → Replica
with_max_seen b r = with_bal (record { max_seen = b; prep_sent = r.bal.prep_sent; prepared = r.bal.prepared }) r

abbrev pub with_snap : ℕ → Replica → Replica
with_snap s r = with_bar (record { start = r.bar.start; accept = r.bar.accept; commit = r.bar.commit; exec = r.bar.exec; snap = s }) r

-- `is_leader`
abbrev pub is_leader : Replica → Bool
is_leader r = leads r.conf r.me.id

-- the end of the held slots; the instance of a slot, where it is held
abbrev pub end : Replica → ℕ
end r = r.bar.start + length r.insts

unfoldable pub inst_at : Replica → ℕ → Option Instance
inst_at r slot = if ltb slot r.bar.start then None else slice_get r.insts (slot - r.bar.start)

unfoldable pub set_inst : ℕ → Instance → Replica → Replica
set_inst slot i r = with_insts (set r.insts (slot - r.bar.start) i) r

-- null slots up to and with this one
unfoldable pub pad : ℕ → Replica → Replica
pad slot r = with_insts (r.insts ++ replicate (slot + 1 - end r) null_instance) r

-- ---- the calls of demand 3

pub data Call : Type 0 where
  -- peer, ballot, roster, commit, exec and snap bar
  Heartbeat : ℕ → ℕ → Option Conf → ℕ → ℕ → ℕ → Call
  -- peer, number, bar
  Guard : ℕ → ℕ → ℕ → Call
  -- ballot
  Prepared : ℕ → Call
  -- slot, ballot, batch
  Record : ℕ → ℕ → List Request → Call
  -- peer, slot, ballot
  Reply : ℕ → ℕ → ℕ → Call
  Notice : ℕ → ℕ → ℕ → Call
  -- peer, ballot, bar
  CommitNotice : ℕ → ℕ → ℕ → Call
  -- start, accept, commit, exec
  Bars : ℕ → ℕ → ℕ → ℕ → Call
  -- leases, and the read
  Read : ℕ → ReadReq → Call
  -- slot
  Release : ℕ → Call

-- what a call leaves and answers
pub record Done : Type 0 where
  pub replica : Replica
  pub items : List Item

abbrev pub done : Replica → List Item → Done
done r l = record { replica = r; items = l }

-- one after the other
infixl 6 ◌and_then◌
abbrev pub ◌and_then◌ : Done → (Replica → Done) → Done
d and_then f = let e = f d.replica in done e.replica (d.items ++ e.items)
