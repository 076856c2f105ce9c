-- Trusted: localread.rs, the commit condition, the highest slots, and reads at a responder (document 01, port order 4
-- and 8).
use Rattle.std.specs.Prelude.{ℕ, zero, suc, ◌+◌, max, Bool, true, false, ◌&&◌, ◌||◌, not, List, [], ◌∷◌, ◌++◌, map, ltb, leb, eqb, if◌then◌else◌}
use Rattle.std.specs.Prelude.{Option, None, Some}
use Rattle.words.specs.Text.{Bytes}
use Rattle.words.specs.Choice.{if_none◌then◌else◌}
use Rattle.keys.specs.Same.{same_bytes}
use Rattle.bitmap.specs.Bitmap.{count, is_superset}
use Rattle.roster_conf.specs.Conf.{Conf, get_responders_by_key}
use Rattle.items.specs.Item.{Item, Value, Retry}
use Rattle.bodega.specs.Replica.{Command, Get, Put, Request, ReadReq, Instance, Highest, Replica, Done, done, ◌and_then◌, order, is_accepting, is_open, with_replica_bk, with_holding, is_leader, inst_at, set_inst}

-- ---- `is_stable_leader`; `sim_read_lease` is false

unfoldable pub is_stable_leader : Replica → ℕ → Bool
is_stable_leader r leases =
    is_leader r && ltb 0 r.bal.prepared
    && (eqb r.bal.max_seen r.bal.prepared && leb r.me.quorum leases && leb r.peer_accept.max r.bar.commit)

-- ---- `commit_condition`

-- `write_key`: a Put's key
abbrev pub is_put : Command → Bool
is_put Get = false
is_put (Put v) = true

-- every responder of the request's written key has acked; a key that does not read asks nothing
abbrev pub acked : Conf → ℕ → Request → Bool
acked c acks q = if is_put q.command then (if_none get_responders_by_key c q.key then true else λ m. is_superset acks m) else true

abbrev pub all_acked : Conf → ℕ → List Request → Bool
all_acked c acks [] = true
all_acked c acks (q ∷ qs) = acked c acks q && all_acked c acks qs

unfoldable pub commit_condition : ℕ → List Request → ℕ → Conf → Bool
commit_condition acks reqs quorum c = if ltb (count acks) quorum then false else all_acked c acks reqs

-- ---- `refresh_highest_slot`: keys are compared as bytes

unfoldable pub raise : ℕ → Bytes → List Highest → List Highest
raise slot key [] = record { key = key; slot = slot } ∷ []
raise slot key (h ∷ hs) = if same_bytes h.key key then record { key = h.key; slot = max slot h.slot } ∷ hs else h ∷ raise slot key hs

unfoldable pub refresh_highest_slot : ℕ → List Request → List Highest → List Highest
refresh_highest_slot slot [] hs = hs
refresh_highest_slot slot (q ∷ qs) hs = refresh_highest_slot slot qs (if is_put q.command then raise slot q.key hs else hs)

unfoldable pub highest_of : Bytes → List Highest → Option ℕ
highest_of key [] = None
highest_of key (h ∷ hs) = if same_bytes h.key key then Some h.slot else highest_of key hs

-- ---- `inspect_highest_slot`, `inspect_latest_write`

-- Committed or later, or Accepting with a quorum of notices
unfoldable pub is_bound : ℕ → Instance → Bool
is_bound quorum i =
    if is_accepting i.status then (if_none i.replica_bk then false else λ b. leb quorum (count b.notices))
    else not (is_open i.status)

-- the value of the last Put of a key in a batch
abbrev pub put_of : Bytes → Request → Command → Option ℕ
put_of key q Get = None
put_of key q (Put v) = if same_bytes q.key key then Some v else None

unfoldable pub last_put : Bytes → List Request → Option ℕ
last_put key [] = None
last_put key (q ∷ qs) = if_none last_put key qs then put_of key q q.command else λ v. Some v

-- The condition that settles a read, in the order in which the Rust comes to them.
pub data Settled : Type 0 where
  -- the replica is a stable leader
  StableLeader : Settled
  -- the leases are fewer than the quorum; the key does not read
  FewLeases UnreadKey : Settled
  -- the replica is not in the mask of the stored range, or of the default
  StoredRange DefaultRoster : Settled
  -- the reading bar is above the commit bar
  Bar : Settled
  -- no slot at start or above wrote the key
  NoSlot : Settled
  -- the slot that wrote it last is below Accepting; it is Accepting, without a quorum of notices
  SlotStatus Notices : ℕ → Settled
  -- the value of its last Put of the key; it has none
  FoundPut : ℕ → Settled
  MissingPut : ℕ → Settled

-- the highest slot of a key, where it is not below start
abbrev pub last_written : Replica → Bytes → Option ℕ
last_written r key = if_none highest_of key r.highest_slot then None else λ slot. if ltb slot r.bar.start then None else Some slot

unfoldable pub inspect_highest_slot : Replica → Bytes → ℕ → Settled
inspect_highest_slot r key slot =
    if_none inst_at r slot then SlotStatus slot else λ i.
    if ltb (order i.status) 2 then SlotStatus slot else
    if not (is_bound r.me.quorum i) then Notices slot else
    if_none last_put key i.reqs then MissingPut slot else FoundPut

unfoldable pub inspect_latest_write : Replica → Bytes → Settled
inspect_latest_write r key = if_none last_written r key then NoSlot else inspect_highest_slot r key

-- ---- `read_on_stable_leader`, `read_on_good_responder`, `read_on_improper_node`

-- what a read gets: value, absent, store, pass, hold, retry
pub data ReadAnswer : Type 0 where
  Found : ℕ → ReadAnswer
  Missing FromStore Consensus : ReadAnswer
  HeldBy : ℕ → ReadAnswer
  Again : ReadAnswer

-- a read waits where the slot is Accepting and has a notice book
abbrev pub waits : Instance → Bool
waits i = is_accepting i.status && (if_none i.replica_bk then false else λ b. true)

abbrev pub waits_at : Replica → ℕ → ReadAnswer
waits_at r slot = if_none inst_at r slot then Again else λ i. if waits i then HeldBy slot else Again

-- a prepared leader leaves the read to ordinary consensus
abbrev pub improper : Replica → ReadAnswer
improper r = if not (is_leader r) || eqb r.bal.prepared 0 then Again else Consensus

abbrev pub answer_of : Replica → Settled → ReadAnswer
answer_of r StableLeader = FromStore
answer_of r FewLeases = improper r
answer_of r UnreadKey = improper r
answer_of r StoredRange = improper r
answer_of r DefaultRoster = improper r
answer_of r Bar = improper r
answer_of r NoSlot = if eqb r.bar.start 0 then Missing else FromStore
answer_of r (SlotStatus slot) = Again
answer_of r (Notices slot) = waits_at r slot
answer_of r (FoundPut v) = Found v
answer_of r (MissingPut slot) = waits_at r slot

-- the read at the end of a slot's queue
unfoldable pub hold_read : ℕ → ReadReq → Replica → Replica
hold_read slot q r =
    if_none inst_at r slot then r else λ i.
    if_none i.replica_bk then r else λ b.
    set_inst slot (with_replica_bk (with_holding (b.holding ++ (q ∷ [])) b) i) r

-- ---- `release_held_read_reqs`

abbrev pub retry : Replica → ReadReq → Item
retry r q = Retry q.client q.request r.conf.leader

abbrev pub released : Replica → Instance → ReadReq → Item
released r i q =
    if not (is_bound r.me.quorum i) then retry r q else
    if_none last_put q.key i.reqs then retry r q else λ v. Value q.client q.request v

unfoldable pub release_held_read_reqs : ℕ → Replica → Done
release_held_read_reqs slot r =
    if_none inst_at r slot then done r [] else λ i.
    if_none i.replica_bk then done r [] else λ b.
    done (set_inst slot (with_replica_bk (with_holding [] b) i) r) (map (released r i) b.holding)

-- n slots, one after the other
unfoldable pub release_from : ℕ → ℕ → Replica → Done
release_from zero slot r = done r []
release_from (suc n) slot r = release_held_read_reqs slot r and_then release_from n (slot + 1)
