-- No replica that calls reach holds more than document 01's limits.
use Prim.Native.Nat.{ℕ, zero, suc, ◌+◌, ◌-◌, ◌≤◌, ◌<◌}
use mathlib.Core.Bool.{false, ◌&&◌, ◌||◌, not}
use mathlib.Core.List.{List, [], ◌∷◌}
use Rattle.std.specs.Prelude.{Option, None, Some}
use mathlib.Core.Path.{◌≡◌, refl}
use native.Mathlib.Omega.{arith}
use lib.Dec.{ltb, leb, eqb}
use lib.ListN.{length, get_or, drop, set, replicate, length-append}
use borrow.Author.Tests.{ltb-false, leb-false, not-false}
use Rattle.words.specs.Choice.{if_none◌then◌else◌}
use Rattle.bitmap.specs.Bitmap.{get, mark, count}
use Rattle.roster_conf.specs.Conf.{Conf, leads}
use Rattle.roster_conf.specs.EditList.{Good, is_good}
use Rattle.items.specs.Item.{Item}
use Rattle.ids.specs.Limits.{hold, keys, batch}
use Rattle.bodega.specs.Replica.{Status, Committed, Executed, is_open, is_accepting, Book, new_book, ReadReq, Request, Instance, null_instance, Replica, fresh, fresh_pair, pair, Call, Heartbeat, Guard, Prepared, Record, Reply, Notice, CommitNotice, Bars, Read, Release, Done, is_leader, end, inst_at, set_inst, pad, with_status, with_leader_bk, with_replica_bk, with_holding, with_highest_slot, with_peer_exec_bar}
use Rattle.bodega.specs.Localread.{refresh_highest_slot, commit_condition, release_held_read_reqs, release_from, hold_read, ReadAnswer, Found, Missing, FromStore, Consensus, HeldBy, Again}
use Rattle.bodega.specs.Request.{read_answer, answered, treat_read}
use Rattle.bodega.specs.Conflease.{update_peer_accept_max, guard_accept_bar, newer, first_open, reprepared, preparing, become_a_leader, adopted, heard_new_conf}
use Rattle.bodega.specs.Heartbeat.{check_ballot, walk, advance_commit_bar, heard_commit_notice, heard_conf, installs, heard_exec_bar, passed, heard_bars, heard_heartbeat}
use Rattle.bodega.specs.Messages.{take_ack, take_notice, handle_msg_accept_reply, noticed, handle_msg_accept_notice}
use Rattle.bodega.specs.Events.{prepared, accepting, recorded, executed, bars}
use Rattle.bodega.specs.Grounds.{grounds, unformed, full, overfills}
use Rattle.bodega.specs.Step.{Event, effect, refusal_of, step, step_by, step_of, after, is_taken, run}
use Rattle.history.specs.Invariant.{EachSlot}
use Rattle.history.specs.Table.{Table, alters, adopts, adopting, raises, hear}
use Rattle.history.specs.Capacity.{held_reads, SlotSmall, Each, Small, Capacity, RosterStaysGood}
use Rattle.bodega.proofs.Choices.{of_if, of_none, by_if, by_none}
use Rattle.roster_conf.proofs.Grounds.{NoneApply}
use Rattle.roster_conf.proofs.Rosters.{good_filtered, good_true}
use Rattle.bodega.proofs.Taken.{taken_none}
use Rattle.history.proofs.Keeps.{release_keeps, from_keeps}
use Rattle.history.proofs.Reach.{appended}
use Rattle.history.proofs.View.{view}
use Rattle.history.proofs.Figure.{step_view}
use Rattle.history.proofs.Slots.{each_set, each_append, each_drop, each_after, each_at, each_map, walk_each, held_at_lem}

-- ---- a slot, and a change of one slot

book_small : (i : Instance) (b : Book) → length b.holding ≤ hold → SlotSmall i → SlotSmall (with_replica_bk b i)
book_small i b h s = record { reads = h; requests = s.requests }

status_small : (t : Status) (i : Instance) → SlotSmall i → SlotSmall (with_status t i)
status_small t i s = record { reads = s.reads; requests = s.requests }

acks_small : (a : ℕ) (i : Instance) → SlotSmall i → SlotSmall (with_leader_bk a i)
acks_small a i s = record { reads = s.reads; requests = s.requests }

null_small : SlotSmall null_instance
null_small = record { reads = omega arith; requests = omega arith }

module _ (P : Instance → Type 0) where
  pub at_each : (r : Replica) (slot : ℕ) (i : Instance) → inst_at r slot ≡ Some i → Each P r → P i
  at_each r slot i e s = each_at (λ m. P) r.bar.start r.insts (slot - r.bar.start) i (held_at_lem r slot i e) s

  set_each : (r : Replica) (slot : ℕ) (i j : Instance) → inst_at r slot ≡ Some i → (P i → P j) → Each P r → Each P (set_inst slot j r)
  unfolding set_inst
  set_each r slot i j e f s = each_set (λ m. P) r.bar.start r.insts (slot - r.bar.start) i j (held_at_lem r slot i e) (λ m. f) s

  -- what an emptied queue keeps, releases keep
  module _ (f : (i : Instance) (b : Book) → P i → P (with_replica_bk (with_holding [] b) i)) where
    release_each : (slot : ℕ) (r : Replica) → Each P r → Each P (release_held_read_reqs slot r).replica
    unfolding release_held_read_reqs
    release_each slot r s =
        by_none (λ (d : Done). Each P d.replica) (inst_at r slot) s λ i e.
        of_none (λ (d : Done). Each P d.replica) i.replica_bk s λ b. set_each r slot i (with_replica_bk (with_holding [] b) i) e (f i b) s

    pub from_each : (n slot : ℕ) (r : Replica) → Each P r → Each P (release_from n slot r).replica
    unfolding release_from
    from_each zero slot r s = s
    from_each (suc n) slot r s = from_each n (slot + 1) (release_held_read_reqs slot r).replica (release_each slot r s)

set_small : (r : Replica) (slot : ℕ) (i j : Instance) → inst_at r slot ≡ Some i → (SlotSmall i → SlotSmall j) → Small r → Small (set_inst slot j r)
unfolding set_inst
set_small r slot i j e f s = (set_each SlotSmall r slot i j e f s.0, s.1)

keys_set : (slot : ℕ) (i : Instance) (r : Replica) → (set_inst slot i r).highest_slot ≡ r.highest_slot
unfolding set_inst
keys_set slot i r = refl

abbrev Ends : Done → Type 0
Ends d = Small d.replica

-- ---- reads

emptied : (i : Instance) (b : Book) → SlotSmall i → SlotSmall (with_replica_bk (with_holding [] b) i)
emptied i b s = book_small i (with_holding [] b) (omega arith) s

pub release_small : (slot : ℕ) (r : Replica) → Small r → Ends (release_held_read_reqs slot r)
release_small slot r s = (release_each SlotSmall emptied slot r s.0, rw (release_keeps (λ (r : Replica). r.highest_slot) keys_set slot r) s.1)

from_small : (n slot : ℕ) (r : Replica) → Small r → Ends (release_from n slot r)
from_small n slot r s = (from_each SlotSmall emptied n slot r s.0, rw (from_keeps (λ (r : Replica). r.highest_slot) keys_set n slot r) s.1)

-- refusal 19: a slot that holds 16 takes no more
hold_small : (slot : ℕ) (q : ReadReq) (r : Replica) → full r slot ≡ false → Small r → Small (hold_read slot q r)
unfolding hold_read
hold_small slot q r h s =
    by_none Small (inst_at r slot) s λ i e.
    by_none Small i.replica_bk s λ b f.
    let k : length b.holding < hold = leb-false hold (length b.holding) (rw (e, f) at h) in
    set_small r slot i _ e (book_small i _ (rw (length-append b.holding (q ∷ [])) (omega arith))) s

answered_small : (r : Replica) (q : ReadReq) (a : ReadAnswer) → overfills r a ≡ false → Small r → Ends (answered r q a)
answered_small r q (Found v) h s = s
answered_small r q Missing h s = s
answered_small r q FromStore h s = s
answered_small r q Consensus h s = s
answered_small r q (HeldBy slot) h s = hold_small slot q r h s
answered_small r q Again h s = s

read_small : (r : Replica) (leases : ℕ) (q : ReadReq) → overfills r (read_answer r leases q.key) ≡ false → Small r → Ends (treat_read r leases q)
unfolding treat_read
read_small r leases q h s = answered_small r q (read_answer r leases q.key) h s

-- ---- replies

ack_small : (r : Replica) (peer slot ballot : ℕ) (items : List Item) → Small r → Ends (take_ack r peer slot ballot items)
unfolding take_ack
ack_small r peer slot ballot items s =
    by_none Ends (inst_at r slot) s λ i e.
    of_if Ends (not (is_accepting i.status) || ltb ballot i.bal) s
    (of_none Ends i.leader_bk s λ acks.
    of_if Ends (get acks peer) s
    (of_if Ends (commit_condition (mark acks peer) i.reqs r.me.quorum r.conf)
    (set_small r slot i (with_status Committed (with_leader_bk (mark acks peer) i)) e (λ x. status_small Committed (with_leader_bk (mark acks peer) i) (acks_small (mark acks peer) i x)) s)
    (set_small r slot i (with_leader_bk (mark acks peer) i) e (acks_small (mark acks peer) i) s)))

reply_small : (r : Replica) (peer slot ballot : ℕ) → Small r → Ends (handle_msg_accept_reply r peer slot ballot)
unfolding handle_msg_accept_reply
reply_small r peer slot ballot s =
    of_if Ends (ltb slot r.bar.start) s
    (of_if Ends (not (eqb ballot r.bal.prepared) || not (is_leader r)) s (ack_small r peer slot ballot _ s))

-- ---- heartbeats and commit notices

advance_small : (r : Replica) (ballot commit : ℕ) → Small r → Ends (advance_commit_bar r ballot commit)
unfolding advance_commit_bar
advance_small r ballot commit s = (
  each_after (λ m. SlotSmall) (λ is. (walk ballot r.bar.commit (commit - r.bar.commit) is).insts)
      (walk_each (λ m. SlotSmall) (λ m i o x. status_small Committed i x) ballot r.bar.commit (commit - r.bar.commit))
      r.bar.start (r.bar.commit - r.bar.start) r.insts s.0,
  s.1,
)

commit_small : (r : Replica) (ballot commit : ℕ) → Small r → Ends (heard_commit_notice r ballot commit)
unfolding heard_commit_notice
commit_small r ballot commit s = of_if Ends (eqb ballot r.bal.max_seen) (advance_small r ballot commit s) s

exec_small : (peer exec : ℕ) (r : Replica) → Small r → Small (heard_exec_bar peer exec r)
unfolding heard_exec_bar
exec_small peer exec r s =
    of_if Small (ltb (get_or r.peer_exec_bar peer 0) exec)
    (of_if Small (passed (with_peer_exec_bar (set r.peer_exec_bar peer exec) r) exec) s s) s

heard_small : (peer ballot commit exec snap : ℕ) (r : Replica) → Small r → Ends (heard_bars peer ballot commit exec snap r)
unfolding heard_bars
heard_small peer ballot commit exec snap r s =
    let t = advance_small r ballot commit s in
    of_if Ends (ltb exec r.bar.exec) s
    (of_if Small (eqb peer r.me.id) t (exec_small peer exec (advance_commit_bar r ballot commit).replica t))

reprepared_small : (bal : ℕ) (i : Instance) → SlotSmall i → SlotSmall (reprepared bal i)
reprepared_small bal i s = of_if SlotSmall (is_open i.status) (record { reads = s.reads; requests = s.requests }) s

pub appended_small : (r : Replica) → Small r → EachSlot (λ slot. SlotSmall) r.bar.start (appended r.insts)
appended_small r s =
    of_if (EachSlot (λ slot. SlotSmall) r.bar.start) (eqb (first_open r.insts) (length r.insts))
    (each_append (λ m. SlotSmall) r.bar.start (end r) r.insts (null_instance ∷ []) refl s.0 (null_small, tt)) s.0

pub preparing_small : (r : Replica) → Small r → Small (preparing (appended r.insts) r)
preparing_small r s = (
  each_map (λ m. SlotSmall) (λ m. SlotSmall) (reprepared r.bal.max_seen) (λ m i x. reprepared_small r.bal.max_seen i x) r.bar.start (appended r.insts) (appended_small r s),
  s.1,
)

leader_small : (r : Replica) → Small r → Ends (become_a_leader r)
unfolding become_a_leader
leader_small r s = from_small _ _ (preparing (appended r.insts) r) (preparing_small r s)

new_conf_small : (r : Replica) (ballot : ℕ) (c : Conf) → Small r → Ends (heard_new_conf r ballot c)
unfolding heard_new_conf update_peer_accept_max
new_conf_small r ballot c s = of_if Ends (leads c r.me.id) (leader_small (adopted r ballot c) s) s

heartbeat_small : (r : Replica) (peer ballot : ℕ) (conf : Option Conf) (commit exec snap : ℕ) → Small r → Ends (heard_heartbeat r peer ballot conf commit exec snap)
unfolding heard_heartbeat heard_conf
heartbeat_small r peer ballot conf commit exec snap s =
    of_if Ends (ltb ballot r.bal.max_seen) s
    (heard_small peer ballot commit exec snap (heard_conf r peer ballot conf).replica
    (of_none Ends conf s (λ c. of_if Ends (installs r peer ballot c) (new_conf_small r ballot c s) s)))

-- ---- notices

nulls_small : (n m : ℕ) → EachSlot (λ slot. SlotSmall) m (replicate n null_instance)
nulls_small zero m = tt
nulls_small (suc n) m = (null_small, nulls_small n (suc m))

pub pad_small : (r : Replica) (slot : ℕ) → Small r → Small (pad slot r)
unfolding pad
pad_small r slot s = (each_append (λ m. SlotSmall) r.bar.start (end r) r.insts _ refl s.0 (nulls_small (slot + 1 - end r) (end r)), s.1)

-- a notice leaves the reads that wait
notice_holding : (peer ballot : ℕ) (o : Option Book) → held_reads o ≤ hold → length (take_notice peer ballot (if_none o then new_book else λ x. x)).holding ≤ hold
unfolding take_notice
notice_holding peer ballot o h =
    let b = if_none o then new_book else λ x. x in
    of_if (λ (c : Book). length c.holding ≤ hold) (ltb b.bal ballot) (go o h) (go o h)
  where
    go : (o : Option Book) → held_reads o ≤ hold → length (if_none o then new_book else λ x. x).holding ≤ hold
    go None h = omega arith
    go (Some b) h = h

pub marked_small : (r : Replica) (peer slot ballot : ℕ) (i : Instance) → inst_at r slot ≡ Some i → Small r
    → Small (set_inst slot (with_replica_bk (take_notice peer ballot (if_none i.replica_bk then new_book else λ x. x)) i) r)
marked_small r peer slot ballot i e s =
    set_small r slot i _ e (book_small i _ (notice_holding peer ballot i.replica_bk (at_each SlotSmall r slot i e s.0).reads)) s

noticed_small : (r : Replica) (peer slot ballot : ℕ) → Small r → Ends (noticed r peer slot ballot)
unfolding noticed
noticed_small r peer slot ballot s =
    by_none Ends (inst_at r slot) s λ i e.
    let b = take_notice peer ballot (if_none i.replica_bk then new_book else λ x. x) in
    let t = marked_small r peer slot ballot i e s in
    of_if Ends (not (eqb ballot i.bal || (eqb i.bal 0 && eqb (slot + 1) (end r)))) s
    (of_if Ends (leb r.me.quorum (count b.notices)) (release_small slot (set_inst slot (with_replica_bk b i) r) t) t)

check_small : (r : Replica) (ballot : ℕ) → Small r → Ends (check_ballot r ballot)
unfolding check_ballot
check_small r ballot s = of_if Ends (ltb r.bal.max_seen ballot) s s

notice_small : (r : Replica) (peer slot ballot : ℕ) → Small r → Ends (handle_msg_accept_notice r peer slot ballot)
unfolding handle_msg_accept_notice
notice_small r peer slot ballot s =
    of_if Ends (ltb slot r.bar.start) s
    (of_if Ends (ltb r.bal.max_seen ballot) (check_small r ballot s)
    (of_if Ends (not (is_leader r) && eqb ballot r.bal.max_seen) (noticed_small (pad slot r) peer slot ballot (pad_small r slot s)) s))

-- ---- events

guard_small : (r : Replica) (peer number bar : ℕ) → Small r → Small (guard_accept_bar r peer number bar)
unfolding guard_accept_bar update_peer_accept_max
guard_small r peer number bar s = of_if Small (newer (get_or r.peer_accept.bar peer fresh_pair) number bar) s s

prepared_small : (r : Replica) (ballot : ℕ) → Small r → Small (prepared r ballot)
unfolding prepared
prepared_small r ballot s = s

-- refusals 9 and 18
record_small : (r : Replica) (ballot : ℕ) (reqs : List Request) (i : Instance) → length reqs ≤ batch → SlotSmall i → SlotSmall (accepting r ballot reqs i)
record_small r ballot reqs i h s =
    record { reads = of_if (λ (b : Option Book). held_reads b ≤ hold) (is_leader r) s.reads (go i.replica_bk s.reads); requests = h }
  where
    go : (b : Option Book) → held_reads b ≤ hold → held_reads (if_none b then Some new_book else λ x. Some x) ≤ hold
    go None h = omega arith
    go (Some x) h = h

recorded_small : (r : Replica) (slot ballot : ℕ) (reqs : List Request) → length reqs ≤ batch → length (refresh_highest_slot slot reqs r.highest_slot) ≤ keys → Small r
    → Small (recorded r slot ballot reqs)
unfolding recorded pad
recorded_small r slot ballot reqs h k s =
    let t = with_highest_slot (refresh_highest_slot slot reqs r.highest_slot) (pad slot r) in
    let u : Small t = ((pad_small r slot s).0, k) in
    by_none Small (inst_at t slot) u (λ i e. set_small t slot i _ e (record_small r ballot reqs i h) u)

executed_small : (n m : ℕ) (is : List Instance) → EachSlot (λ slot. SlotSmall) m is → EachSlot (λ slot. SlotSmall) m (executed n is)
unfolding executed
executed_small zero m is s = s
executed_small (suc n) m [] s = tt
executed_small (suc n) m (i ∷ is) s = (status_small Executed i s.0, executed_small n (suc m) is s.1)

-- whatever the number of the first slot
renumbered : (n m : ℕ) (is : List Instance) → EachSlot (λ slot. SlotSmall) n is → EachSlot (λ slot. SlotSmall) m is
renumbered n m [] s = tt
renumbered n m (i ∷ is) s = (s.0, renumbered (suc n) (suc m) is s.1)

bars_small : (r : Replica) (start accept commit exec : ℕ) → Small r → Small (bars r start accept commit exec)
unfolding bars
bars_small r start accept commit exec s =
    let k = start - r.bar.start in
    let is = executed (exec - r.bar.start) r.insts in
    let t : EachSlot (λ slot. SlotSmall) r.bar.start is = executed_small (exec - r.bar.start) r.bar.start r.insts s.0 in
    (renumbered (r.bar.start + k) start (drop k is) (each_drop (λ m. SlotSmall) r.bar.start k is t), s.1)

-- ---- every call, and lists of calls

effect_small : (r : Replica) (c : Call) → Small r → NoneApply (grounds r c) → Ends (effect r c)
unfolding effect grounds
effect_small r (Heartbeat peer ballot conf commit exec snap) s n = heartbeat_small r peer ballot conf commit exec snap s
effect_small r (Guard peer number bar) s n = guard_small r peer number bar s
effect_small r (Prepared ballot) s n = prepared_small r ballot s
effect_small r (Record slot ballot reqs) s n = recorded_small r slot ballot reqs (ltb-false batch (length reqs) n.1.1.0) (ltb-false keys _ n.1.1.1.1.1.1.0) s
effect_small r (Reply peer slot ballot) s n = reply_small r peer slot ballot s
effect_small r (Notice peer slot ballot) s n = notice_small r peer slot ballot s
effect_small r (CommitNotice peer ballot bar) s n = commit_small r ballot bar s
effect_small r (Bars start accept commit exec) s n = bars_small r start accept commit exec s
effect_small r (Read leases q) s n = read_small r leases q n.1.0 s
effect_small r (Release slot) s n = release_small slot r s

step_small : (r : Replica) (e : Event) → Small r → Small (after r (step_of r e))
unfolding step
step_small r e s = go (refusal_of r e.call e.places) refl
  where
    go : (o : Option ℕ) → refusal_of r e.call e.places ≡ o → Small (after r (step_by o (effect r e.call)))
    go None q = effect_small r e.call s (taken_none r e.call e.places (rw q))
    go (Some n) q = s

run_small : (r : Replica) (es : List Event) → Small r → Small (run r es)
unfolding run
run_small r [] s = s
run_small r (e ∷ es) s = run_small (after r (step_of r e)) es (step_small r e s)

fresh_small : (id population quorum : ℕ) → Small (fresh id population quorum)
unfolding fresh
fresh_small id population quorum = (tt, omega arith)

pub capacity : Capacity
capacity id population quorum es = run_small (fresh id population quorum) es (fresh_small id population quorum)

-- ---- the roster: an adopted one is a heartbeat's, and a raised ballot filters

abbrev RosterGood : Table → Type 0
RosterGood t = Good t.roster

hear_good : (r : Replica) (t : Table) (c : Call) → NoneApply (grounds r c) → RosterGood t → RosterGood (hear t c)
unfolding hear grounds
hear_good r t (Heartbeat peer ballot conf commit exec snap) n g = of_if RosterGood (adopts t peer ballot conf) (go conf n.0) g
  where
    go : (o : Option Conf) → unformed o ≡ false → RosterGood (adopting ballot o t)
    go None f = g
    go (Some c) f = good_true c (not-false (is_good c) f)
hear_good r t (Guard peer number bar) n g = of_if RosterGood (alters t peer (pair number bar)) g g
hear_good r t (Prepared ballot) n g = g
hear_good r t (Record slot ballot reqs) n g = g
hear_good r t (Reply peer slot ballot) n g = g
hear_good r t (Notice peer slot ballot) n g = of_if RosterGood (raises t slot ballot) (good_filtered t.own t.roster g) g
hear_good r t (CommitNotice peer ballot bar) n g = g
hear_good r t (Bars start accept commit exec) n g = g
hear_good r t (Read leases q) n g = g
hear_good r t (Release slot) n g = g

run_good : (r : Replica) (es : List Event) → RosterGood (view r) → RosterGood (view (run r es))
unfolding run
run_good r [] g = g
run_good r (e ∷ es) g =
    run_good (after r (step_of r e)) es
    (rw (step_view r e) (by_if RosterGood (is_taken (step_of r e)) (λ h. hear_good r (view r) e.call (taken_none r e.call e.places h) g) (λ h. g)))

pub roster_stays_good : RosterStaysGood
unfolding view fresh
roster_stays_good id population quorum es = run_good (fresh id population quorum) es (tt, omega arith)
