-- Every slot of a replica that calls reach is sound.
use Rattle.std.specs.Prelude.{if◌then◌else◌}
use Prim.Native.Nat.{ℕ, zero, suc, ◌+◌, ◌-◌, ◌≤◌, ◌<◌}
use mathlib.Core.Bool.{Bool, true, false, ◌&&◌, ◌||◌, not}
use mathlib.Core.List.{List, [], ◌∷◌, ◌++◌, map}
use mathlib.Core.Logic.{◌⊎◌, inl, inr, ⊎_elim}
use Rattle.std.specs.Prelude.{Option, None, Some, slice_get}
use mathlib.Core.Path.{◌≡◌, refl}
use native.Mathlib.Omega.{arith}
use lib.Dec.{ltb, leb, eqb}
use lib.ListN.{length, get_or, take, drop, set, replicate}
use borrow.Author.Tests.{ltb-true, ltb-false, eqb-true, not-false}
use Rattle.words.proofs.Tests.{or_both}
use Rattle.words.specs.Choice.{if_none◌then◌else◌}
use Rattle.bitmap.specs.Bitmap.{get, mark, count}
use Rattle.roster_conf.specs.Conf.{Conf, leads}
use Rattle.items.specs.Item.{Item, Commit}
use Rattle.bodega.specs.Replica.{Status, Null, Preparing, Accepting, Committed, Executed, order, is_open, is_accepting, Book, new_book, ReadReq, Request, Instance, null_instance, Highest, Replica, fresh, fresh_pair, Call, Heartbeat, Guard, Prepared, Record, Reply, Notice, CommitNotice, Bars, Read, Release, Done, is_leader, end, inst_at, set_inst, pad, with_status, with_leader_bk, with_replica_bk, with_holding, with_highest_slot, with_peer_exec_bar}
use Rattle.bodega.specs.Localread.{refresh_highest_slot, commit_condition, release_held_read_reqs, release_from, hold_read, ReadAnswer, Found, Missing, FromStore, Consensus, HeldBy, Again}
use Rattle.bodega.specs.Request.{read_answer, answered, treat_read}
use Rattle.bodega.specs.Conflease.{update_peer_accept_max, guard_accept_bar, newer, first_open, reprepared, preparing, become_a_leader, adopted, heard_new_conf}
use Rattle.bodega.specs.Heartbeat.{check_ballot, Walk, walk, advance_commit_bar, heard_commit_notice, heard_conf, installs, heard_exec_bar, passed, heard_bars, heard_heartbeat}
use Rattle.bodega.specs.Messages.{take_ack, take_notice, handle_msg_accept_reply, noticed, handle_msg_accept_notice}
use Rattle.bodega.specs.Events.{prepared, accepting, recorded, executed, bars}
use Rattle.bodega.specs.Grounds.{grounds, any, is_closed, falls, ordered, uncommitted, current}
use Rattle.bodega.specs.Step.{Event, effect, refusal_of, step, step_by, step_of, after, run}
use Rattle.history.specs.Invariant.{core, Sound, is_executed, book_bal, SlotSound, EachSlot, SlotsSound, ReachSound}
use Rattle.bodega.proofs.Choices.{of_if, of_none, by_if, by_none}
use Rattle.roster_conf.proofs.Grounds.{NoneApply}
use Rattle.bodega.proofs.Taken.{taken_none}
use Rattle.history.proofs.Reach.{appended, step_sound, run_sound, fresh_sound}

-- ---- lists of slots

module _ (P : ℕ → Instance → Type 0) where
  pub each_set : (n : ℕ) (is : List Instance) (k : ℕ) (i j : Instance) → slice_get is k ≡ Some i → ((m : ℕ) → P m i → P m j) → EachSlot P n is → EachSlot P n (set is k j)
  each_set n [] k i j e f s = tt
  each_set n (x ∷ is) zero i j e f s = let q : x ≡ i = cc in (f n (rw (← q) s.0), s.1)
  each_set n (x ∷ is) (suc k) i j e f s = (s.0, each_set (suc n) is k i j e f s.1)

  pub each_append : (n m : ℕ) (is js : List Instance) → m ≡ n + length is → EachSlot P n is → EachSlot P m js → EachSlot P n (is ++ js)
  each_append n m [] js e s t = let q : m ≡ n = omega arith in rw (← q) t
  each_append n m (i ∷ is) js e s t = (s.0, each_append (suc n) m is js (omega arith) s.1 t)

  pub each_drop : (n k : ℕ) (is : List Instance) → EachSlot P n is → EachSlot P (n + k) (drop k is)
  each_drop n zero is s = let q : n + 0 ≡ n = omega arith in rw q s
  each_drop n (suc k) [] s = tt
  each_drop n (suc k) (i ∷ is) s = let q : n + suc k ≡ suc n + k = omega arith in rw q (each_drop (suc n) k is s.1)

  pub each_after : (g : List Instance → List Instance) → ((n : ℕ) (is : List Instance) → EachSlot P n is → EachSlot P n (g is))
      → (n k : ℕ) (is : List Instance) → EachSlot P n is → EachSlot P n (take k is ++ g (drop k is))
  each_after g f n zero is s = f n is s
  each_after g f n (suc k) [] s = f n [] s
  each_after g f n (suc k) (i ∷ is) s = (s.0, each_after g f (suc n) k is s.1)

  pub each_at : (n : ℕ) (is : List Instance) (k : ℕ) (i : Instance) → slice_get is k ≡ Some i → EachSlot P n is → P (n + k) i
  each_at n [] k i e s = let z : ◌≡◌ {A = ℕ} 0 1 = cc in absurd (omega arith)
  each_at n (x ∷ is) zero i e s = let q : n + 0 ≡ n = omega arith in let k : x ≡ i = cc in rw (q, ← k) s.0
  each_at n (x ∷ is) (suc k) i e s = let q : n + suc k ≡ suc n + k = omega arith in rw q (each_at (suc n) is k i e s.1)

  -- what a commit keeps, the walk keeps
  pub walk_each : ((m : ℕ) (i : Instance) → is_open i.status ≡ true → P m i → P m (with_status Committed i))
      → (ballot slot n m : ℕ) (is : List Instance) → EachSlot P m is → EachSlot P m (walk ballot slot n is).insts
  unfolding walk
  walk_each f ballot slot zero m is s = s
  walk_each f ballot slot (suc n) m [] s = tt
  walk_each f ballot slot (suc n) m (i ∷ is) s =
      go (ltb i.bal ballot || ltb (order i.status) 2) (is_open i.status) refl (walk ballot (slot + 1) n is) (walk_each f ballot (slot + 1) n (suc m) is s.1)
    where
      go : (t u : Bool) → is_open i.status ≡ u → (w : Walk) → EachSlot P (suc m) w.insts
          → EachSlot P m (if◌then◌else◌ {A = Walk} t (record { insts = i ∷ is; items = [] })
          (if not u then record { insts = i ∷ w.insts; items = w.items } else
          record { insts = with_status Committed i ∷ w.insts; items = Commit slot ∷ w.items })).insts
      go true u e w h = s
      go false false e w h = (s.0, h)
      go false true e w h = (f m i e s.0, h)

pub each_map : (P Q : ℕ → Instance → Type 0) (f : Instance → Instance) → ((m : ℕ) (i : Instance) → P m i → Q m (f i)) → (n : ℕ) (is : List Instance) → EachSlot P n is → EachSlot Q n (map f is)
each_map P Q f g n [] s = tt
each_map P Q f g n (i ∷ is) s = (g n i s.0, each_map P Q f g (suc n) is s.1)

each_all : (P Q : ℕ → Instance → Type 0) → ((m : ℕ) (i : Instance) → P m i → Q m i) → (n : ℕ) (is : List Instance) → EachSlot P n is → EachSlot Q n is
each_all P Q g n [] s = tt
each_all P Q g n (i ∷ is) s = (g n i s.0, each_all P Q g (suc n) is s.1)

-- ---- one slot

module _ {bal commit exec : ℕ} where
  book_sound : (m : ℕ) (i : Instance) (b : Book) → b.bal ≤ bal → SlotSound bal commit exec m i → SlotSound bal commit exec m (with_replica_bk b i)
  book_sound m i b h s = record { closed = s.closed; executed = s.executed; unexecuted = s.unexecuted; slot_bal = s.slot_bal; notices_bal = h }

  acks_sound : (m : ℕ) (i : Instance) (a : ℕ) → SlotSound bal commit exec m i → SlotSound bal commit exec m (with_leader_bk a i)
  acks_sound m i a s = record { closed = s.closed; executed = s.executed; unexecuted = s.unexecuted; slot_bal = s.slot_bal; notices_bal = s.notices_bal }

  open_later : (m : ℕ) (i : Instance) → is_open i.status ≡ true → SlotSound bal commit exec m i → commit ≤ m
  open_later m i o s = go (ltb m commit) refl
    where
      go : (b : Bool) → ltb m commit ≡ b → commit ≤ m
      go true e = let c = s.closed (ltb-true m commit e) in let z : ◌≡◌ {A = ℕ} 0 1 = cc in absurd (omega arith)
      go false e = ltb-false m commit e

  unexecuted_later : (m : ℕ) (i : Instance) → is_executed i.status ≡ false → SlotSound bal commit exec m i → exec ≤ m
  unexecuted_later m i o s = go (ltb m exec) refl
    where
      go : (b : Bool) → ltb m exec ≡ b → exec ≤ m
      go true e = let c = s.executed (ltb-true m exec e) in let z : ◌≡◌ {A = ℕ} 0 1 = cc in absurd (omega arith)
      go false e = ltb-false m exec e

  commit_sound : (m : ℕ) (i : Instance) → is_executed i.status ≡ false → SlotSound bal commit exec m i → SlotSound bal commit exec m (with_status Committed i)
  commit_sound m i o s =
      record {
        closed = λ h. refl;
        executed = λ h. let l = unexecuted_later m i o s in absurd (omega arith);
        unexecuted = λ h. refl;
        slot_bal = s.slot_bal;
        notices_bal = s.notices_bal;
      }

accepting_open : (s : Status) → is_accepting s ≡ true → (is_open s ≡ true) × (is_executed s ≡ false)
accepting_open Null e = let z : ◌≡◌ {A = ℕ} 0 1 = cc in absurd (omega arith)
accepting_open Preparing e = let z : ◌≡◌ {A = ℕ} 0 1 = cc in absurd (omega arith)
accepting_open Accepting e = (refl, refl)
accepting_open Committed e = let z : ◌≡◌ {A = ℕ} 0 1 = cc in absurd (omega arith)
accepting_open Executed e = let z : ◌≡◌ {A = ℕ} 0 1 = cc in absurd (omega arith)

open_unexecuted : (s : Status) → is_open s ≡ true → is_executed s ≡ false
open_unexecuted Null e = refl
open_unexecuted Preparing e = refl
open_unexecuted Accepting e = refl
open_unexecuted Committed e = refl
open_unexecuted Executed e = let z : ◌≡◌ {A = ℕ} 0 1 = cc in absurd (omega arith)

abbrev Of : Replica → ℕ → Instance → Type 0
Of r = SlotSound r.bal.max_seen r.bar.commit r.bar.exec

-- ---- a change of one slot

pub held_at_lem : (r : Replica) (slot : ℕ) (i : Instance) → inst_at r slot ≡ Some i → slice_get r.insts (slot - r.bar.start) ≡ Some i
unfolding inst_at
held_at_lem r slot i = go (ltb slot r.bar.start)
  where
    go : (b : Bool) → (if b then None else slice_get r.insts (slot - r.bar.start)) ≡ Some i → slice_get r.insts (slot - r.bar.start) ≡ Some i
    go true e = let z : ◌≡◌ {A = ℕ} 0 1 = cc in absurd (omega arith)
    go false e = e

set_slots : (r : Replica) (slot : ℕ) (i j : Instance) → inst_at r slot ≡ Some i → ((m : ℕ) → Of r m i → Of r m j) → SlotsSound r → SlotsSound (set_inst slot j r)
unfolding set_inst
set_slots r slot i j e f s = each_set (Of r) r.bar.start r.insts (slot - r.bar.start) i j (held_at_lem r slot i e) f s

at_sound : (r : Replica) (slot : ℕ) (i : Instance) → inst_at r slot ≡ Some i → SlotsSound r → book_bal i.replica_bk ≤ r.bal.max_seen
at_sound r slot i e s = (each_at (Of r) r.bar.start r.insts (slot - r.bar.start) i (held_at_lem r slot i e) s).notices_bal

-- ---- reads

abbrev Ends : Done → Type 0
Ends d = SlotsSound d.replica

-- a book with other held reads
queue_slots : (r : Replica) (slot : ℕ) (i : Instance) (b : Book) (l : List ReadReq) → inst_at r slot ≡ Some i → i.replica_bk ≡ Some b → SlotsSound r
    → SlotsSound (set_inst slot (with_replica_bk (with_holding l b) i) r)
queue_slots r slot i b l e f s =
    let h : book_bal i.replica_bk ≤ r.bal.max_seen = at_sound r slot i e s in
    set_slots r slot i (with_replica_bk (with_holding l b) i) e (λ m t. book_sound m i (with_holding l b) (rw f at h) t) s

release_slots : (slot : ℕ) (r : Replica) → SlotsSound r → Ends (release_held_read_reqs slot r)
unfolding release_held_read_reqs
release_slots slot r s = by_none Ends (inst_at r slot) s (λ i e. by_none Ends i.replica_bk s (λ b f. queue_slots r slot i b [] e f s))

from_slots : (n slot : ℕ) (r : Replica) → SlotsSound r → Ends (release_from n slot r)
unfolding release_from
from_slots zero slot r s = s
from_slots (suc n) slot r s = from_slots n (slot + 1) (release_held_read_reqs slot r).replica (release_slots slot r s)

hold_slots : (slot : ℕ) (q : ReadReq) (r : Replica) → SlotsSound r → SlotsSound (hold_read slot q r)
unfolding hold_read
hold_slots slot q r s = by_none SlotsSound (inst_at r slot) s (λ i e. by_none SlotsSound i.replica_bk s (λ b f. queue_slots r slot i b _ e f s))

answered_slots : (r : Replica) (q : ReadReq) (a : ReadAnswer) → SlotsSound r → Ends (answered r q a)
answered_slots r q (Found v) s = s
answered_slots r q Missing s = s
answered_slots r q FromStore s = s
answered_slots r q Consensus s = s
answered_slots r q (HeldBy slot) s = hold_slots slot q r s
answered_slots r q Again s = s

read_slots : (r : Replica) (leases : ℕ) (q : ReadReq) → SlotsSound r → Ends (treat_read r leases q)
unfolding treat_read
read_slots r leases q s = answered_slots r q (read_answer r leases q.key) s

-- ---- replies

ack_slots : (r : Replica) (peer slot ballot : ℕ) (items : List Item) → SlotsSound r → Ends (take_ack r peer slot ballot items)
unfolding take_ack
ack_slots r peer slot ballot items s =
    by_none Ends (inst_at r slot) s λ i e.
    by_if Ends (not (is_accepting i.status) || ltb ballot i.bal) (λ t. s)
    (λ t. let o = accepting_open i.status (not-false (is_accepting i.status) (or_both _ _ t).0) in
    of_none Ends i.leader_bk s λ acks.
    of_if Ends (get acks peer) s
    (of_if Ends (commit_condition (mark acks peer) i.reqs r.me.quorum r.conf)
    (set_slots r slot i (with_status Committed (with_leader_bk (mark acks peer) i)) e (λ m x. commit_sound m (with_leader_bk (mark acks peer) i) o.1 (acks_sound m i (mark acks peer) x)) s)
    (set_slots r slot i (with_leader_bk (mark acks peer) i) e (λ m x. acks_sound m i (mark acks peer) x) s)))

reply_slots : (r : Replica) (peer slot ballot : ℕ) → SlotsSound r → Ends (handle_msg_accept_reply r peer slot ballot)
unfolding handle_msg_accept_reply
reply_slots r peer slot ballot s =
    of_if Ends (ltb slot r.bar.start) s
    (of_if Ends (not (eqb ballot r.bal.prepared) || not (is_leader r)) s (ack_slots r peer slot ballot _ s))

-- ---- the walk

advance_slots : (r : Replica) (ballot commit : ℕ) → SlotsSound r → Ends (advance_commit_bar r ballot commit)
unfolding advance_commit_bar
advance_slots r ballot commit s =
    each_after (Of r) (λ is. (walk ballot r.bar.commit (commit - r.bar.commit) is).insts)
    (walk_each (Of r) (λ m i o x. commit_sound m i (open_unexecuted i.status o) x) ballot r.bar.commit (commit - r.bar.commit))
    r.bar.start (r.bar.commit - r.bar.start) r.insts s

commit_slots : (r : Replica) (ballot commit : ℕ) → SlotsSound r → Ends (heard_commit_notice r ballot commit)
unfolding heard_commit_notice
commit_slots r ballot commit s = of_if Ends (eqb ballot r.bal.max_seen) (advance_slots r ballot commit s) s

exec_slots : (peer exec : ℕ) (r : Replica) → SlotsSound r → SlotsSound (heard_exec_bar peer exec r)
unfolding heard_exec_bar
exec_slots peer exec r s =
    of_if SlotsSound (ltb (get_or r.peer_exec_bar peer 0) exec)
    (of_if SlotsSound (passed (with_peer_exec_bar (set r.peer_exec_bar peer exec) r) exec) s s) s

heard_slots : (peer ballot commit exec snap : ℕ) (r : Replica) → SlotsSound r → Ends (heard_bars peer ballot commit exec snap r)
unfolding heard_bars
heard_slots peer ballot commit exec snap r s =
    let t = advance_slots r ballot commit s in
    of_if Ends (ltb exec r.bar.exec) s
    (of_if SlotsSound (eqb peer r.me.id) t (exec_slots peer exec (advance_commit_bar r ballot commit).replica t))

-- ---- null slots

null_sound : (bal commit exec m : ℕ) → commit ≤ m → exec ≤ m → SlotSound bal commit exec m null_instance
null_sound bal commit exec m h k =
    record { closed = λ l. absurd (omega arith); executed = λ l. absurd (omega arith); unexecuted = λ l. refl; slot_bal = omega arith; notices_bal = omega arith }

nulls_sound : (bal commit exec n m : ℕ) → commit ≤ m → exec ≤ m → EachSlot (SlotSound bal commit exec) m (replicate n null_instance)
nulls_sound bal commit exec zero m h k = tt
nulls_sound bal commit exec (suc n) m h k = (null_sound bal commit exec m h k, nulls_sound bal commit exec n (suc m) (omega arith) (omega arith))

pad_slots : (r : Replica) (slot : ℕ) → Sound (core r) → SlotsSound r → SlotsSound (pad slot r)
unfolding pad core
pad_slots r slot c s =
    let a : r.bar.commit ≤ end r = c.commit_end in
    let b : r.bar.exec ≤ r.bar.commit = c.exec_commit in
    each_append (Of r) r.bar.start (end r) r.insts _ refl s (nulls_sound _ _ _ (slot + 1 - end r) (end r) a (omega arith))

-- ---- adoptions and step-up

risen : {bal bal' commit exec : ℕ} → bal ≤ bal' → (m : ℕ) (i : Instance) → SlotSound bal commit exec m i → SlotSound bal' commit exec m i
risen h m i s = record { closed = s.closed; executed = s.executed; unexecuted = s.unexecuted; slot_bal = omega (arith, s.slot_bal); notices_bal = omega (arith, s.notices_bal) }

adopted_slots : (r : Replica) (ballot : ℕ) (c : Conf) → r.bal.max_seen ≤ ballot → SlotsSound r → SlotsSound (adopted r ballot c)
unfolding update_peer_accept_max
adopted_slots r ballot c h s = each_all (Of r) _ (risen h) r.bar.start r.insts s

reprepared_sound : (bal commit exec m : ℕ) (i : Instance) → SlotSound bal commit exec m i → SlotSound bal commit exec m (reprepared bal i)
reprepared_sound bal commit exec m i s =
    by_if (SlotSound bal commit exec m) (is_open i.status)
    (λ e. let l = open_later m i e s in let k = unexecuted_later m i (open_unexecuted i.status e) s in
    record { closed = λ h. absurd (omega arith); executed = λ h. absurd (omega arith); unexecuted = λ h. refl; slot_bal = omega arith; notices_bal = s.notices_bal })
    (λ e. s)

appended_slots : (r : Replica) → r.bar.commit ≤ end r → r.bar.exec ≤ r.bar.commit → SlotsSound r
    → EachSlot (Of r) r.bar.start (appended r.insts)
appended_slots r a b s =
    of_if (EachSlot (Of r) r.bar.start) (eqb (first_open r.insts) (length r.insts))
    (each_append (Of r) r.bar.start (end r) r.insts (null_instance ∷ []) refl s (null_sound _ _ _ (end r) a (omega arith), tt)) s

leader_slots : (r : Replica) → r.bar.commit ≤ end r → r.bar.exec ≤ r.bar.commit → SlotsSound r → Ends (become_a_leader r)
unfolding become_a_leader
leader_slots r a b s =
    from_slots _ _ (preparing (appended r.insts) r)
    (each_map (Of r) (Of r) (reprepared r.bal.max_seen) (λ m i x. reprepared_sound _ _ _ m i x) r.bar.start (appended r.insts) (appended_slots r a b s))

new_conf_slots : (r : Replica) (ballot : ℕ) (c : Conf) → Sound (core r) → r.bal.max_seen ≤ ballot → SlotsSound r → Ends (heard_new_conf r ballot c)
unfolding heard_new_conf update_peer_accept_max core
new_conf_slots r ballot c k h s =
    of_if Ends (leads c r.me.id)
    (leader_slots (adopted r ballot c) k.commit_end k.exec_commit (adopted_slots r ballot c h s))
    (adopted_slots r ballot c h s)

heartbeat_slots : (r : Replica) (peer ballot : ℕ) (conf : Option Conf) (commit exec snap : ℕ) → Sound (core r) → SlotsSound r
    → Ends (heard_heartbeat r peer ballot conf commit exec snap)
unfolding heard_heartbeat heard_conf
heartbeat_slots r peer ballot conf commit exec snap k s =
    by_if Ends (ltb ballot r.bal.max_seen) (λ e. s)
    (λ e. heard_slots peer ballot commit exec snap (heard_conf r peer ballot conf).replica
    (of_none Ends conf s (λ c. of_if Ends (installs r peer ballot c) (new_conf_slots r ballot c k (ltb-false ballot r.bal.max_seen e) s) s)))

-- ---- notices

notice_book : (peer ballot bal : ℕ) (o : Option Book) → book_bal o ≤ bal → ballot ≤ bal → (take_notice peer ballot (if_none o then new_book else λ x. x)).bal ≤ bal
unfolding take_notice
notice_book peer ballot bal o h k = of_if (λ (b : Book). b.bal ≤ bal) (ltb (if_none o then new_book else λ x. x).bal ballot) k (go o h)
  where
    go : (o : Option Book) → book_bal o ≤ bal → (if_none o then new_book else λ x. x).bal ≤ bal
    go None h = omega arith
    go (Some b) h = h

noticed_slots : (r : Replica) (peer slot ballot : ℕ) → ballot ≤ r.bal.max_seen → SlotsSound r → Ends (noticed r peer slot ballot)
unfolding noticed
noticed_slots r peer slot ballot k s =
    by_none Ends (inst_at r slot) s λ i e.
    let b = take_notice peer ballot (if_none i.replica_bk then new_book else λ x. x) in
    let t : SlotsSound (set_inst slot (with_replica_bk b i) r) =
    set_slots r slot i (with_replica_bk b i) e (λ m x. book_sound m i b (notice_book peer ballot r.bal.max_seen i.replica_bk (at_sound r slot i e s) k) x) s in
    of_if Ends (not (eqb ballot i.bal || (eqb i.bal 0 && eqb (slot + 1) (end r)))) s
    (of_if Ends (leb r.me.quorum (count b.notices)) (release_slots slot (set_inst slot (with_replica_bk b i) r) t) t)

check_slots : (r : Replica) (ballot : ℕ) → SlotsSound r → Ends (check_ballot r ballot)
unfolding check_ballot
check_slots r ballot s =
    by_if Ends (ltb r.bal.max_seen ballot)
    (λ e. let h : r.bal.max_seen < ballot = ltb-true r.bal.max_seen ballot e in each_all (Of r) _ (risen (omega arith)) r.bar.start r.insts s)
    (λ e. s)

pad_bal : (r : Replica) (slot : ℕ) → (pad slot r).bal ≡ r.bal
unfolding pad
pad_bal r slot = refl

notice_slots : (r : Replica) (peer slot ballot : ℕ) → Sound (core r) → SlotsSound r → Ends (handle_msg_accept_notice r peer slot ballot)
unfolding handle_msg_accept_notice
notice_slots r peer slot ballot k s =
    of_if Ends (ltb slot r.bar.start) s
    (by_if Ends (ltb r.bal.max_seen ballot) (λ e. check_slots r ballot s)
    (λ e. let h : ballot ≤ r.bal.max_seen = ltb-false r.bal.max_seen ballot e in
    of_if Ends (not (is_leader r) && eqb ballot r.bal.max_seen) (noticed_slots (pad slot r) peer slot ballot (rw (pad_bal r slot) h) (pad_slots r slot k s)) s))

-- ---- events

guard_slots : (r : Replica) (peer number bar : ℕ) → SlotsSound r → SlotsSound (guard_accept_bar r peer number bar)
unfolding guard_accept_bar update_peer_accept_max
guard_slots r peer number bar s = of_if SlotsSound (newer (get_or r.peer_accept.bar peer fresh_pair) number bar) s s

prepared_slots : (r : Replica) (ballot : ℕ) → SlotsSound r → SlotsSound (prepared r ballot)
unfolding prepared
prepared_slots r ballot s = s

-- a record takes an open slot, at a ballot that is not above the replica's
record_sound : (r : Replica) (ballot : ℕ) (reqs : List Request) (m : ℕ) (i : Instance) → is_open i.status ≡ true → ballot ≤ r.bal.max_seen
    → Of r m i → Of r m (accepting r ballot reqs i)
record_sound r ballot reqs m i o h s =
    let l = open_later m i o s in
    let k = unexecuted_later m i (open_unexecuted i.status o) s in
    record {
      closed = λ x. absurd (omega arith);
      executed = λ x. absurd (omega arith);
      unexecuted = λ x. refl;
      slot_bal = h;
      notices_bal = of_if (λ (b : Option Book). book_bal b ≤ r.bal.max_seen) (is_leader r) s.notices_bal (go i.replica_bk s.notices_bal);
    }
  where
    go : (b : Option Book) → book_bal b ≤ r.bal.max_seen → book_bal (if_none b then Some new_book else λ x. Some x) ≤ r.bal.max_seen
    go None h = omega arith
    go (Some x) h = h

get_pad : (is : List Instance) (n k : ℕ) (i : Instance) → slice_get (is ++ replicate n null_instance) k ≡ Some i → (slice_get is k ≡ Some i) ⊎ (null_instance ≡ i)
get_pad [] zero k i e = let z : ◌≡◌ {A = ℕ} 0 1 = cc in absurd (omega arith)
get_pad [] (suc n) zero i e = inr cc
get_pad [] (suc n) (suc k) i e = ⊎_elim (λ x. let z : ◌≡◌ {A = ℕ} 0 1 = cc in absurd (omega arith)) inr (get_pad [] n k i e)
get_pad (x ∷ is) n zero i e = inl e
get_pad (x ∷ is) n (suc k) i e = get_pad is n k i e

-- what *record* finds at its slot is open
found_open : (r : Replica) (slot : ℕ) (hs : List Highest) (i : Instance) → (ltb slot r.bar.start || is_closed r slot) ≡ false
    → inst_at (with_highest_slot hs (pad slot r)) slot ≡ Some i → is_open i.status ≡ true
unfolding pad inst_at
found_open r slot hs i h e =
    ⊎_elim there (λ (q : null_instance ≡ i). rw (← q))
    (get_pad r.insts (slot + 1 - end r) (slot - r.bar.start) i (held_at_lem (with_highest_slot hs (pad slot r)) slot i e))
  where
    there : slice_get r.insts (slot - r.bar.start) ≡ Some i → is_open i.status ≡ true
    there q = not-false (is_open i.status) (rw ((or_both (ltb slot r.bar.start) (is_closed r slot) h).0, q) at (or_both (ltb slot r.bar.start) (is_closed r slot) h).1)

current_bal : (r : Replica) → Sound (core r) → current r ≤ r.bal.max_seen
unfolding core
current_bal r k = of_if (λ (n : ℕ). n ≤ r.bal.max_seen) (is_leader r) (go k.prep) (omega arith)
  where
    go : (r.bal.prepared ≡ 0) ⊎ (r.bal.prepared ≡ r.bal.prep_sent) → r.bal.prepared ≤ r.bal.max_seen
    go (inl e) = omega arith
    go (inr e) = omega (arith, k.sent)

recorded_slots : (r : Replica) (slot ballot : ℕ) (reqs : List Request) → Sound (core r) → SlotsSound r
    → (not (eqb ballot (current r)) || eqb (current r) 0) ≡ false → (ltb slot r.bar.start || is_closed r slot) ≡ false
    → SlotsSound (recorded r slot ballot reqs)
unfolding recorded pad
recorded_slots r slot ballot reqs k s b h =
    let hs = refresh_highest_slot slot reqs r.highest_slot in
    let t = with_highest_slot hs (pad slot r) in
    let q : ballot ≡ current r = eqb-true ballot (current r) (not-false (eqb ballot (current r)) (or_both _ _ b).0) in
    let u : SlotsSound t = pad_slots r slot k s in
    by_none SlotsSound (inst_at t slot) u
    (λ i e. set_slots t slot i (accepting r ballot reqs i) e (λ m x. record_sound r ballot reqs m i (found_open r slot hs i h e) (rw q (current_bal r k)) x) u)

-- *bars*: below the new commit bar no slot is open, and those below the new exec bar are executed
module _ (bal commit exec commit' exec' : ℕ) (h : exec ≤ exec') where
  bars_each : (m : ℕ) (is : List Instance) → EachSlot (SlotSound bal commit exec) m is → any (λ (i : Instance). is_open i.status) (take (commit' - m) is) ≡ false
      → EachSlot (SlotSound bal commit' exec') m (executed (exec' - m) is)
  unfolding executed
  bars_each m [] s a = go (exec' - m)
    where
      go : (n : ℕ) → EachSlot (SlotSound bal commit' exec') m (executed n [])
      go zero = tt
      go (suc n) = tt
  bars_each m (i ∷ is) s a = go (exec' - m) refl (commit' - m) refl a (bars_each (suc m) is s.1)
    where
      head_closed : (k : ℕ) → commit' - m ≡ k → any (λ (i : Instance). is_open i.status) (take k (i ∷ is)) ≡ false → m < commit' → is_open i.status ≡ false
      head_closed zero f a l = absurd (omega arith)
      head_closed (suc k) f a l = (or_both (is_open i.status) _ a).0

      rest : (k : ℕ) → commit' - m ≡ k → any (λ (i : Instance). is_open i.status) (take k (i ∷ is)) ≡ false
          → any (λ (i : Instance). is_open i.status) (take (commit' - suc m) is) ≡ false
      rest zero f a = let q : commit' - suc m ≡ 0 = omega arith in rw q
      rest (suc k) f a = let q : commit' - suc m ≡ k = omega arith in rw q (or_both (is_open i.status) _ a).1

      go : (n : ℕ) → exec' - m ≡ n → (k : ℕ) → commit' - m ≡ k → any (λ (i : Instance). is_open i.status) (take k (i ∷ is)) ≡ false
          → (any (λ (i : Instance). is_open i.status) (take (commit' - suc m) is) ≡ false → EachSlot (SlotSound bal commit' exec') (suc m) (executed (exec' - suc m) is))
          → EachSlot (SlotSound bal commit' exec') m (executed n (i ∷ is))
      go zero e k f a r =
          let q : exec' - suc m ≡ 0 = omega arith in (
            record {
              closed = head_closed k f a;
              executed = λ l. absurd (omega arith);
              unexecuted = λ l. s.0.unexecuted (omega arith);
              slot_bal = s.0.slot_bal;
              notices_bal = s.0.notices_bal;
            },
            rw q at (r (rest k f a)),
          )
      go (suc n) e k f a r =
          let q : exec' - suc m ≡ n = omega arith in (
            record {
              closed = λ l. refl;
              executed = λ l. refl;
              unexecuted = λ l. absurd (omega arith);
              slot_bal = s.0.slot_bal;
              notices_bal = s.0.notices_bal;
            },
            rw q at (r (rest k f a)),
          )

bars_slots : (r : Replica) (start accept commit exec : ℕ) → SlotsSound r → falls r start commit exec ≡ false → uncommitted r commit ≡ false
    → SlotsSound (bars r start accept commit exec)
unfolding bars
bars_slots r start accept commit exec s f u =
    let a : r.bar.start ≤ start = ltb-false start r.bar.start (or_both (ltb start r.bar.start) (ltb commit r.bar.commit) (or_both _ _ f).0).0 in
    let b : r.bar.exec ≤ exec = ltb-false exec r.bar.exec (or_both (ltb start r.bar.start || ltb commit r.bar.commit) _ f).1 in
    let q : r.bar.start + (start - r.bar.start) ≡ start = omega arith in
    let t = bars_each r.bal.max_seen r.bar.commit r.bar.exec commit exec b r.bar.start r.insts s u in
    rw q at (each_drop (SlotSound r.bal.max_seen commit exec) r.bar.start (start - r.bar.start) (executed (exec - r.bar.start) r.insts) t)

-- ---- every call, and lists of calls

effect_slots : (r : Replica) (c : Call) → Sound (core r) → SlotsSound r → NoneApply (grounds r c) → Ends (effect r c)
unfolding effect grounds
effect_slots r (Heartbeat peer ballot conf commit exec snap) k s n = heartbeat_slots r peer ballot conf commit exec snap k s
effect_slots r (Guard peer number bar) k s n = guard_slots r peer number bar s
effect_slots r (Prepared ballot) k s n = prepared_slots r ballot s
effect_slots r (Record slot ballot reqs) k s n = recorded_slots r slot ballot reqs k s n.1.1.1.0 n.1.1.1.1.0
effect_slots r (Reply peer slot ballot) k s n = reply_slots r peer slot ballot s
effect_slots r (Notice peer slot ballot) k s n = notice_slots r peer slot ballot k s
effect_slots r (CommitNotice peer ballot bar) k s n = commit_slots r ballot bar s
effect_slots r (Bars start accept commit exec) k s n =
    let h = (or_both _ _ n.1.0).0 in
    bars_slots r start accept commit exec s (or_both _ _ (or_both _ _ h).0).0 (or_both (falls r start commit exec || not (ordered r start commit exec)) _ h).1
effect_slots r (Read leases q) k s n = read_slots r leases q s
effect_slots r (Release slot) k s n = release_slots slot r s

step_slots : (r : Replica) (e : Event) → Sound (core r) → SlotsSound r → SlotsSound (after r (step_of r e))
unfolding step
step_slots r e k s = go (refusal_of r e.call e.places) refl
  where
    go : (o : Option ℕ) → refusal_of r e.call e.places ≡ o → SlotsSound (after r (step_by o (effect r e.call)))
    go None q = effect_slots r e.call k s (taken_none r e.call e.places (rw q))
    go (Some n) q = s

run_slots : (r : Replica) (es : List Event) → Sound (core r) → SlotsSound r → SlotsSound (run r es)
unfolding run
run_slots r [] k s = s
run_slots r (e ∷ es) k s = run_slots (after r (step_of r e)) es (step_sound r e k) (step_slots r e k s)

fresh_slots : (id population quorum : ℕ) → SlotsSound (fresh id population quorum)
unfolding fresh
fresh_slots id population quorum = tt

pub reach : ReachSound
reach id population quorum es =
    let s = fresh_sound id population quorum in
    (run_sound (fresh id population quorum) es s, run_slots (fresh id population quorum) es s (fresh_slots id population quorum))
