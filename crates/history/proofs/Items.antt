-- No call at a replica that calls reach has more than 546 items.
use Rattle.std.specs.Prelude.{if◌then◌else◌}
use Prim.Native.Nat.{ℕ, zero, suc, ◌+◌, ◌*◌, ◌-◌, ◌≤◌, ◌<◌}
use mathlib.Core.Bool.{Bool, true, false, ◌&&◌, ◌||◌, not}
use mathlib.Core.List.{List, [], ◌∷◌, ◌++◌, append-nil}
use mathlib.Core.Logic.{◌⊎◌, inl, inr, ⊎_elim}
use Rattle.std.specs.Prelude.{Option, Some}
use mathlib.Core.Path.{◌≡◌, refl, ap}
use native.Mathlib.Omega.{arith}
use lib.Dec.{ltb, leb, eqb}
use lib.ListN.{length, drop, length-append, length-drop, length-map}
use borrow.Author.Tests.{ltb-true, ltb-false, le-ltb, eqb-true, eqb-false, ne_eqb, not-false}
use Rattle.std.proofs.lemmas.Option.{slice_get_within}
use Rattle.words.proofs.Tests.{or_both}
use Rattle.words.specs.Choice.{if_none◌then◌else◌}
use Rattle.bitmap.specs.Bitmap.{get, mark, count}
use Rattle.roster_conf.specs.Conf.{Conf, leads}
use Rattle.roster_conf.specs.Ground.{Ground, ◌when◌or◌, refusal}
use Rattle.items.specs.Item.{Item, Commit}
use Rattle.ids.specs.Limits.{window, hold, items}
use Rattle.bodega.specs.Replica.{Status, order, is_open, is_accepting, new_book, ReadReq, Instance, null_instance, Replica, fresh, Call, Heartbeat, Guard, Prepared, Record, Reply, Notice, CommitNotice, Bars, Read, Release, Done, is_leader, end, inst_at, set_inst, pad, with_replica_bk}
use Rattle.bodega.specs.Localread.{commit_condition, released, release_held_read_reqs, release_from, ReadAnswer, Found, Missing, FromStore, Consensus, HeldBy, Again}
use Rattle.bodega.specs.Request.{read_answer, answered, treat_read}
use Rattle.bodega.specs.Conflease.{update_peer_accept_max, first_open, any_open, last_open, reprepared, prelogs, preparing, become_a_leader, adopted, heard_new_conf}
use Rattle.bodega.specs.Heartbeat.{check_ballot, Walk, walk, advance_commit_bar, heard_commit_notice, heard_conf, installs, heard_bars, heard_heartbeat}
use Rattle.bodega.specs.Messages.{resend_missed_accepts, take_ack, take_notice, handle_msg_accept_reply, noticed, handle_msg_accept_notice}
use Rattle.bodega.specs.Grounds.{grounds}
use Rattle.bodega.specs.Step.{effect, refusal_of, run}
use Rattle.history.specs.Invariant.{core, Sound, EachSlot}
use Rattle.history.specs.Capacity.{SlotSmall, Each, Small, Bounded, PlacesSuffice}
use Rattle.bodega.proofs.Choices.{of_if, of_none, by_if, by_none}
use Rattle.history.proofs.Reach.{appended, first_open_lem}
use Rattle.history.proofs.Slots.{each_drop, each_map, held_at_lem, reach}
use Rattle.history.proofs.Capacity.{at_each, from_each, release_small, appended_small, preparing_small, pad_small, marked_small, capacity}

-- at most n items
abbrev Most : ℕ → Done → Type 0
Most n d = length d.items ≤ n

-- ---- releases: an item for each read held

release_items : (slot : ℕ) (r : Replica) → Small r → Most hold (release_held_read_reqs slot r)
unfolding release_held_read_reqs
release_items slot r s =
    by_none (Most hold) (inst_at r slot) (omega arith) λ i e.
    by_none (Most hold) i.replica_bk (omega arith) λ b f.
    rw (length-map b.holding (released r i)) (rw f at (at_each SlotSmall r slot i e s.0).reads)

from_items : (n slot : ℕ) (r : Replica) → Small r → Most (n * hold) (release_from n slot r)
unfolding release_from
from_items zero slot r s = omega arith
from_items (suc n) slot r s =
    let d = release_held_read_reqs slot r in
    rw (length-append d.items (release_from n (slot + 1) d.replica).items)
    (omega (arith, release_items slot r s, from_items n (slot + 1) d.replica (release_small slot r s)))

-- ---- the walk: a commit for each Accepting slot that it passes

abbrev Unaccepting : Instance → Type 0
Unaccepting i = is_accepting i.status ≡ false

walk_items : (ballot slot n : ℕ) (is : List Instance) → length (walk ballot slot n is).items ≤ length is
unfolding walk
walk_items ballot slot zero is = omega arith
walk_items ballot slot (suc n) [] = omega arith
walk_items ballot slot (suc n) (i ∷ is) =
    let h = walk_items ballot (slot + 1) n is in
    of_if few (ltb i.bal ballot || ltb (order i.status) 2) (omega arith)
    (of_if few (not (is_open i.status)) (omega arith) (omega arith))
  where
    few : Walk → Type 0
    few w = length w.items ≤ suc (length is)

between : (n : ℕ) → ltb n 2 ≡ false → ltb n 3 ≡ true → eqb n 2 ≡ false → ⊥
between n a b c = eqb-false n 2 c (omega (arith, ltb-false n 2 a, ltb-true n 3 b))

walk_none : (ballot slot n m : ℕ) (is : List Instance) → EachSlot (λ k. Unaccepting) m is → (walk ballot slot n is).items ≡ []
unfolding walk
walk_none ballot slot zero m is s = refl
walk_none ballot slot (suc n) m [] s = refl
walk_none ballot slot (suc n) m (i ∷ is) s =
    by_if empty (ltb i.bal ballot || ltb (order i.status) 2) (λ t. refl) λ t.
    by_if empty (not (is_open i.status)) (λ o. walk_none ballot (slot + 1) n (suc m) is s.1)
    (λ o. absurd (between (order i.status) (or_both (ltb i.bal ballot) _ t).1 (not-false _ o) s.0))
  where
    empty : Walk → Type 0
    empty w = w.items ≡ []

advance_items : (r : Replica) (ballot commit : ℕ) → Most (length r.insts) (advance_commit_bar r ballot commit)
unfolding advance_commit_bar
advance_items r ballot commit =
    let k = r.bar.commit - r.bar.start in
    omega (arith, walk_items ballot r.bar.commit (commit - r.bar.commit) (drop k r.insts), length-drop k r.insts)

advance_none : (r : Replica) (ballot commit : ℕ) → Each Unaccepting r → Most 0 (advance_commit_bar r ballot commit)
unfolding advance_commit_bar
advance_none r ballot commit s =
    let k = r.bar.commit - r.bar.start in
    rw (walk_none ballot r.bar.commit (commit - r.bar.commit) (r.bar.start + k) (drop k r.insts) (each_drop (λ m. Unaccepting) r.bar.start k r.insts s))
    (omega arith)

commit_items_lem : (r : Replica) (ballot commit : ℕ) → Most (length r.insts) (heard_commit_notice r ballot commit)
unfolding heard_commit_notice
commit_items_lem r ballot commit = of_if (Most (length r.insts)) (eqb ballot r.bal.max_seen) (advance_items r ballot commit) (omega arith)

heard_items : (n peer ballot commit exec snap : ℕ) (r : Replica) → Most n (advance_commit_bar r ballot commit) → Most n (heard_bars peer ballot commit exec snap r)
unfolding heard_bars
heard_items n peer ballot commit exec snap r h =
    of_if (Most n) (ltb exec r.bar.exec) (omega arith) (rw (append-nil (advance_commit_bar r ballot commit).items) h)

-- ---- step-up: a lead, a prelog for each open slot, the releases from the first to the last open slot, a prepare

prelogs_items : (slot : ℕ) (is : List Instance) → length (prelogs slot is) ≤ length is
unfolding prelogs
prelogs_items slot [] = omega arith
prelogs_items slot (i ∷ is) =
    let h = prelogs_items (slot + 1) is in
    of_if (λ (l : List Item). length l ≤ suc (length is)) (is_open i.status) (omega arith) (omega arith)

last_within : (is : List Instance) → last_open is ≤ length is
unfolding last_open
last_within [] = omega arith
last_within (i ∷ is) =
    let h = last_within is in
    of_if (λ (n : ℕ). n ≤ suc (length is)) (is_open i.status && not (any_open is)) (omega arith) (omega arith)

none_open : (is : List Instance) → any_open is ≡ false → first_open is ≡ length is
unfolding first_open any_open
none_open [] e = refl
none_open (i ∷ is) e =
    let h = none_open is (or_both (is_open i.status) (any_open is) e).1 in
    rw (or_both (is_open i.status) (any_open is) e).0 (ap suc h)

last_open_lem : (is : List Instance) → any_open is ≡ true → last_open is < length is
unfolding any_open last_open
last_open_lem [] e = let z : ◌≡◌ {A = ℕ} 0 1 = cc in absurd (omega arith)
last_open_lem (i ∷ is) e = go (is_open i.status) (any_open is) (last_open_lem is) e
  where
    go : (a b : Bool) → (b ≡ true → last_open is < length is) → (a || b) ≡ true → (if a && not b then 0 else suc (last_open is)) < suc (length is)
    go true true h e = omega (arith, h refl)
    go true false h e = omega arith
    go false true h e = omega (arith, h refl)
    go false false h e = let z : ◌≡◌ {A = ℕ} 0 1 = cc in absurd (omega arith)

-- a slot is appended only where none is open, and then one slot is released
span_items : (is : List Instance) → length is ≤ window → length (appended is) + suc (last_open is - first_open is) * hold + 2 ≤ items
span_items is w = go (any_open is) refl
  where
    few : List Instance → Type 0
    few l = length l + suc (last_open is - first_open is) * hold + 2 ≤ items

    go : (b : Bool) → any_open is ≡ b → few (appended is)
    go true e =
        by_if few (eqb (first_open is) (length is))
        (λ f. let o = first_open_lem is (eqb-true (first_open is) (length is) f) in let z : ◌≡◌ {A = ℕ} 0 1 = cc in absurd (omega arith))
        (λ f. omega (arith, last_open_lem is e))
    go false e =
        let f = none_open is e in
        let l = last_within is in
        of_if few (eqb (first_open is) (length is)) (omega (arith, length-append is (null_instance ∷ []))) (omega arith)

leader_items : (r : Replica) → length r.insts ≤ window → Small r → Most items (become_a_leader r)
unfolding become_a_leader
leader_items r w s =
    let is = appended r.insts in
    let first = first_open r.insts in
    let n = suc (last_open r.insts - first) in
    simp length-append
    (omega (arith, prelogs_items r.bar.start is, from_items n (r.bar.start + first) (preparing is r) (preparing_small r s), span_items r.insts w))

-- and no slot is left Accepting, so that the walk after it has no items
reprepared_unaccepting : (bal : ℕ) (i : Instance) → Unaccepting (reprepared bal i)
reprepared_unaccepting bal i = by_if Unaccepting (is_open i.status) (λ o. refl) (λ o. closed i.status o)
  where
    closed : (s : Status) → is_open s ≡ false → is_accepting s ≡ false
    closed s o = ne_eqb (order s) 2 (λ e. omega (arith, ltb-false (order s) 3 o))

leader_unaccepting : (r : Replica) → Small r → Each Unaccepting (become_a_leader r).replica
unfolding become_a_leader
leader_unaccepting r s =
    from_each Unaccepting (λ i b x. x) _ _ (preparing (appended r.insts) r)
    (each_map (λ m. SlotSmall) (λ m. Unaccepting) (reprepared r.bal.max_seen) (λ m i x. reprepared_unaccepting r.bal.max_seen i) r.bar.start (appended r.insts) (appended_small r s))

-- ---- heartbeats

-- a step-up, or no items yet
abbrev SteppedUp : Done → Type 0
SteppedUp d = Most items d × Each Unaccepting d.replica

abbrev Nothing : Done → Type 0
Nothing d = (d.items ≡ []) × (length d.replica.insts ≤ window)

abbrev SomeOrNone : Done → Type 0
SomeOrNone d = SteppedUp d ⊎ Nothing d

module _ (r : Replica) (w : length r.insts ≤ window) (s : Small r) where
  new_conf_items : (ballot : ℕ) (c : Conf) → SomeOrNone (heard_new_conf r ballot c)
  unfolding heard_new_conf update_peer_accept_max
  new_conf_items ballot c =
      of_if SomeOrNone (leads c r.me.id)
      (inl (leader_items (adopted r ballot c) w s, leader_unaccepting (adopted r ballot c) s))
      (inr (refl, w))

  conf_items : (peer ballot : ℕ) (conf : Option Conf) → SomeOrNone (heard_conf r peer ballot conf)
  unfolding heard_conf
  conf_items peer ballot conf =
      of_none SomeOrNone conf (inr (refl, w)) (λ c. of_if SomeOrNone (installs r peer ballot c) (new_conf_items ballot c) (inr (refl, w)))

  heartbeat_items : (peer ballot : ℕ) (conf : Option Conf) (commit exec snap : ℕ) → Most items (heard_heartbeat r peer ballot conf commit exec snap)
  unfolding heard_heartbeat
  heartbeat_items peer ballot conf commit exec snap = of_if (Most items) (ltb ballot r.bal.max_seen) (omega arith) (⊎_elim up quiet (conf_items peer ballot conf))
    where
      now : Done
      now = heard_conf r peer ballot conf

      later : Done
      later = heard_bars peer ballot commit exec snap now.replica

      up : SteppedUp now → length (now.items ++ later.items) ≤ items
      up u =
          rw (length-append now.items later.items)
          (omega (arith, u.0, heard_items 0 peer ballot commit exec snap now.replica (advance_none now.replica ballot commit u.1)))

      quiet : Nothing now → length (now.items ++ later.items) ≤ items
      quiet q =
          rw q.0
          (omega (arith, q.1, heard_items (length now.replica.insts) peer ballot commit exec snap now.replica (advance_items now.replica ballot commit)))

-- ---- replies: a resend for each slot that is held from the commit bar on, a commit

held_within : (r : Replica) (slot : ℕ) (i : Instance) → inst_at r slot ≡ Some i → slot < end r
held_within r slot i e = omega (arith, slice_get_within r.insts (slot - r.bar.start) i (held_at_lem r slot i e))

resend_items : (r : Replica) (peer n : ℕ) → (length (resend_missed_accepts r peer n) ≤ n) × (length (resend_missed_accepts r peer n) ≤ end r - r.bar.commit)
unfolding resend_missed_accepts
resend_items r peer zero = (omega arith, omega arith)
resend_items r peer (suc n) =
    let l = resend_missed_accepts r peer n in
    let ih : (length l ≤ n) × (length l ≤ end r - r.bar.commit) = resend_items r peer n in
    let more : Few l = (omega (arith, ih.0), ih.1) in
    by_none Few (inst_at r (r.bar.commit + n)) more λ i e.
    of_if Few (not (is_accepting i.status)) more
    (of_none Few i.leader_bk more λ acks.
    of_if Few (get acks peer) (omega arith, omega arith)
    (of_if Few (eqb i.bal r.bal.prepared) (omega (arith, ih.0), omega (arith, ih.0, held_within r (r.bar.commit + n) i e)) more))
  where
    Few : List Item → Type 0
    Few l = (length l ≤ suc n) × (length l ≤ end r - r.bar.commit)

ack_items : (r : Replica) (peer slot ballot : ℕ) (l : List Item) → Most (length l + 1) (take_ack r peer slot ballot l)
unfolding take_ack
ack_items r peer slot ballot l =
    of_none (Most (length l + 1)) (inst_at r slot) (omega arith) λ i.
    of_if (Most (length l + 1)) (not (is_accepting i.status) || ltb ballot i.bal) (omega arith)
    (of_none (Most (length l + 1)) i.leader_bk (omega arith) λ acks.
    of_if (Most (length l + 1)) (get acks peer) (omega arith)
    (of_if (Most (length l + 1)) (commit_condition (mark acks peer) i.reqs r.me.quorum r.conf) (omega (arith, length-append l (Commit slot ∷ []))) (omega arith)))

reply_items : (r : Replica) (peer slot ballot : ℕ) → length r.insts ≤ window → r.bar.start ≤ r.bar.commit → Most (window + 1) (handle_msg_accept_reply r peer slot ballot)
unfolding handle_msg_accept_reply
reply_items r peer slot ballot w c =
    of_if (Most (window + 1)) (ltb slot r.bar.start) (omega arith)
    (of_if (Most (window + 1)) (not (eqb ballot r.bal.prepared) || not (is_leader r)) (omega arith)
    (let l : List Item = if eqb peer r.me.id then [] else resend_missed_accepts r peer (slot - r.bar.commit) in
    let h : length l ≤ window = of_if (λ (l : List Item). length l ≤ window) (eqb peer r.me.id) (omega arith) (omega (arith, (resend_items r peer (slot - r.bar.commit)).1)) in
    omega (arith, ack_items r peer slot ballot l)))

-- ---- notices: a lead, or the releases of one slot

noticed_items_lem : (r : Replica) (peer slot ballot : ℕ) → Small r → Most hold (noticed r peer slot ballot)
unfolding noticed
noticed_items_lem r peer slot ballot s =
    by_none (Most hold) (inst_at r slot) (omega arith) λ i e.
    let b = take_notice peer ballot (if_none i.replica_bk then new_book else λ x. x) in
    of_if (Most hold) (not (eqb ballot i.bal || (eqb i.bal 0 && eqb (slot + 1) (end r)))) (omega arith)
    (of_if (Most hold) (leb r.me.quorum (count b.notices))
    (release_items slot (set_inst slot (with_replica_bk b i) r) (marked_small r peer slot ballot i e s)) (omega arith))

check_items : (r : Replica) (ballot : ℕ) → Most 1 (check_ballot r ballot)
unfolding check_ballot
check_items r ballot =
    of_if (Most 1) (ltb r.bal.max_seen ballot) (of_if (λ (l : List Item). length l ≤ 1) (is_leader r) (omega arith) (omega arith)) (omega arith)

notice_items : (r : Replica) (peer slot ballot : ℕ) → Small r → Most hold (handle_msg_accept_notice r peer slot ballot)
unfolding handle_msg_accept_notice
notice_items r peer slot ballot s =
    of_if (Most hold) (ltb slot r.bar.start) (omega arith)
    (of_if (Most hold) (ltb r.bal.max_seen ballot) (omega (arith, check_items r ballot))
    (of_if (Most hold) (not (is_leader r) && eqb ballot r.bal.max_seen) (noticed_items_lem (pad slot r) peer slot ballot (pad_small r slot s)) (omega arith)))

-- ---- every call

answered_items : (r : Replica) (q : ReadReq) (a : ReadAnswer) → Most 1 (answered r q a)
answered_items r q (Found v) = omega arith
answered_items r q Missing = omega arith
answered_items r q FromStore = omega arith
answered_items r q Consensus = omega arith
answered_items r q (HeldBy slot) = omega arith
answered_items r q Again = omega arith

read_items : (r : Replica) (leases : ℕ) (q : ReadReq) → Most 1 (treat_read r leases q)
unfolding treat_read
read_items r leases q = answered_items r q (read_answer r leases q.key)

effect_items : (r : Replica) (c : Call) → Sound (core r) → Small r → Most items (effect r c)
unfolding effect core
effect_items r (Heartbeat peer ballot conf commit exec snap) k s = heartbeat_items r k.in_window s peer ballot conf commit exec snap
effect_items r (Guard peer number bar) k s = omega arith
effect_items r (Prepared ballot) k s = omega arith
effect_items r (Record slot ballot reqs) k s = omega arith
effect_items r (Reply peer slot ballot) k s = omega (arith, reply_items r peer slot ballot k.in_window (omega (arith, k.start_exec, k.exec_commit)))
effect_items r (Notice peer slot ballot) k s = omega (arith, notice_items r peer slot ballot s)
effect_items r (CommitNotice peer ballot bar) k s = omega (arith, commit_items_lem r ballot bar, k.in_window)
effect_items r (Bars start accept commit exec) k s = omega arith
effect_items r (Read leases q) k s = omega (arith, read_items r leases q)
effect_items r (Release slot) k s = omega (arith, release_items slot r s)

pub bounded : Bounded
bounded id population quorum es c = effect_items (run (fresh id population quorum) es) c (reach id population quorum es).0 (capacity id population quorum es)

-- ---- refusal 20

without : (gs : List Ground) (places n : ℕ) → n ≤ places → refusal (gs ++ (20 when ltb places n or [])) ≡ refusal gs
without [] places n h = rw (le-ltb places n h)
without (g ∷ gs) places n h = rw (without gs places n h)

pub places_suffice : PlacesSuffice
unfolding refusal_of
places_suffice id population quorum es c places h =
    let r = run (fresh id population quorum) es in
    without (grounds r c) places (length (effect r c).items) (omega (arith, bounded id population quorum es c))
